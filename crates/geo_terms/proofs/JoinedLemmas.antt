-- Texts that are joined are found again between the places where they begin.
use Rattle.std.proofs.Common.{◌≡◌, ℕ, ◌+◌, ◌-◌, List, ◌++◌, length, take, drop, sym, ap, ◌∙◌}
use Rattle.std.proofs.Common.{arith, subst, ◌≤◌, [], ◌∷◌, get_or, refl}
use Rattle.std.specs.Char.{to_ascii_uppercase}
use Rattle.std.specs.Str.{IsUtf8, IsCharBoundary}
use Rattle.std.proofs.lemmas.List.{append_assoc, map-append, length-map, length-append, take_at}
use Rattle.std.proofs.lemmas.List.{drop_at, get_or_at}
use Rattle.std.proofs.lemmas.Str.{IsCharBoundary-at_seam, IsCharBoundary-start, IsUtf8-append}
use Rattle.std.proofs.lemmas.Bool.Decides.{nat_tests}
use Rattle.geo_terms.specs.JoinedTexts.{IsCutAt, parts_at}
use Rattle.geo_terms.specs.PlaceForm.{upper}

-- the whole, from its second part on in one piece, and from its third, and from its fourth
two_ends : (text country region city postal : List ℕ)
    → text ≡ (upper (country ++ region) ++ city) ++ postal
    → text ≡ (upper country ++ upper region) ++ city ++ postal
two_ends text country region city postal is =
    is
    ∙ ap (λ (front : List ℕ). (front ++ city) ++ postal)
    (map-append to_ascii_uppercase country region)

from_region : (text country region city postal : List ℕ)
    → text ≡ (upper (country ++ region) ++ city) ++ postal
    → text ≡ upper country ++ (upper region ++ (city ++ postal))
from_region text country region city postal is =
    two_ends text country region city postal is
    ∙ append_assoc (upper country ++ upper region) city postal
    ∙ append_assoc (upper country) (upper region) (city ++ postal)

from_city : (text country region city postal : List ℕ)
    → text ≡ (upper (country ++ region) ++ city) ++ postal
    → text ≡ (upper country ++ upper region) ++ (city ++ postal)
from_city text country region city postal is =
    two_ends text country region city postal is
    ∙ append_assoc (upper country ++ upper region) city postal

long_front : (country region : List ℕ)
    → length (upper country ++ upper region) ≡ length country + length region
long_front country region =
    length-append (upper country) (upper region)
    ∙ omega (
      arith,
      length-map country to_ascii_uppercase,
      length-map region to_ascii_uppercase,
    )

high_kept : (b : ℕ) → 128 ≤ to_ascii_uppercase b → to_ascii_uppercase b ≡ b
high_kept b h = grind (arith, nat_tests)

lead_kept : (b x : ℕ) → x ≡ to_ascii_uppercase b → 128 ≤ x → (128 ≤ b → 192 ≤ b) → 192 ≤ x
lead_kept b x is wide start =
    let same : x ≡ b =
    is ∙ high_kept b (subst (λ (n : ℕ). 128 ≤ n) is wide) in
    subst (λ (n : ℕ). 192 ≤ n) (sym same) (start (subst (λ (n : ℕ). 128 ≤ n) same wide))

-- a text may be cut before what was put in upper case
cut_before_upper : (text front region rest : List ℕ) → text ≡ front ++ (upper region ++ rest)
    → IsUtf8 region → IsUtf8 rest → IsCharBoundary text (length front)
cut_before_upper text front [] rest is region-utf8 rest-utf8 =
    IsCharBoundary-at_seam text front rest is rest-utf8
cut_before_upper text front (b ∷ bs) rest is region-utf8 rest-utf8 =
    let read : get_or text (length front) 0 ≡ to_ascii_uppercase b =
    ap (λ (t : List ℕ). get_or t (length front) 0) is
    ∙ get_or_at front (to_ascii_uppercase b) (upper bs ++ rest) 0 (length front) refl in
    let start = IsCharBoundary-start (b ∷ bs) region-utf8 in
    let long : length front ≤ length text =
    omega (arith, ap length is, length-append front (upper (b ∷ bs) ++ rest)) in (
      long,
      λ within wide. lead_kept b (get_or text (length front) 0) read wide
          (start.1 (omega arith)),
    )

pub parts_joined : (text country region city postal : List ℕ) (r c p : ℕ)
    → text ≡ (upper (country ++ region) ++ city) ++ postal → r ≡ length country
    → c ≡ r + length region → p ≡ c + length city
    → parts_at text r c p ≡ record {
      country = upper country;
      region = upper region;
      city = city;
      postal = postal;
    }
parts_joined text country region city postal r c p is r-is c-is p-is =
    let u = upper country in
    let v = upper region in
    let u-long : length u ≡ r = length-map country to_ascii_uppercase ∙ sym r-is in
    let v-long : length v ≡ c - r = omega (arith, length-map region to_ascii_uppercase, c-is) in
    let uv-long : length (u ++ v) ≡ c = omega (arith, long_front country region, r-is, c-is) in
    let city-long : length city ≡ p - c = omega (arith, p-is) in
    let front-long : length ((u ++ v) ++ city) ≡ p =
    omega (arith, length-append (u ++ v) city, uv-long, p-is) in
    let second = from_region text country region city postal is in
    let third = from_city text country region city postal is in
    let fourth = two_ends text country region city postal is in
    let country-is : take r text ≡ u =
    ap (take r) second ∙ take_at u (v ++ (city ++ postal)) r u-long in
    let region-is : take (c - r) (drop r text) ≡ v =
    ap (take (c - r)) (ap (drop r) second ∙ drop_at u (v ++ (city ++ postal)) r u-long)
    ∙ take_at v (city ++ postal) (c - r) v-long in
    let city-is : take (p - c) (drop c text) ≡ city =
    ap (take (p - c)) (ap (drop c) third ∙ drop_at (u ++ v) (city ++ postal) c uv-long)
    ∙ take_at city postal (p - c) city-long in
    let postal-is : drop p text ≡ postal =
    ap (drop p) fourth ∙ drop_at ((u ++ v) ++ city) postal p front-long in
    λ i. record {
      country = country-is i;
      region = region-is i;
      city = city-is i;
      postal = postal-is i;
    }

pub cut_joined : (text country region city postal : List ℕ) (r c p : ℕ)
    → text ≡ (upper (country ++ region) ++ city) ++ postal → r ≡ length country
    → c ≡ r + length region → p ≡ c + length city
    → IsUtf8 region → IsUtf8 city → IsUtf8 postal → IsCutAt text r c p
cut_joined text country region city postal r c p is r-is c-is p-is region-utf8 city-utf8
    postal-utf8 =
    let u = upper country in
    let v = upper region in
    let ends = IsUtf8-append city postal city-utf8 postal-utf8 in
    let u-long : length u ≡ r = length-map country to_ascii_uppercase ∙ sym r-is in
    let uv-long : length (u ++ v) ≡ c = omega (arith, long_front country region, r-is, c-is) in
    let front-long : length ((u ++ v) ++ city) ≡ p =
    omega (arith, length-append (u ++ v) city, uv-long, p-is) in
    record {
      region_city = omega (arith, c-is);
      city_postal = omega (arith, p-is);
      region =
          subst (IsCharBoundary text) u-long
          (cut_before_upper text u region (city ++ postal)
          (from_region text country region city postal is) region-utf8 ends);
      city =
          subst (IsCharBoundary text) uv-long
          (IsCharBoundary-at_seam text (u ++ v) (city ++ postal)
          (from_city text country region city postal is) ends);
      postal =
          subst (IsCharBoundary text) front-long
          (IsCharBoundary-at_seam text ((u ++ v) ++ city) postal
          (two_ends text country region city postal is) postal-utf8);
    }
