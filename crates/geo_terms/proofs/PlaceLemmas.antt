-- Texts of a place in upper case are in form where they were in form before.
use Rattle.std.proofs.Common.{◌≡◌, ℕ, ◌<◌, ◌≤◌, Bool, true, false, cond, not, Ok, ◌&&◌, List}
use Rattle.std.proofs.Common.{[], ◌∷◌, length, get_or, IsTrue, refl, sym, ap, ◌∙◌, subst, arith}
use Rattle.std.specs.Char.{is_ascii_alphabetic, is_ascii_alphanumeric}
use Rattle.std.specs.Char.{to_ascii_uppercase}
use Rattle.std.specs.List.{list_all}
use Rattle.std.specs.Prelude.{nat_eq, nat_le, take, zero, suc, ◌+◌, ◌^◌}
use Rattle.std.proofs.lemmas.Bool.Decides.{nat_tests}
use Rattle.std.proofs.lemmas.Str.{IsCharBoundary-after_ascii, IsUtf8-from_ascii}
use Rattle.std.specs.Str.{IsAscii, IsCharBoundary, IsUtf8}
use Rattle.std.proofs.lemmas.List.{length-map}
use Rattle.std.proofs.lemmas.Str.Ascii.{uppercase-uppercase}
use Rattle.geo_terms.specs.SaidOf.{said_by, said_of}
use Rattle.geo_terms.specs.declared.place.Said.TheVariants.{At}
use Rattle.geo_terms.specs.PlaceForm.{IsPlace, PlaceParts, is_empty, is_country, is_region}
use Rattle.geo_terms.specs.PlaceForm.{is_subdivision, upper, country_of_region, country_place}
use Rattle.geo_terms.specs.PlaceForm.{names_country, nowhere, same_text, country_fits}
use Rattle.geo_terms.specs.PlaceForm.{region_fits, lengths_fit}
use Rattle.geo_terms.specs.PlaceForm.{parts_of, says_nothing}

alphabetic-upper : (b : ℕ) → is_ascii_alphabetic (to_ascii_uppercase b) ≡ is_ascii_alphabetic b
alphabetic-upper b = grind (arith, nat_tests)

alphanumeric-upper : (b : ℕ)
    → is_ascii_alphanumeric (to_ascii_uppercase b) ≡ is_ascii_alphanumeric b
alphanumeric-upper b = grind (arith, nat_tests)

dash-upper : (b : ℕ) → nat_eq (to_ascii_uppercase b) 45 ≡ nat_eq b 45
dash-upper b = grind (arith, nat_tests)

upper-upper : (bs : List ℕ) → upper (upper bs) ≡ upper bs
upper-upper [] = refl
upper-upper (b ∷ bs) = rw (uppercase-uppercase b, upper-upper bs) refl

is_empty-upper : (bs : List ℕ) → is_empty (upper bs) ≡ is_empty bs
is_empty-upper [] = refl
is_empty-upper (b ∷ bs) = refl

all_alphanumeric-upper : (bs : List ℕ)
    → list_all is_ascii_alphanumeric (upper bs) ≡ list_all is_ascii_alphanumeric bs
all_alphanumeric-upper [] = refl
all_alphanumeric-upper (b ∷ bs) = rw (alphanumeric-upper b, all_alphanumeric-upper bs) refl

is_subdivision-upper : (bs : List ℕ) → is_subdivision (upper bs) ≡ is_subdivision bs
is_subdivision-upper bs =
    rw (is_empty-upper bs, length-map bs to_ascii_uppercase, all_alphanumeric-upper bs) refl

is_country-upper : (bs : List ℕ) → is_country (upper bs) ≡ is_country bs
is_country-upper [] = refl
is_country-upper (a ∷ []) = refl
is_country-upper (a ∷ b ∷ []) = rw (alphabetic-upper a, alphabetic-upper b) refl
is_country-upper (a ∷ b ∷ c ∷ bs) = refl

is_region-upper : (bs : List ℕ) → is_region (upper bs) ≡ is_region bs
is_region-upper [] = refl
is_region-upper (a ∷ []) = refl
is_region-upper (a ∷ b ∷ []) = refl
is_region-upper (a ∷ b ∷ c ∷ bs) =
    rw (alphabetic-upper a, alphabetic-upper b, dash-upper c, is_subdivision-upper bs) refl

country_fits-upper : (bs : List ℕ) → country_fits (upper bs) ≡ country_fits bs
unfolding country_fits
country_fits-upper bs = rw (is_empty-upper bs, is_country-upper bs) refl

region_fits-upper : (bs : List ℕ) → region_fits (upper bs) ≡ region_fits bs
unfolding region_fits
region_fits-upper bs = rw (is_empty-upper bs, is_region-upper bs) refl

and_left : (x y : Bool) → (x && y) ≡ true → x ≡ true
and_left true y h = refl
and_left false y h = h

-- a region that is in form begins with two letters
region_letters : (a b c : ℕ) (bs : List ℕ) → IsTrue (region_fits (a ∷ b ∷ c ∷ bs))
    → (is_ascii_alphabetic a && is_ascii_alphabetic b) ≡ true
unfolding region_fits
region_letters a b c bs h = and_left _ (nat_eq c 45) (and_left _ (is_subdivision bs) h)

-- so its first two bytes are a country
region_has_country : (region : List ℕ)
    → IsTrue (region_fits region) → IsTrue (country_fits (country_of_region region))
unfolding region_fits country_fits
region_has_country [] h = refl
region_has_country (a ∷ []) h = refl
region_has_country (a ∷ b ∷ []) h = absurd (let e : false ≡ true = h in cc)
region_has_country (a ∷ b ∷ c ∷ bs) h = region_letters a b c bs h

alphabetic_small : (b : ℕ) → is_ascii_alphabetic b ≡ true → b < 128
alphabetic_small b h = grind (arith, nat_tests)

and_right : (x y : Bool) → (x && y) ≡ true → y ≡ true
and_right true y h = h
and_right false y h = absurd (let e : false ≡ true = h in cc)

-- the first two bytes of a region that is in form are ASCII
letters_of_region : (region : List ℕ) → IsTrue (region_fits region) → 2 ≤ length region
    → (get_or region 0 0 < 128) × (get_or region 1 0 < 128)
unfolding region_fits
letters_of_region [] h n = absurd (omega arith)
letters_of_region (a ∷ []) h n = absurd (let e : false ≡ true = h in cc)
letters_of_region (a ∷ b ∷ []) h n = absurd (let e : false ≡ true = h in cc)
letters_of_region (a ∷ b ∷ c ∷ bs) h n =
    let both = region_letters a b c bs h in
    let first = and_left (is_ascii_alphabetic a) (is_ascii_alphabetic b) both in
    let second = and_right (is_ascii_alphabetic a) (is_ascii_alphabetic b) both in
    (alphabetic_small a first, alphabetic_small b second)

chosen_country : (country region : List ℕ)
    → IsTrue (country_fits country) → IsTrue (region_fits region)
    → IsTrue (country_fits (cond (is_empty country) (country_of_region region) country))
chosen_country [] region c r = region_has_country region r
chosen_country (a ∷ bs) region c r = c

chosen_owns : (country region : List ℕ) → IsTrue (region_fits region)
    → upper (cond (is_empty country) (country_of_region region) country) ≡ [] → upper region ≡ []
unfolding region_fits
chosen_owns (a ∷ bs) region r e = absurd cc
chosen_owns [] [] r e = refl
chosen_owns [] (a ∷ []) r e = absurd (let e : false ≡ true = r in cc)
chosen_owns [] (a ∷ b ∷ bs) r e = absurd cc

-- fields that are in form and say something make a place
pub place_in_form : (country region city postal : List ℕ)
    → IsTrue (country_fits country) → IsTrue (region_fits region) → IsTrue (lengths_fit city postal)
    → says_nothing (parts_of country region city postal) ≡ false
    → IsPlace (parts_of country region city postal)
place_in_form country region city postal c r l says = record {
  country =
      country_fits-upper (cond (is_empty country) (country_of_region region) country)
      ∙ chosen_country country region c r;
  region = region_fits-upper region ∙ r;
  lengths = l;
  upper_country = upper-upper (cond (is_empty country) (country_of_region region) country);
  upper_region = upper-upper region;
  owned = chosen_owns country region r;
  says = rw says refl;
}

-- so do the texts that are made of them
pub made_in_form : (country region city postal : List ℕ) (made : PlaceParts)
    → made ≡ parts_of country region city postal
    → IsTrue (country_fits country) → IsTrue (region_fits region) → IsTrue (lengths_fit city postal)
    → says_nothing made ≡ false → IsPlace made
made_in_form country region city postal made is c r l says =
    subst IsPlace (sym is)
    (place_in_form country region city postal c r l (ap says_nothing (sym is) ∙ says))

-- they are short
most_letters : (letters : List ℕ) → IsTrue (country_fits letters) → length letters ≤ 2
unfolding country_fits
most_letters [] h = omega arith
most_letters (a ∷ []) h = omega arith
most_letters (a ∷ b ∷ []) h = omega arith
most_letters (a ∷ b ∷ c ∷ bs) h = absurd (let e : false ≡ true = h in cc)

at_most_told : (n m : ℕ) → nat_le n m ≡ true → n ≤ m
at_most_told n m h = grind (arith, nat_tests)

most_subdivision : (bs : List ℕ) → is_subdivision bs ≡ true → length bs ≤ 3
most_subdivision bs h =
    let front = and_left (not (is_empty bs) && nat_le (length bs) 3)
    (list_all is_ascii_alphanumeric bs) h in
    at_most_told (length bs) 3 (and_right (not (is_empty bs)) (nat_le (length bs) 3) front)

most_region : (region : List ℕ) → IsTrue (region_fits region) → length region ≤ 6
unfolding region_fits
most_region [] h = omega arith
most_region (a ∷ []) h = omega arith
most_region (a ∷ b ∷ []) h = omega arith
most_region (a ∷ b ∷ c ∷ bs) h =
    let rest : length bs ≤ 3 = most_subdivision bs (and_right
    (is_ascii_alphabetic a && is_ascii_alphabetic b && nat_eq c 45) (is_subdivision bs) h) in
    omega (arith, rest)

most_lengths : (city postal : List ℕ) → IsTrue (lengths_fit city postal)
    → (length city ≤ 1024) × (length postal ≤ 1024)
unfolding lengths_fit
most_lengths city postal h = (
  at_most_told (length city) 1024
      (and_left (nat_le (length city) 1024) (nat_le (length postal) 1024) h),
  at_most_told (length postal) 1024
      (and_right (nat_le (length city) 1024) (nat_le (length postal) 1024) h),
)

pub made_short : (country region city postal letters : List ℕ)
    → letters ≡ cond (is_empty country) (country_of_region region) country
    → IsTrue (country_fits country) → IsTrue (region_fits region) → IsTrue (lengths_fit city postal)
    → length letters + length region + length city + length postal < 2 ^ 16
made_short country region city postal letters own c r l =
    let first : length letters ≤ 2 = most_letters letters
    (subst (λ (t : List ℕ). IsTrue (country_fits t)) (sym own)
    (chosen_country country region c r)) in
    let second = most_region region r in
    let others = most_lengths city postal l in
    omega (arith, first, second, others.0, others.1)

-- the letters of a region's country
pub region_cut : (region : List ℕ) → IsUtf8 region → IsTrue (region_fits region)
    → 2 ≤ length region → IsCharBoundary region 2
region_cut region utf8 r n =
    IsCharBoundary-after_ascii region 1 utf8 (omega (arith, n)) (letters_of_region region r n).1

pub letters_of_few : (region : List ℕ) → length region < 2 → [] ≡ country_of_region region
letters_of_few [] n = refl
letters_of_few (a ∷ []) n = refl
letters_of_few (a ∷ b ∷ bs) n = absurd (omega arith)

pub letters_of_more : (region : List ℕ) → 2 ≤ length region
    → take 2 region ≡ country_of_region region
letters_of_more [] n = absurd (omega arith)
letters_of_more (a ∷ []) n = absurd (omega arith)
letters_of_more (a ∷ b ∷ bs) n = refl

pub two_letters : (bs : List ℕ) → length bs ≡ 2 → bs ≡ get_or bs 0 0 ∷ get_or bs 1 0 ∷ []
two_letters [] n = absurd (omega arith)
two_letters (a ∷ []) n = absurd (omega arith)
two_letters (a ∷ b ∷ []) n = refl
two_letters (a ∷ b ∷ c ∷ bs) n = absurd (omega arith)

-- two letters are a text
pub letters_are_text : (a b : ℕ) → is_ascii_alphabetic a ≡ true → is_ascii_alphabetic b ≡ true
    → IsUtf8 (a ∷ b ∷ [])
letters_are_text a b first second = IsUtf8-from_ascii (a ∷ b ∷ []) small
  where
    small : IsAscii (a ∷ b ∷ [])
    small zero = alphabetic_small a first
    small (suc zero) = alphabetic_small b second
    small (suc (suc i)) = omega arith

-- two letters that are not `ZZ` make a place alone
letters_in_form : (a b : ℕ) → is_ascii_alphabetic a ≡ true → is_ascii_alphabetic b ≡ true
    → same_text (upper (a ∷ b ∷ [])) nowhere ≡ false → IsPlace (country_place (a ∷ b ∷ []))
unfolding country_fits region_fits lengths_fit
letters_in_form a b first second somewhere =
    place_in_form (a ∷ b ∷ []) [] [] [] (rw (first, second) refl) refl refl (rw somewhere refl)

pub letters_made : (a b : ℕ) (letters : List ℕ) (made : PlaceParts) → letters ≡ a ∷ b ∷ []
    → made ≡ record { country = upper letters; region = []; city = []; postal = [] }
    → is_ascii_alphabetic a ≡ true → is_ascii_alphabetic b ≡ true
    → same_text (upper (a ∷ b ∷ [])) nowhere ≡ false → IsPlace made
letters_made a b letters made are is first second somewhere =
    let same : made ≡ country_place (a ∷ b ∷ []) =
    is ∙ ap (λ (t : List ℕ). country_place t) are in
    subst IsPlace (sym same) (letters_in_form a b first second somewhere)

not_told : (b : Bool) → not b ≡ true → b ≡ false
not_told false h = refl
not_told true h = absurd (let e : false ≡ true = h in cc)

own_country : (country region : List ℕ) → (country ≡ [] → region ≡ [])
    → cond (is_empty country) (country_of_region region) country ≡ country
own_country [] region owned = ap country_of_region (owned refl)
own_country (a ∷ bs) region owned = refl

-- the texts of a place name that place
parts_of_own : (p : PlaceParts) → IsPlace p → parts_of p.country p.region p.city p.postal ≡ p
parts_of_own p form =
    let country = ap upper (own_country p.country p.region form.owned) ∙ form.upper_country in
    λ i. record {
      country = country i;
      region = form.upper_region i;
      city = p.city;
      postal = p.postal;
    }

-- and as fields they say it
pub place_says_itself : (p : PlaceParts) → IsPlace p
    → said_of p.country p.region p.city p.postal ≡ Ok (At p)
unfolding said_of
place_says_itself p form =
    let says : said_by p ≡ At p = rw (not_told (says_nothing p) form.says) refl in
    rw (form.country, form.region, form.lengths) (ap Ok (ap said_by (parts_of_own p form) ∙ says))

-- so a text that names a country
pub named_is_text : (country : List ℕ) → IsTrue (names_country country) → IsUtf8 country
named_is_text [] h = absurd (let e : false ≡ true = h in cc)
named_is_text (a ∷ []) h = absurd (let e : false ≡ true = h in cc)
named_is_text (a ∷ b ∷ []) h =
    let both = and_left (is_ascii_alphabetic a && is_ascii_alphabetic b)
    (not (same_text (upper (a ∷ b ∷ [])) nowhere)) h in
    letters_are_text a b (and_left (is_ascii_alphabetic a) (is_ascii_alphabetic b) both)
    (and_right (is_ascii_alphabetic a) (is_ascii_alphabetic b) both)
named_is_text (a ∷ b ∷ c ∷ bs) h = absurd (let e : false ≡ true = h in cc)

pub named_made : (country letters : List ℕ) (made : PlaceParts)
    → IsTrue (names_country country) → letters ≡ country
    → made ≡ record { country = upper letters; region = []; city = []; postal = [] }
    → IsPlace made
named_made [] letters made h are is = absurd (let e : false ≡ true = h in cc)
named_made (a ∷ []) letters made h are is = absurd (let e : false ≡ true = h in cc)
named_made (a ∷ b ∷ []) letters made h are is =
    let alone = same_text (upper (a ∷ b ∷ [])) nowhere in
    let both = and_left (is_ascii_alphabetic a && is_ascii_alphabetic b) (not alone) h in
    letters_made a b letters made are is
    (and_left (is_ascii_alphabetic a) (is_ascii_alphabetic b) both)
    (and_right (is_ascii_alphabetic a) (is_ascii_alphabetic b) both)
    (not_told alone (and_right (is_ascii_alphabetic a && is_ascii_alphabetic b) (not alone) h))
named_made (a ∷ b ∷ c ∷ bs) letters made h are is = absurd (let e : false ≡ true = h in cc)

pub letters_name : (country : List ℕ) (a b : ℕ) → country ≡ a ∷ b ∷ []
    → is_ascii_alphabetic a ≡ true → is_ascii_alphabetic b ≡ true
    → same_text (upper (a ∷ b ∷ [])) nowhere ≡ false → IsTrue (names_country country)
letters_name country a b is first second somewhere =
    subst (λ (t : List ℕ). IsTrue (names_country t)) (sym is) (rw (first, second, somewhere) refl)
