-- The value of a place can be written and is read again.
use Rattle.std.proofs.Common.{◌≡◌, ℕ, suc, ◌+◌, ◌*◌, ◌<◌, ◌≤◌, ◌==◌, ◌&&◌, not, List, [], ◌∷◌, ◌++◌}
use Rattle.std.proofs.Common.{length, drop, get_or, refl, sym, ap, subst, ◌∙◌, arith, length-append}
use Rattle.std.proofs.Common.{length-drop, inl, inr}
use Rattle.std.specs.Prelude.{codes, nat_le, nat_eq, IsTrue}
use Rattle.std.specs.Char.{is_ascii_alphabetic, is_ascii_alphanumeric}
use Rattle.std.specs.List.{position_or_len, list_all}
use Rattle.std.specs.Str.{IsUtf8, is_utf8, chars}
use Rattle.std.proofs.lemmas.Str.{IsUtf8-from_is_utf8, IsUtf8-drop, IsCharBoundary-after_ascii}
use Rattle.std.proofs.lemmas.Str.{IsUtf8-nil}
use lib.Utf8.{encode}
use Rattle.std.proofs.lemmas.Bool.{cases_lt, and_parts, leb-true, false≢true}
use Rattle.std.proofs.lemmas.Bool.Decides.{eqb_tells}
use Rattle.std.proofs.Math.ListN.{drop_of_length-le}
use Rattle.mmdb_data.specs.ValueTree.{ValueTree, map, text, IsNarrow, MembersAreNarrow, IsTyped}
use Rattle.mmdb_data.specs.ValueTree.{MembersAreTyped, members_len, members_depth, members_count}
use Rattle.mmdb_data.specs.ValueTree.{members_bytes, depth, count, bytes_in, most, CanBeReadBack}
use Rattle.mmdb_data.specs.View.{members_of}
use Rattle.geo_terms.specs.PlaceForm.{PlaceParts, IsPlace, country_fits, region_fits, lengths_fit}
use Rattle.geo_terms.specs.PlaceForm.{is_empty, is_subdivision, longest}
use Rattle.mmdb_file.specs.PlaceValue.{one, unless_empty, subdivision, city_member, country_member}
use Rattle.mmdb_file.specs.PlaceValue.{postal_member, region_member, subdivision_list, place_value}

-- a member that can be read, and whose value is small
record IsFine (pair : List ℕ × ValueTree) : Type 0 where
  key_short : length pair.0 ≤ most
  narrow : IsNarrow pair.1
  low : depth pair.1 ≤ 8
  key_text : IsUtf8 pair.0
  typed : IsTyped pair.1
  few : count pair.1 ≤ 9
  light : length pair.0 + bytes_in pair.1 ≤ 2000

abbrev AreFine : List (List ℕ × ValueTree) → Type 0
AreFine [] = Unit {0}
AreFine (pair ∷ pairs) = IsFine pair × AreFine pairs

AreFine-append : (xs ys : List (List ℕ × ValueTree)) → AreFine xs → AreFine ys → AreFine (xs ++ ys)
AreFine-append [] ys a b = b
AreFine-append (x ∷ xs) ys a b = (a.0, AreFine-append xs ys a.1 b)

AreFine-unless : (content key : List ℕ) (value : ValueTree)
    → IsFine (key, value) → AreFine (unless_empty content key value)
AreFine-unless [] key value fine = tt
AreFine-unless (b ∷ content) key value fine = (fine, tt)

length-unless : (content key : List ℕ) (value : ValueTree) → length (unless_empty content key value)
    ≤ 1
length-unless [] key value = omega arith
length-unless (b ∷ content) key value = omega arith

narrow_members : (pairs : List (List ℕ × ValueTree)) → AreFine pairs
    → MembersAreNarrow (members_of pairs)
narrow_members [] fine = tt
narrow_members (pair ∷ pairs) fine = (fine.0.key_short, fine.0.narrow, narrow_members pairs fine.1)

typed_members : (pairs : List (List ℕ × ValueTree)) → AreFine pairs
    → MembersAreTyped (members_of pairs)
typed_members [] fine = tt
typed_members (pair ∷ pairs) fine = (fine.0.key_text, fine.0.typed, typed_members pairs fine.1)

low_members : (pairs : List (List ℕ × ValueTree)) → AreFine pairs → members_depth (members_of pairs)
    ≤ 8
low_members [] fine = omega arith
low_members (pair ∷ pairs) fine = omega (arith, fine.0.low, low_members pairs fine.1)

few_members : (pairs : List (List ℕ × ValueTree)) → AreFine pairs
    → members_count (members_of pairs) ≤ 10 * length pairs
few_members [] fine = omega arith
few_members (pair ∷ pairs) fine = omega (arith, fine.0.few, few_members pairs fine.1)

light_members : (pairs : List (List ℕ × ValueTree)) → AreFine pairs
    → members_bytes (members_of pairs) ≤ 2000 * length pairs
light_members [] fine = omega arith
light_members (pair ∷ pairs) fine = omega (arith, fine.0.light, light_members pairs fine.1)

len_members : (pairs : List (List ℕ × ValueTree)) → members_len (members_of pairs) ≡ length pairs
len_members [] = refl
len_members (pair ∷ pairs) = ap suc (len_members pairs)

map_fine : (pairs : List (List ℕ × ValueTree)) → length pairs ≤ 4 → AreFine pairs
    → CanBeReadBack (map (members_of pairs))
map_fine pairs short fine = (
  (
    (
      (omega (arith, len_members pairs), narrow_members pairs fine),
      omega (arith, low_members pairs fine),
    ),
    typed_members pairs fine,
  ),
  (omega (arith, few_members pairs fine), omega (arith, light_members pairs fine)),
)

-- keys are texts
text_city : IsUtf8 (codes "city")
unfolding is_utf8 chars encode
text_city = IsUtf8-from_is_utf8 _ refl

text_names : IsUtf8 (codes "names")
unfolding is_utf8 chars encode
text_names = IsUtf8-from_is_utf8 _ refl

text_en : IsUtf8 (codes "en")
unfolding is_utf8 chars encode
text_en = IsUtf8-from_is_utf8 _ refl

text_country : IsUtf8 (codes "country")
unfolding is_utf8 chars encode
text_country = IsUtf8-from_is_utf8 _ refl

text_iso_code : IsUtf8 (codes "iso_code")
unfolding is_utf8 chars encode
text_iso_code = IsUtf8-from_is_utf8 _ refl

text_postal : IsUtf8 (codes "postal")
unfolding is_utf8 chars encode
text_postal = IsUtf8-from_is_utf8 _ refl

text_code : IsUtf8 (codes "code")
unfolding is_utf8 chars encode
text_code = IsUtf8-from_is_utf8 _ refl

text_subdivisions : IsUtf8 (codes "subdivisions")
unfolding is_utf8 chars encode
text_subdivisions = IsUtf8-from_is_utf8 _ refl

holds_at : (bytes : List ℕ) → position_or_len (λ b. b == 45) bytes < length bytes
    → get_or bytes (position_or_len (λ b. b == 45) bytes) 0 ≡ 45
holds_at [] inside = absurd (omega arith)
holds_at (b ∷ bytes) inside =
    elim (eqb_tells b 45) [
      | inl same ↦ let first : position_or_len (λ b. b == 45) (b ∷ bytes) ≡ 0 = rw same.0 refl in
          ap (λ i. get_or (b ∷ bytes) i 0) first ∙ same.1
      | inr told ↦
          let later : position_or_len (λ b. b == 45) (b ∷ bytes)
          ≡ suc (position_or_len (λ b. b == 45) bytes) = rw told.0 (omega arith) in
          ap (λ i. get_or (b ∷ bytes) i 0) later ∙ holds_at bytes (omega (arith, inside, later))
    ]

-- the text after a dash is a text, and no longer
subdivision_text : (region : List ℕ) → IsUtf8 region → IsUtf8 (subdivision region)
unfolding subdivision
subdivision_text region utf8 =
    let i : ℕ = position_or_len (λ b. b == 45) region in
    elim (cases_lt i (length region)) [
      | inl inside ↦
          let dash : get_or region i 0 ≡ 45 = holds_at region inside in
          let low : get_or region i 0 < 128 = omega arith in
          IsUtf8-drop region (i + 1) utf8 (IsCharBoundary-after_ascii region i utf8 inside low)
      | inr past ↦ let none : drop (i + 1) region ≡ [] = drop_of_length-le region (omega arith) in
          subst IsUtf8 (sym none) IsUtf8-nil
    ]

subdivision_short : (region : List ℕ) → length (subdivision region) ≤ length region
unfolding subdivision
subdivision_short region =
    omega (arith, length-drop (position_or_len (λ b. b == 45) region + 1) region)

city_fine : (city : List ℕ) → IsUtf8 city → length city ≤ longest → AreFine (city_member city)
city_fine city utf8 short =
    AreFine-unless city (codes "city")
    (one (codes "names") (one (codes "en") (text city))) (record {
      key_short = omega arith;
      narrow =
          (omega arith, (omega arith, (omega arith, (omega arith, omega (arith, short), tt)), tt));
      low = omega arith;
      key_text = text_city;
      typed = (text_names, (text_en, utf8, tt), tt);
      few = omega arith;
      light = omega (arith, short);
    })

code_fine : (key name content : List ℕ) → IsUtf8 key
    → IsUtf8 name → IsUtf8 content → length key ≤ 50 → length name ≤ 50 → length content ≤ longest
    → IsFine (key, one name (text content))
code_fine key name content a b c d e f = record {
  key_short = omega (arith, d);
  narrow = (omega arith, (omega (arith, e), omega (arith, f), tt));
  low = omega arith;
  key_text = a;
  typed = (b, c, tt);
  few = omega arith;
  light = omega (arith, d, e, f);
}

region_fine : (region : List ℕ) → IsUtf8 region → length region ≤ longest
    → AreFine (region_member region)
region_fine region utf8 short =
    AreFine-unless region (codes "subdivisions") (subdivision_list region) (record {
      key_short = omega arith;
      narrow = (
        omega arith,
        ((omega arith, (omega arith, omega (arith, short, subdivision_short region), tt)), tt),
      );
      low = omega arith;
      key_text = text_subdivisions;
      typed = ((text_iso_code, subdivision_text region utf8, tt), tt);
      few = omega arith;
      light = omega (arith, short, subdivision_short region);
    })

-- texts that can be written
pub record AreTexts (place : PlaceParts) : Type 0 where
  pub country : IsUtf8 place.country × (length place.country ≤ longest)
  pub region : IsUtf8 place.region × (length place.region ≤ longest)
  pub city : IsUtf8 place.city × (length place.city ≤ longest)
  pub postal : IsUtf8 place.postal × (length place.postal ≤ longest)

pub readable : (place : PlaceParts) → AreTexts place → CanBeReadBack (place_value place)
unfolding place_value
readable place texts =
    let a : List (List ℕ × ValueTree) = city_member place.city in
    let b : List (List ℕ × ValueTree) = country_member place.country in
    let c : List (List ℕ × ValueTree) = postal_member place.postal in
    let d : List (List ℕ × ValueTree) = region_member place.region in
    map_fine (a ++ (b ++ (c ++ d)))
    (omega (
      arith,
      length-append a (b ++ (c ++ d)),
      length-append b (c ++ d),
      length-append c d,
      length-unless place.city (codes "city")
          (one (codes "names") (one (codes "en") (text place.city))),
      length-unless place.country (codes "country") (one (codes "iso_code") (text place.country)),
      length-unless place.postal (codes "postal") (one (codes "code") (text place.postal)),
      length-unless place.region (codes "subdivisions") (subdivision_list place.region),
    ))
    (AreFine-append a (b ++ (c ++ d)) (city_fine place.city texts.city.0 texts.city.1)
    (AreFine-append b (c ++ d)
    (AreFine-unless place.country (codes "country") (one (codes "iso_code") (text place.country))
    (code_fine (codes "country") (codes "iso_code") place.country text_country text_iso_code
    texts.country.0 (omega arith) (omega arith) texts.country.1))
    (AreFine-append c d
    (AreFine-unless place.postal (codes "postal") (one (codes "code") (text place.postal))
    (code_fine (codes "postal") (codes "code") place.postal text_postal text_code texts.postal.0
    (omega arith) (omega arith) texts.postal.1))
    (region_fine place.region texts.region.0 texts.region.1))))

-- the texts of a place are short
country_of_two : (code : List ℕ) → IsTrue (country_fits code) → length code ≤ 2
unfolding country_fits
country_of_two [] fits = omega arith
country_of_two (a ∷ []) fits = omega arith
country_of_two (a ∷ b ∷ []) fits = omega arith
country_of_two (a ∷ b ∷ c ∷ code) fits = absurd (false≢true fits)

region_of_six : (code : List ℕ) → IsTrue (region_fits code) → length code ≤ 6
unfolding region_fits
region_of_six [] fits = omega arith
region_of_six (a ∷ []) fits = omega arith
region_of_six (a ∷ b ∷ []) fits = omega arith
region_of_six (a ∷ b ∷ dash ∷ rest) fits =
    let sub = and_parts (is_ascii_alphabetic a && is_ascii_alphabetic b && nat_eq dash 45)
    (is_subdivision rest) fits in
    let few = and_parts (not (is_empty rest) && nat_le (length rest) 3)
    (list_all is_ascii_alphanumeric rest) sub.1 in
    let short = and_parts (not (is_empty rest)) (nat_le (length rest) 3) few.0 in
    omega (arith, leb-true (length rest) 3 short.1)

pub short_country : (place : PlaceParts) → IsPlace place → length place.country ≤ longest
short_country place is = omega (arith, country_of_two place.country is.country)

pub short_region : (place : PlaceParts) → IsPlace place → length place.region ≤ longest
short_region place is = omega (arith, region_of_six place.region is.region)

pub short_city : (place : PlaceParts) → IsPlace place → length place.city ≤ longest
unfolding lengths_fit
short_city place is =
    let fits = and_parts (nat_le (length place.city) longest)
    (nat_le (length place.postal) longest) is.lengths in
    omega (arith, leb-true (length place.city) longest fits.0)

pub short_postal : (place : PlaceParts) → IsPlace place → length place.postal ≤ longest
unfolding lengths_fit
short_postal place is =
    let fits = and_parts (nat_le (length place.city) longest)
    (nat_le (length place.postal) longest) is.lengths in
    omega (arith, leb-true (length place.postal) longest fits.1)

-- the value of a place of texts is read again
pub readable_place : (place : PlaceParts) → IsPlace place → IsUtf8 place.country
    → IsUtf8 place.region → IsUtf8 place.city → IsUtf8 place.postal
    → CanBeReadBack (place_value place)
readable_place place form country region city postal =
    readable place (record {
      country = (country, short_country place form);
      region = (region, short_region place form);
      city = (city, short_city place form);
      postal = (postal, short_postal place form);
    })

pub parts_are : (place : PlaceParts) (country region city postal : List ℕ)
    → country ≡ place.country → region ≡ place.region → city ≡ place.city → postal ≡ place.postal
    → record { country = country; region = region; city = city; postal = postal } ≡ place
parts_are place country region city postal a b c d = rw (a, b, c, d) refl
