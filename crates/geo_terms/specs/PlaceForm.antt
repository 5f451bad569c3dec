-- What a place is: a country (ISO 3166-1), a region (ISO 3166-2), a city and a postal code,
-- as in RFC 8805 section 2.1.1.
use Rattle.std.specs.Prelude.{◌≡◌, ℕ, Bool, true, false, not, ◌&&◌, ◌||◌, nat_le, nat_eq, List, []}
use Rattle.std.specs.Prelude.{◌∷◌, map, length, codes, if◌then◌else◌, IsTrue, Option, Some, None}
use Rattle.std.specs.List.{list_all}
use Rattle.std.specs.Char.{is_ascii_alphabetic, is_ascii_alphanumeric, to_ascii_uppercase}
use Rattle.std.specs.Cmp.Lexicographic.{pointwise}
use Rattle.geo_terms.specs.declared.places.fields.TheConstants.{LONGEST}

-- the four texts of a place
pub record PlaceParts : Type 0 where
  pub country : List ℕ
  pub region : List ℕ
  pub city : List ℕ
  pub postal : List ℕ

-- whether two texts are the same bytes
abbrev pub same_text : List ℕ → List ℕ → Bool
same_text = pointwise nat_eq

abbrev pub is_empty : List ℕ → Bool
is_empty [] = true
is_empty (b ∷ bs) = false

abbrev pub upper : List ℕ → List ℕ
upper = map to_ascii_uppercase

-- two ASCII letters
abbrev pub is_country : List ℕ → Bool
is_country (a ∷ b ∷ []) = is_ascii_alphabetic a && is_ascii_alphabetic b
is_country _ = false

-- one to three ASCII letters or digits
abbrev pub is_subdivision : List ℕ → Bool
is_subdivision text =
    not (is_empty text) && nat_le (length text) 3 && list_all is_ascii_alphanumeric text

-- two ASCII letters, a dash, and one to three letters or digits, as `DE-BY`
abbrev pub is_region : List ℕ → Bool
is_region (a ∷ b ∷ dash ∷ rest) =
    is_ascii_alphabetic a && is_ascii_alphabetic b && nat_eq dash 45 && is_subdivision rest
is_region _ = false

-- the country of a region: its first two letters
abbrev pub country_of_region : List ℕ → List ℕ
country_of_region (a ∷ b ∷ rest) = a ∷ b ∷ []
country_of_region _ = []

-- the longest city or postal code, in bytes
abbrev pub longest : ℕ
longest = LONGEST

-- the country code that stands for no country
abbrev pub nowhere : List ℕ
nowhere = codes "ZZ"

-- whether all four texts are empty
abbrev pub is_blank : PlaceParts → Bool
is_blank p = is_empty p.country && is_empty p.region && is_empty p.city && is_empty p.postal

-- what four fields name: country and region in upper case, and where only the region is there,
-- the country of the region
abbrev pub parts_of : (country region city postal : List ℕ) → PlaceParts
parts_of country region city postal = record {
  country = upper (if is_empty country then country_of_region region else country);
  region = upper region;
  city = city;
  postal = postal;
}

-- whether a line with these texts says nothing
abbrev pub says_nothing : PlaceParts → Bool
says_nothing p = same_text p.country nowhere || is_blank p

-- whether a field that may be empty is in form
unfoldable pub country_fits : List ℕ → Bool
country_fits country = is_empty country || is_country country

unfoldable pub region_fits : List ℕ → Bool
region_fits region = is_empty region || is_region region

unfoldable pub lengths_fit : (city postal : List ℕ) → Bool
lengths_fit city postal = nat_le (length city) longest && nat_le (length postal) longest

-- what a `Place` keeps: its texts are in form, country and region in upper case,
-- a region has its country, and the place says something
pub record IsPlace (p : PlaceParts) : Type 0 where
  pub country : IsTrue (country_fits p.country)
  pub region : IsTrue (region_fits p.region)
  pub lengths : IsTrue (lengths_fit p.city p.postal)
  pub upper_country : upper p.country ≡ p.country
  pub upper_region : upper p.region ≡ p.region
  pub owned : p.country ≡ [] → p.region ≡ []
  pub says : IsTrue (not (says_nothing p))

-- whether a text names a country: two letters, and not `ZZ` in either case
abbrev pub names_country : List ℕ → Bool
names_country country = is_country country && not (same_text (upper country) nowhere)

-- the place of a country alone
abbrev pub country_place : List ℕ → PlaceParts
country_place country = record { country = upper country; region = []; city = []; postal = [] }

-- the place that a country alone names, if it names one
unfoldable pub place_of_country : List ℕ → Option PlaceParts
place_of_country country = if names_country country then Some (country_place country) else None
