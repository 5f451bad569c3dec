-- Counts of countries, from how many addresses each place has.
use Rattle.std.specs.Prelude.{ℕ, zero, suc, ◌+◌, Bool, false, if◌then◌else◌, nat_eq, List, []}
use Rattle.std.specs.Prelude.{Option, Some, None, slice_index}
use Rattle.geo_terms.specs.PlaceForm.{PlaceParts, same_text}
use Rattle.check_census.specs.Census.{added, country_of}
use Rattle.check_census.specs.declared.count.Count.{Count}

-- the counts with the addresses of one place more; where it has none, the counts
abbrev pub with_country : Option (List ℕ) → ℕ → ℕ → List Count → List Count
with_country None v4 v6 counts = counts
with_country (Some country) v4 v6 counts = if nat_eq (v4 + v6) 0 then counts
    else added country v4 v6 counts

-- the counts of the first n places, from the numbers of their addresses
unfoldable pub counts_of : List PlaceParts → List ℕ → List ℕ → ℕ → List Count
counts_of places v4 v6 zero = []
counts_of places v4 v6 (suc n) =
    with_country (country_of places (Some n)) (slice_index v4 n) (slice_index v6 n)
    (counts_of places v4 v6 n)

abbrev pub is_text : List ℕ → Option (List ℕ) → Bool
is_text country None = false
is_text country (Some text) = same_text text country

-- whether the place of a number has this country
abbrev pub has_country : List PlaceParts → List ℕ → ℕ → Bool
has_country places country n = is_text country (country_of places (Some n))
