-- Four texts in one, and where the later three begin.
use Rattle.std.specs.Prelude.{ℕ, ◌-◌, ◌≤◌, List, take, drop}
use Rattle.std.specs.Str.{IsCharBoundary}
use Rattle.geo_terms.specs.PlaceForm.{PlaceParts}

-- what stands from each of three places up to the next
abbrev pub parts_at : List ℕ → (r c p : ℕ) → PlaceParts
parts_at text r c p = record {
  country = take r text;
  region = take (c - r) (drop r text);
  city = take (p - c) (drop c text);
  postal = drop p text;
}

-- the places are in order, and a character begins at each
pub record IsCutAt (text : List ℕ) (r c p : ℕ) : Type 0 where
  pub region_city : r ≤ c
  pub city_postal : c ≤ p
  pub region : IsCharBoundary text r
  pub city : IsCharBoundary text c
  pub postal : IsCharBoundary text p
