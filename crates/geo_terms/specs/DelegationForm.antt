-- What a delegation is: a country says that a range is delegated to it.
use Rattle.std.specs.Prelude.{◌≡◌, ◌≢◌, ℕ, List, []}
use Rattle.geo_addr.specs.Ranges.{Ends, IsRange}
use Rattle.geo_terms.specs.PlaceForm.{PlaceParts}

-- a delegation: its source and line, its addresses, and its place
pub record DelegationParts : Type 0 where
  pub slot : List ℕ
  pub line : ℕ
  pub range : Ends
  pub place : PlaceParts

-- a place that has a country and nothing else
pub record IsCountryAlone (p : PlaceParts) : Type 0 where
  pub country : p.country ≢ []
  pub region : p.region ≡ []
  pub city : p.city ≡ []
  pub postal : p.postal ≡ []

-- what every delegation keeps
pub record IsDelegation (d : DelegationParts) : Type 0 where
  pub range : IsRange d.range
  pub place : IsCountryAlone d.place
