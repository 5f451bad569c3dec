-- What sources in force keep, by the types of their statements and by
-- the order in which they stand.
use Rattle.std.specs.Prelude.{◌≢◌, List, All, AllPairs, ⊤}
use Rattle.geo_addr.specs.Ranges.{IsBlock}
use Rattle.geo_terms.specs.DelegationForm.{DelegationParts, IsCountryAlone}
use Rattle.geo_terms.specs.SlotOrder.{AreInOrder}
use Rattle.geo_terms.specs.Sources.{InForce, override_rows}
use Rattle.geo_terms.specs.declared.statement.Entry.{Entry}
use Rattle.geo_terms.specs.declared.statement.Override.{Override}
use Rattle.source_changes.specs.Changes.{Change, SetDump, SetFeed, SetStats, SetOverrides, DropDump}
use Rattle.source_changes.specs.Changes.{DropFeed, DropStats, DropOverrides}

-- the entries of a feed: blocks, and no block twice
pub record AreEntries (es : List Entry) : Type 0 where
  pub blocks : All (λ e. IsBlock e.block) es
  pub distinct : AllPairs (λ x y. x.block ≢ y.block) es

-- the rows of a statistics file: countries alone
abbrev pub AreDelegations : List DelegationParts → Type 0
AreDelegations ds = All (λ d. IsCountryAlone d.place) ds

-- the rows of the overrides: no range twice
abbrev pub AreOverrides : List Override → Type 0
AreOverrides os = AllPairs (λ x y. x.range ≢ y.range) os

-- each kind by its slots or URLs, and its statements as their types keep them
pub record AreSources (s : InForce) : Type 0 where
  pub dumps : AreInOrder (λ d. d.slot) s.dumps
  pub feeds : AreInOrder (λ f. f.url) s.feeds
  pub stats : AreInOrder (λ t. t.slot) s.stats
  pub entries : All (λ f. AreEntries f.entries) s.feeds
  pub delegations : All (λ t. AreDelegations t.rows) s.stats
  pub overrides : AreOverrides (override_rows s)

-- a source that is set has such statements
abbrev pub IsSound : Change → Type 0
IsSound (SetDump d) = ⊤
IsSound (SetFeed f) = AreEntries f.entries
IsSound (SetStats t) = AreDelegations t.rows
IsSound (SetOverrides o) = AreOverrides o.rows
IsSound (DropDump slot) = ⊤
IsSound (DropFeed url) = ⊤
IsSound (DropStats slot) = ⊤
IsSound DropOverrides = ⊤
