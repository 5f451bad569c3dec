-- Sources of which each statement names a place that a feed can say.
use Rattle.std.specs.List.{AllByRecursion}
use Rattle.geo_terms.specs.Sources.{InForce, override_rows}
use Rattle.trie_core.specs.Tree.{AllLeaves}
use Rattle.csv_lines.specs.Clean.{IsCleanPlace, IsCleanSaid}
use Rattle.mmdb_file.specs.FileImage.{record_tree}
use Rattle.published.specs.Reread.{IsCleanAt}

-- as the readers of feeds, of overrides and of statistics make them
pub record AreCleanSources (s : InForce) : Type 0 where
  pub feeds : AllByRecursion (λ f. AllByRecursion (λ e. IsCleanSaid e.said) f.entries) s.feeds
  pub rows : AllByRecursion (λ o. IsCleanSaid o.said) (override_rows s)
  pub stats : AllByRecursion (λ t. AllByRecursion (λ d. IsCleanPlace d.place) t.rows) s.stats

-- then the record of each address can stand in a feed
abbrev pub CleanSourcesMakeCleanRecords : Type 0
CleanSourcesMakeCleanRecords = (s : InForce)
    → AreCleanSources s → AllLeaves IsCleanAt (record_tree s)
