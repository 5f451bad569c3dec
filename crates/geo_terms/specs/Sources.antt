-- The sources in force, and the statements that they make.
use Rattle.std.specs.Prelude.{ℕ, List, [], flat_map, find, Option, Some, None}
use Rattle.geo_terms.specs.DelegationForm.{DelegationParts}
use Rattle.geo_terms.specs.PlaceForm.{same_text}
use Rattle.geo_terms.specs.SourceForm.{DumpParts, FeedParts, StatsParts, OverridesParts}
use Rattle.geo_terms.specs.declared.statement.Entry.{Entry}
use Rattle.geo_terms.specs.declared.statement.Override.{Override}
use Rattle.geo_terms.specs.declared.statement.Reference.{Reference}

-- the sources in force: dumps, feeds and statistics, each kind by its slots or URLs,
-- and overrides where they are set
pub record InForce : Type 0 where
  pub dumps : List DumpParts
  pub feeds : List FeedParts
  pub stats : List StatsParts
  pub overrides : Option OverridesParts

-- no source at all
abbrev pub no_sources : InForce
no_sources = record { dumps = []; feeds = []; stats = []; overrides = None }

-- the references of all dumps
abbrev pub references : InForce → List Reference
references s = flat_map (λ d. d.refs) s.dumps

-- the feed of a URL
abbrev pub feed_of : InForce → List ℕ → Option FeedParts
feed_of s url = find (λ f. same_text f.url url) s.feeds

abbrev pub entries_in : Option FeedParts → List Entry
entries_in None = []
entries_in (Some f) = f.entries

-- the entries of all feeds
abbrev pub entries : InForce → List Entry
entries s = flat_map (λ f. f.entries) s.feeds

-- the delegations of all statistics
abbrev pub delegations : InForce → List DelegationParts
delegations s = flat_map (λ t. t.rows) s.stats

abbrev pub rows_in : Option OverridesParts → List Override
rows_in None = []
rows_in (Some o) = o.rows

-- the rows of the overrides
abbrev pub override_rows : InForce → List Override
override_rows s = rows_in s.overrides
