-- What one call does to the sources in force, and the grounds that it touches.
use Rattle.std.specs.Prelude.{ℕ, List, [], ◌∷◌, ◌++◌, map, find, Option, Some, None}
use Rattle.geo_addr.specs.Ranges.{Ends, range_of_block}
use Rattle.geo_terms.specs.DelegationForm.{DelegationParts}
use Rattle.geo_terms.specs.PlaceForm.{same_text}
use Rattle.geo_terms.specs.SlotOrder.{placed, removed}
use Rattle.geo_terms.specs.SourceForm.{DumpParts, FeedParts, StatsParts, OverridesParts}
use Rattle.geo_terms.specs.Sources.{InForce, entries_in, override_rows}
use Rattle.geo_terms.specs.declared.statement.Entry.{Entry}
use Rattle.geo_terms.specs.declared.statement.Override.{Override}
use Rattle.geo_terms.specs.declared.statement.Reference.{Reference}
use Rattle.source_changes.specs.Changed.{changed}
use Rattle.source_changes.specs.SameStatement.{same_delegation, same_entry, same_override}
use Rattle.source_changes.specs.SameStatement.{same_reference}
use Rattle.source_changes.specs.Touched.{ground_of}

-- a call that sets a source, or takes one away by its slot or URL
pub data Change : Type 0 where
  SetDump : DumpParts → Change
  SetFeed : FeedParts → Change
  SetStats : StatsParts → Change
  SetOverrides : OverridesParts → Change
  DropDump : List ℕ → Change
  DropFeed : List ℕ → Change
  DropStats : List ℕ → Change
  DropOverrides : Change

-- the source of a name, where there is one
abbrev pub named : {X : Type 0} → (X → List ℕ) → List ℕ → List X → Option X
named name n xs = find (λ x. same_text (name x) n) xs

-- the statements of a source; an absent one has none
abbrev pub references_in : Option DumpParts → List Reference
references_in None = []
references_in (Some d) = d.refs

abbrev pub delegations_in : Option StatsParts → List DelegationParts
delegations_in None = []
delegations_in (Some t) = t.rows

-- the sources in force after a call
abbrev pub after : Change → InForce → InForce
after (SetDump d) s = record s { dumps = placed (λ x. x.slot) d s.dumps }
after (SetFeed f) s = record s { feeds = placed (λ x. x.url) f s.feeds }
after (SetStats t) s = record s { stats = placed (λ x. x.slot) t s.stats }
after (SetOverrides o) s = record s { overrides = Some o }
after (DropDump slot) s = record s { dumps = removed (λ x. x.slot) slot s.dumps }
after (DropFeed url) s = record s { feeds = removed (λ x. x.url) url s.feeds }
after (DropStats slot) s = record s { stats = removed (λ x. x.slot) slot s.stats }
after DropOverrides s = record s { overrides = None }

-- the grounds of the statements that changed, each ground as often as there is such a statement
abbrev pub reference_changes : (old new : List Reference) → List Ends
reference_changes old new = map (λ r. ground_of r.range) (changed same_reference old new)

abbrev pub entry_changes : (old new : List Entry) → List Ends
entry_changes old new = map (λ e. ground_of (range_of_block e.block)) (changed same_entry old new)

abbrev pub delegation_changes : (old new : List DelegationParts) → List Ends
delegation_changes old new = map (λ d. ground_of d.range) (changed same_delegation old new)

abbrev pub override_changes : (old new : List Override) → List Ends
override_changes old new = map (λ o. ground_of o.range) (changed same_override old new)

-- the grounds that a call touches: those of the statements of the source that it sets or drops,
-- before and after, that changed
abbrev pub changes : Change → InForce → List Ends
changes (SetDump d) s =
    reference_changes (references_in (named (λ x. x.slot) d.slot s.dumps)) d.refs
changes (SetFeed f) s = entry_changes (entries_in (named (λ x. x.url) f.url s.feeds)) f.entries
changes (SetStats t) s =
    delegation_changes (delegations_in (named (λ x. x.slot) t.slot s.stats)) t.rows
changes (SetOverrides o) s = override_changes (override_rows s) o.rows
changes (DropDump slot) s = reference_changes (references_in (named (λ x. x.slot) slot s.dumps)) []
changes (DropFeed url) s = entry_changes (entries_in (named (λ x. x.url) url s.feeds)) []
changes (DropStats slot) s =
    delegation_changes (delegations_in (named (λ x. x.slot) slot s.stats)) []
changes DropOverrides s = override_changes (override_rows s) []

-- the sources after several calls in a row, and all that these touch
abbrev pub after_all : List Change → InForce → InForce
after_all [] s = s
after_all (c ∷ cs) s = after_all cs (after c s)

abbrev pub all_changes : List Change → InForce → List Ends
all_changes [] s = []
all_changes (c ∷ cs) s = changes c s ++ all_changes cs (after c s)
