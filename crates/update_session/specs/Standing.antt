-- What the calls on a session determine of it, which is all that a run of a job knows of it.
use Rattle.std.specs.Prelude.{◌≡◌, ◌↔◌, ℕ, ◌+◌, ◌-◌, ◌^◌, ◌≤◌, ◌⊎◌, List, [], ◌∷◌, ◌++◌, length}
use Rattle.std.specs.Prelude.{map, Option, None, Some}
use Rattle.std.specs.List.{AllZip}
use Rattle.std.specs.List.Sorted.{IsPermutation}
use Rattle.geo_addr.specs.Ranges.{Ends}
use Rattle.geo_terms.specs.SlotOrder.{placed}
use Rattle.geo_terms.specs.Sources.{InForce, no_sources}
use Rattle.source_changes.specs.Changes.{Change, after, changes, named}
use Rattle.update_session.specs.Calls.{HasChanged, HasCompacted, HasEmitted, HasGoneBack, HasGrown}
use Rattle.update_session.specs.Calls.{HasMarked, IsAsBefore, IsNew, IsSpent}
use Rattle.update_session.specs.Kept.{Held, RootMeans, gone_back}
use Rattle.update_session.specs.declared.marks.Mark.{Mark}
use Rattle.update_session.specs.State.{State, begun, nodes_under}
use Rattle.update_session.specs.Touch.{bound, few_places}

-- what was marked under a name: the sources, those at the last emit that had made a file,
-- and what had been touched since
pub record StandingMark : Type 0 where
  pub name : List ℕ
  pub sources : InForce
  pub base : InForce
  pub pending : List Ends

-- what the file depends on, the sources at the last emit that made a file, what was touched since,
-- and the marks; how many nodes there may be, by what the last compaction left and the emits since;
-- how many places there may be; and how many steps all emits so far may have taken
pub record Standing : Type 0 where
  pub state : State
  pub base : InForce
  pub pending : List Ends
  pub marks : List StandingMark
  pub nodes : ℕ
  pub numbered : ℕ
  pub spent : ℕ

-- before the first call
abbrev pub begun_standing : (epoch : ℕ) → (name : List ℕ) → Standing
begun_standing epoch name = record {
  state = begun epoch name;
  base = no_sources;
  pending = [];
  marks = [];
  nodes = 0;
  numbered = 0;
  spent = 0;
}

-- after a call that sets or drops a source
abbrev pub changed : Change → Standing → Standing
changed change w = record w {
  state = record w.state { sources = after change w.state.sources };
  pending = w.pending ++ changes change w.state.sources;
}

-- the most steps that an emit takes, and the most places that it gives numbers to
abbrev pub emit_cost : Standing → ℕ
emit_cost w = bound w.pending w.state.sources

abbrev pub emit_places : Standing → ℕ
emit_places w = few_places w.pending w.state.sources

-- after an emit that was refused
abbrev pub refused : Standing → Standing
refused w = record w {
  nodes = w.nodes + emit_cost w;
  numbered = w.numbered + emit_places w;
  spent = w.spent + emit_cost w;
}

-- after an emit that made a file
abbrev pub emitted : Standing → Standing
emitted w = record (refused w) { base = w.state.sources; pending = [] }

-- the mark of a name, where there is one
abbrev pub mark_named : List ℕ → Standing → Option StandingMark
mark_named name w = named (λ m. m.name) name w.marks

-- after a call that marks what is in force
abbrev pub marked : List ℕ → Standing → Standing
marked name w = record w {
  marks = placed (λ m. m.name) (record {
    name = name;
    sources = w.state.sources;
    base = w.base;
    pending = w.pending;
  }) w.marks;
}

-- after one that goes back to a mark; where there is none, nothing has changed
abbrev pub at_mark : Option StandingMark → Standing → Standing
at_mark None w = w
at_mark (Some m) w =
    record w { state = record w.state { sources = m.sources }; base = m.base; pending = m.pending }

abbrev pub went_back : List ℕ → Standing → Standing
went_back name w = at_mark (mark_named name w) w

-- the nodes that a compaction leaves: the different ones under the trees of
-- the base and of the marks' bases
abbrev pub compact_count : Standing → ℕ
compact_count w = nodes_under (w.base ∷ map (λ m. m.base) w.marks)

-- after a compaction
abbrev pub compacted : Standing → Standing
compacted w = record w { nodes = compact_count w }

-- an emit here could need a number that a node or a place cannot have
abbrev pub MaySpendAll : Standing → Type 0
MaySpendAll w = (2 ^ 32 - 1 ≤ w.nodes + emit_cost w) ⊎ (2 ^ 32 - 1 ≤ w.numbered + emit_places w)

-- a mark of a session is what was marked
pub record IsMark (session : Held) (m : StandingMark) (kept : Mark) : Type 0 where
  pub name : kept.name ≡ m.name
  pub sources : kept.sources ≡ m.sources
  pub touched : IsPermutation m.pending kept.touched
  pub root : RootMeans (gone_back kept session) m.base

-- a session stands where its calls have led
pub record Stands (session : Held) (w : Standing) : Type 0 where
  pub state : session.state ≡ w.state
  pub touched : IsPermutation w.pending session.touched
  pub root : RootMeans session w.base
  pub nodes : length session.store ≤ w.nodes
  pub places : length session.places ≤ w.numbered
  pub marks : AllZip (IsMark session) w.marks session.marks

-- what a call does to a session, it does to where the session stands;
-- and the bound of an emit and its want of numbers are those that the calls determine
pub record StandingStays : Type 0 where
  pub begins : (epoch : ℕ) (name : List ℕ) (session : Held) → IsNew epoch name session
      → Stands session (begun_standing epoch name)
  pub changes : (change : Change) (old new : Held) (w : Standing) → Stands old w
      → HasChanged change old new → Stands new (changed change w)
  pub emits : (old new : Held) (w : Standing) → Stands old w → HasGrown old new → HasEmitted old new
      → Stands new (emitted w)
  pub refuses : (old new : Held) (w : Standing) → Stands old w → HasGrown old new
      → IsAsBefore old new → Stands new (refused w)
  pub marks : (name : List ℕ) (old new : Held) (w : Standing) → Stands old w
      → HasMarked name old new → Stands new (marked name w)
  pub goes_back : (name : List ℕ) (old new : Held) (w : Standing) → Stands old w
      → HasGoneBack name old new → Stands new (went_back name w)
  pub absent : (name : List ℕ) (session : Held) (w : Standing) → Stands session w
      → named (λ m. m.name) name session.marks ≡ None ↔ (mark_named name w ≡ None)
  pub compacts : (old new : Held) (w : Standing) → Stands old w → HasCompacted old new
      → Stands new (compacted w)
  pub same_count : (old new : Held) (w : Standing) → Stands old w → HasCompacted old new
      → length new.store ≡ compact_count w
  pub same_cost : (session : Held) (w : Standing) → Stands session w
      → bound session.touched session.state.sources ≡ emit_cost w
  pub same_end : (session : Held) (w : Standing) → Stands session w → IsSpent session
      → MaySpendAll w

-- whoever goes back to a mark finds the sources, the base and the grounds as they were when it was
-- made, for as long as that mark stands
abbrev pub BackAsMarked : Type 0
BackAsMarked =
    (name : List ℕ) (w v : Standing) → mark_named name v ≡ mark_named name (marked name w)
    → ((went_back name v).state.sources ≡ w.state.sources) × ((went_back name v).base ≡ w.base)
    × ((went_back name v).pending ≡ w.pending)
