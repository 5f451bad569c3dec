-- What each kind of call does to a session.
use Rattle.std.specs.Prelude.{◌≡◌, ℕ, ◌+◌, ◌-◌, ◌^◌, ◌≤◌, ◌⊎◌, List, [], ◌∷◌, ◌++◌, length, Some}
use Rattle.std.specs.List.{AllZip}
use Rattle.std.specs.List.Sorted.{IsPermutation}
use Rattle.geo_addr.specs.Ranges.{Ends}
use Rattle.geo_terms.specs.SlotOrder.{placed}
use Rattle.geo_terms.specs.Sources.{InForce, no_sources}
use Rattle.source_changes.specs.Changes.{Change, after, changes, named}
use Rattle.trie_core.specs.Store.{GrowsBy}
use Rattle.update_session.specs.Kept.{Held, RootMeans, gone_back, GrowsBy as PlacesGrowBy}
use Rattle.update_session.specs.declared.marks.Mark.{Mark}
use Rattle.update_session.specs.State.{begun, nodes_under}
use Rattle.update_session.specs.Touch.{bound, few_places}

-- a session that was just begun: nothing in it, and a root that answers the record of no sources
pub record IsNew (epoch : ℕ) (name : List ℕ) (new : Held) : Type 0 where
  pub state : new.state ≡ begun epoch name
  pub store : new.store ≡ []
  pub places : new.places ≡ []
  pub touched : new.touched ≡ []
  pub marks : new.marks ≡ []
  pub root : RootMeans new no_sources

-- after a call that sets or drops a source: the grounds that it touched have come to the list,
-- in some order
pub record HasChanged (change : Change) (old new : Held) : Type 0 where
  pub state : new.state ≡ record old.state { sources = after change old.state.sources }
  pub more : List Ends
  pub touched : new.touched ≡ old.touched ++ more
  pub same : IsPermutation (changes change old.state.sources) more
  pub store : new.store ≡ old.store
  pub places : new.places ≡ old.places
  pub root : new.root ≡ old.root
  pub marks : new.marks ≡ old.marks

-- after several such calls, one after another
abbrev pub HaveChanged : List Change → (old new : Held) → Type 0
HaveChanged [] old new = new ≡ old
HaveChanged (c ∷ cs) old new = (mid : Held) × HasChanged c old mid × HaveChanged cs mid new

-- the grounds that several calls touch: those of one call after those of another
abbrev pub Touch : List Change → InForce → List Ends → Type 0
Touch [] s more = more ≡ []
Touch (c ∷ cs) s more = (first : List Ends) × (rest : List Ends) × (more ≡ first ++ rest)
    × IsPermutation (changes c s) first × Touch cs (after c s) rest

-- after an emit, whatever its answer: nodes and places were kept,
-- and no more have come than the touch allows
pub record HasGrown (old new : Held) : Type 0 where
  pub state : new.state ≡ old.state
  pub store : GrowsBy old.store new.store (bound old.touched old.state.sources)
  pub places : PlacesGrowBy old.places new.places (few_places old.touched old.state.sources)
  pub marks : new.marks ≡ old.marks

-- after an emit that was not refused: the root answers the record of the sources in force,
-- and nothing is touched
pub record HasEmitted (old new : Held) : Type 0 where
  pub root : RootMeans new old.state.sources
  pub touched : new.touched ≡ []

-- after one that was refused
pub record IsAsBefore (old new : Held) : Type 0 where
  pub root : new.root ≡ old.root
  pub touched : new.touched ≡ old.touched

-- the emit could need a number that a node or a place cannot have
abbrev pub IsSpent : Held → Type 0
IsSpent s =
    (2 ^ 32 - 1 ≤ length s.store + bound s.touched s.state.sources)
    ⊎ (2 ^ 32 - 1 ≤ length s.places + few_places s.touched s.state.sources)

-- the mark of a session, as it is now
abbrev pub mark_of : List ℕ → Held → Mark
mark_of name session = record {
  name = name;
  sources = session.state.sources;
  root = session.root;
  touched = session.touched;
}

-- after a call that marks the session: the mark has come, instead of the one with its name or where
-- it belongs in the order of names, and nothing else has changed
abbrev pub HasMarked : (name : List ℕ) (old new : Held) → Type 0
HasMarked name old new =
    new ≡ record old { marks = placed (λ m. m.name) (mark_of name old) old.marks }

-- after one that goes back to a mark: sources, root and touched grounds are the mark's,
-- and nothing else has changed
abbrev pub HasGoneBack : (name : List ℕ) (old new : Held) → Type 0
HasGoneBack name old new =
    (m : Mark) × (named (λ x. x.name) name old.marks ≡ Some m) × (new ≡ gone_back m old)

-- a mark stayed, with a root in the new store that means what the old one meant in the old store
pub record HasStayed (old new : Held) (m m' : Mark) : Type 0 where
  pub name : m'.name ≡ m.name
  pub sources : m'.sources ≡ m.sources
  pub touched : m'.touched ≡ m.touched
  pub root : (s : InForce) → RootMeans (gone_back m old) s → RootMeans (gone_back m' new) s

-- after one that gives up nodes: roots mean what they meant,
-- and the store has the nodes of their trees alone, each once
pub record HasCompacted (old new : Held) : Type 0 where
  pub state : new.state ≡ old.state
  pub places : new.places ≡ old.places
  pub touched : new.touched ≡ old.touched
  pub root : (s : InForce) → RootMeans old s → RootMeans new s
  pub marks : AllZip (HasStayed old new) old.marks new.marks
  pub store : (base : InForce) (bases : List InForce)
      → RootMeans old base → AllZip (λ m s. RootMeans (gone_back m old) s) old.marks bases
      → length new.store ≡ nodes_under (base ∷ bases)
