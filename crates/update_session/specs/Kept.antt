-- What a session keeps from one emit to the next, and what its root answers.
use Rattle.std.specs.Prelude.{◌≡◌, ℕ, ⊤, ◌^◌, ◌<◌, ◌≤◌, false, List, ◌++◌, length, Option}
use Rattle.std.specs.Prelude.{None, Some}
use Rattle.std.specs.List.{AllByRecursion}
use Rattle.geo_addr.specs.Ranges.{Ends}
use Rattle.geo_terms.specs.Alias.{is_alias}
use Rattle.geo_terms.specs.Numbers.{place_at}
use Rattle.geo_terms.specs.PlaceForm.{PlaceParts}
use Rattle.geo_terms.specs.Precedence.{record_at, spoken_at}
use Rattle.geo_terms.specs.SlotOrder.{AreInOrder}
use Rattle.geo_terms.specs.Sources.{InForce}
use Rattle.source_changes.specs.Keeping.{AreSources}
use Rattle.source_changes.specs.Laws.{IsKeptOutside}
use Rattle.trie_core.specs.declared.node.Pair.{Pair}
use Rattle.trie_core.specs.declared.node.Root.{Root}
use Rattle.trie_core.specs.Store.{leaf_at, IsRootOf}
use Rattle.update_session.specs.declared.marks.Mark.{Mark}
use Rattle.update_session.specs.State.{State}

-- what a session holds: what its file depends on; the store of nodes, and the places that leaves
-- are the numbers of; the root of the last emit, the grounds that were touched since, and the marks
pub record Held : Type 0 where
  pub state : State
  pub store : List Pair
  pub places : List PlaceParts
  pub root : Root
  pub touched : List Ends
  pub marks : List Mark

-- the root's leaf at an address is the number of this place
pub record Answers (pairs : List Pair) (places : List PlaceParts) (root : Root)
    (wanted : Option PlaceParts) (a : ℕ) : Type 0 where
  pub leaf : ℕ
  pub is : leaf_at pairs root a ≡ Some leaf
  pub few : leaf ≤ length places
  pub place : place_at places leaf ≡ wanted

-- at every address it is the number of the address's record
abbrev pub AnswersAll : List Pair → List PlaceParts → Root → InForce → Type 0
AnswersAll pairs places root s = (a : ℕ) → a < 2 ^ 128 → Answers pairs places root (record_at s a) a

-- outside the blocks that carry IPv4 addresses it is the number of what is said of the address
abbrev pub AnswersSpoken : List Pair → List PlaceParts → Root → InForce → Type 0
AnswersSpoken pairs places root s =
    (a : ℕ) → a < 2 ^ 128 → is_alias a ≡ false → Answers pairs places root (spoken_at s a) a

-- the root answers the record of sources that said the same off the touched grounds
pub record HasBase (pairs : List Pair) (places : List PlaceParts) (root : Root)
    (touched : List Ends) (s : InForce) : Type 0 where
  pub base : InForce
  pub answers : AnswersAll pairs places root base
  pub kept : IsKeptOutside touched base s

-- what holds of the sources, the root and the touched grounds of a session,
-- and of those of each of its marks
pub record IsBased (s : InForce) (pairs : List Pair) (places : List PlaceParts) (root : Root)
    (touched : List Ends) : Type 0 where
  pub sources : AreSources s
  pub of : IsRootOf pairs root
  pub base : HasBase pairs places root touched s

abbrev pub AreBased : List Pair → List PlaceParts → List Mark → Type 0
AreBased pairs places marks =
    AllByRecursion (λ m. IsBased m.sources pairs places m.root m.touched) marks

-- what is noted of the touched grounds, if anything is, is these grounds
abbrev pub IsNoted : Option (List Ends) → List Ends → Type 0
IsNoted None touched = ⊤
IsNoted (Some noted) touched = noted ≡ touched

-- what holds of every session; the marks stand in the order of their names
pub record IsSession (s : InForce) (pairs : List Pair) (places : List PlaceParts) (root : Root)
    (touched : List Ends) (kept : List Mark) : Type 0 where
  pub now : IsBased s pairs places root touched
  pub marks : AreBased pairs places kept
  pub order : AreInOrder (λ m. m.name) kept

-- the root of a session is one of its store, and answers the record of these sources
pub record RootMeans (session : Held) (s : InForce) : Type 0 where
  pub of : IsRootOf session.store session.root
  pub answers : AnswersAll session.store session.places session.root s

-- at most n places have come to a list, behind those that it had
abbrev pub GrowsBy : List PlaceParts → List PlaceParts → ℕ → Type 0
GrowsBy old new n = (more : List PlaceParts) × (new ≡ old ++ more) × (length more ≤ n)

-- the session as it goes back to a mark
abbrev pub gone_back : Mark → Held → Held
gone_back m session = record session {
  state = record session.state { sources = m.sources };
  root = m.root;
  touched = m.touched;
}
