-- The nodes of a written search tree as a list, and the walk through them (MaxMind DB 2.0,
-- "Binary Search Tree Section").
-- Nodes may be shared, lead back to themselves, or name positions past the end:
-- the walk ends with its bits.
use Rattle.std.specs.Prelude.{ℕ, Bool, true, false, List, [], ◌∷◌, Option, Some, None}
use Rattle.std.specs.Prelude.{slice_index_or}

-- a record of a node: the position of another node, or an answer
pub data Member (A : Type 0) : Type 0 where
  at : ℕ → Member A
  says : A → Member A

module _ {A : Type 0} where
  -- the left record for a bit 0, and the right one for a bit 1
  abbrev pub side : Bool → Member A × Member A → Member A
  side false pair = pair.0
  side true pair = pair.1

  -- the two records at a position: past the end, a position leads to itself
  abbrev pub records_at : List (Member A × Member A) → ℕ → Member A × Member A
  records_at nodes i = slice_index_or nodes i (at i, at i)

  -- the answer that the walk along these bits comes to, if it has ended by then
  abbrev pub go : List (Member A × Member A) → Member A → List Bool → Option A
  go nodes (says a) w = Some a
  go nodes (at i) [] = None
  go nodes (at i) (b ∷ w) = go nodes (side b (records_at nodes i)) w

  -- the record that the walk along these bits comes to
  abbrev pub reached : List (Member A × Member A) → Member A → List Bool → Member A
  reached nodes (says a) w = says a
  reached nodes (at i) [] = at i
  reached nodes (at i) (b ∷ w) = reached nodes (side b (records_at nodes i)) w

module _ {A B : Type 0} where
  -- the same record with its answer renamed
  abbrev pub map_member : (A → B) → Member A → Member B
  map_member f (at i) = at i
  map_member f (says a) = says (f a)

  -- and both records of a node
  abbrev pub map_pair : (A → B) → Member A × Member A → Member B × Member B
  map_pair f pair = (map_member f pair.0, map_member f pair.1)
