-- The tree below a block of addresses, and a tree that is put where it was.
use Rattle.std.specs.Prelude.{◌≡◌, ◌≢◌, ℕ, ◌+◌, ◌^◌, Bool, true, false, List, [], ◌∷◌, ◌++◌, length}
use Rattle.std.specs.Prelude.{take}
use Rattle.geo_addr.specs.Bits.{bits_of}
use Rattle.geo_addr.specs.Ranges.{Prefix}
use Rattle.trie_core.specs.declared.node.Rec.{Rec}
use Rattle.trie_core.specs.declared.node.Root.{Root}
use Rattle.trie_core.specs.declared.node.Pair.{Pair}
use Rattle.trie_core.specs.Tree.{Tree, leaf, node, look, join}
use Rattle.trie_core.specs.Laws.{IsEquality}
use Rattle.trie_core.specs.Store.{meaning, tree_of, IsOf, IsRootOf}

-- the bits that the addresses of a block share
abbrev pub way_of : Prefix → List Bool
way_of block = take block.len (bits_of 128 block.first)

module _ {A : Type 0} where
  -- where a bit leads: a leaf is its own halves
  abbrev pub half : Bool → Tree A → Tree A
  half b (leaf a) = leaf a
  half false (node l r) = l
  half true (node l r) = r

  -- the tree to which the way along these bits leads, or the leaf that it meets before
  abbrev pub sub : Tree A → List Bool → Tree A
  sub t [] = t
  sub t (b ∷ way) = sub (half b t) way

  -- the tree with another one at the end of the way along these bits
  abbrev pub graft : (A → A → Bool) → Tree A → List Bool → Tree A → Tree A
  graft eq t [] s = s
  graft eq t (false ∷ way) s = join eq (graft eq (half false t) way s) (half true t)
  graft eq t (true ∷ way) s = join eq (half false t) (graft eq (half true t) way s)

-- after some equal bits comes one that differs
abbrev pub DoPart : List Bool → List Bool → Type 0
DoPart [] w = ⊥
DoPart (b ∷ v) [] = ⊥
DoPart (false ∷ v) (false ∷ w) = DoPart v w
DoPart (true ∷ v) (true ∷ w) = DoPart v w
DoPart (false ∷ v) (true ∷ w) = Unit {0}
DoPart (true ∷ v) (false ∷ w) = Unit {0}

-- the tree below a way answers as the whole tree does behind that way
abbrev pub BelowAnswers : Type 0 → Type 0
BelowAnswers A = (t : Tree A) (way w : List Bool) → look (sub t way) w ≡ look t (way ++ w)

-- behind the way of a graft its tree answers, and elsewhere the old one
abbrev pub GraftAnswers : Type 0 → Type 0
GraftAnswers A = (eq : A → A → Bool) → IsEquality eq → (t s : Tree A) (way w : List Bool)
    → (look (graft eq t way s) (way ++ w) ≡ look s w)
    × (DoPart way w → look (graft eq t way s) w ≡ look t w)

-- after the tree below one way is grafted at another one that parts from it, both ways answer alike
abbrev pub CopyAnswersAlike : Type 0 → Type 0
CopyAnswersAlike A =
    (eq : A → A → Bool) → IsEquality eq → (t : Tree A) (from to w : List Bool) → DoPart to from
    → look (graft eq t to (sub t from)) (to ++ w) ≡ look (graft eq t to (sub t from)) (from ++ w)

-- a record of the store means this tree
abbrev pub HoldsTree : List Pair → Tree ℕ → Type 0
HoldsTree pairs t = (rec : Rec) × IsOf pairs rec × (meaning pairs rec ≡ t)

-- the store is full, and no root of it means this tree
abbrev pub IsFullWithoutTree : List Pair → Tree ℕ → Type 0
IsFullWithoutTree pairs t =
    (length pairs + 1 ≡ 2 ^ 32) × ((root : Root) → IsRootOf pairs root → tree_of pairs root ≢ t)
