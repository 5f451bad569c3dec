-- Trees whose branches are the bits of an address and whose leaves are answers (MaxMind DB 2.0,
-- "Binary Search Tree Section"), whatever the answers are.
use Rattle.std.specs.Prelude.{◌≡◌, ◌≢◌, ◌⊎◌, ℕ, zero, suc, ◌+◌, ◌^◌, max, Bool, true, false, ◌&&◌}
use Rattle.std.specs.Prelude.{if◌then◌else◌, List, [], ◌∷◌, Option, Some, None}

pub data Tree (A : Type 0) : Type 0 where
  leaf : A → Tree A
  node : Tree A → Tree A → Tree A

module _ {A : Type 0} where
  -- the number of nodes on the longest way
  abbrev pub height : Tree A → ℕ
  height (leaf a) = 0
  height (node l r) = suc (max (height l) (height r))

  -- the leaf at which the way along these bits ends: 0 goes left, 1 goes right
  abbrev pub look : Tree A → List Bool → Option A
  look (leaf a) w = Some a
  look (node l r) [] = None
  look (node l r) (false ∷ w) = look l w
  look (node l r) (true ∷ w) = look r w

  -- no node has two equal leaves
  abbrev pub IsReduced : Tree A → Type 0
  IsReduced (leaf a) = Unit {0}
  IsReduced (node l r) = ((a : A) → l ≡ leaf a → r ≢ leaf a) × IsReduced l × IsReduced r

  -- a tree is another one, or stands somewhere in it
  abbrev pub IsPartOf : Tree A → Tree A → Type 0
  IsPartOf s (leaf a) = s ≡ leaf a
  IsPartOf s (node l r) = (s ≡ node l r) ⊎ (IsPartOf s l ⊎ IsPartOf s r)

  -- the tree has such a leaf
  abbrev pub HasLeaf : Tree A → A → Type 0
  HasLeaf (leaf a) b = a ≡ b
  HasLeaf (node l r) b = HasLeaf l b ⊎ HasLeaf r b

  -- each leaf is such an answer
  abbrev pub AllLeaves : (A → Type 0) → Tree A → Type 0
  AllLeaves P (leaf a) = P a
  AllLeaves P (node l r) = AllLeaves P l × AllLeaves P r

  module _ (eq : A → A → Bool) where
    -- the node of two trees, or their one leaf where both are the same leaf
    abbrev pub join : Tree A → Tree A → Tree A
    join (leaf a) (leaf b) = if eq a b then leaf a else node (leaf a) (leaf b)
    join (leaf a) (node l r) = node (leaf a) (node l r)
    join (node l r) t = node (node l r) t

    -- the tree of a function of addresses over the block of 2 ^ n addresses from `first`
    unfoldable pub tree : (ℕ → A) → ℕ → ℕ → Tree A
    tree answer_at zero first = leaf (answer_at first)
    tree answer_at (suc n) first = join (tree answer_at n first) (tree answer_at n (first + 2 ^ n))

    -- two trees are the same
    abbrev pub tree_eq : Tree A → Tree A → Bool
    tree_eq (leaf a) (leaf b) = eq a b
    tree_eq (leaf a) (node l r) = false
    tree_eq (node l r) (leaf b) = false
    tree_eq (node l r) (node l' r') = tree_eq l l' && tree_eq r r'

module _ {A B : Type 0} where
  -- the same tree with each leaf renamed
  abbrev pub map_tree : (A → B) → Tree A → Tree B
  map_tree f (leaf a) = leaf (f a)
  map_tree f (node l r) = node (map_tree f l) (map_tree f r)
