-- The order in which the nodes and the leaves of a tree are written: the first visits of a walk
-- that takes a node before its children and the left child before the right one.
use Rattle.std.specs.Prelude.{ℕ, ◌==◌, Bool, true, false, not, if◌then◌else◌, List, [], ◌∷◌, ◌++◌}
use Rattle.std.specs.Prelude.{map, filter, nat_eq}
use Rattle.std.specs.List.{list_any, position_or_len}
use Rattle.trie_core.specs.Tree.{Tree, leaf, node, tree_eq}
use Rattle.least_nodes.specs.NodeList.{Member, at, says}

-- the first of equal elements each, in order, behind those that were seen before
abbrev pub each_once : {K : Type 0} → (K → K → Bool) → List K → List K → List K
each_once eq seen [] = seen
each_once eq seen (x ∷ xs) =
    if list_any (eq x) seen then each_once eq seen xs else each_once eq (seen ++ x ∷ []) xs

module _ {A : Type 0} where
  -- the nodes of a tree as the walk comes to them, each with all that is below it
  abbrev pub preorder : Tree A → List (Tree A)
  preorder (leaf a) = []
  preorder (node l r) = node l r ∷ (preorder l ++ preorder r)

  -- the leaves of a tree as the walk comes to them
  abbrev pub leaves : Tree A → List A
  leaves (leaf a) = a ∷ []
  leaves (node l r) = leaves l ++ leaves r

  -- the tree to which these bits lead: a leaf stays where it is
  abbrev pub below : Tree A → List Bool → Tree A
  below t [] = t
  below (leaf a) (b ∷ w) = leaf a
  below (node l r) (false ∷ w) = below l w
  below (node l r) (true ∷ w) = below r w

  -- a tree is no leaf
  abbrev pub IsNode : Tree A → Type 0
  IsNode (leaf a) = ⊥
  IsNode (node l r) = Unit {0}

  module _ (eq : A → A → Bool) where
    -- the different nodes of a tree, in order of first visit
    abbrev pub inner : Tree A → List (Tree A)
    inner t = each_once (tree_eq eq) [] (preorder t)

    -- the different leaves of a tree, in order of first visit
    abbrev pub leaf_order : Tree A → List A
    leaf_order t = each_once eq [] (leaves t)

    -- the record for a tree: its answer, or its index among the nodes
    abbrev pub member : List (Tree A) → Tree A → Member A
    member nodes (leaf a) = says a
    member nodes (node l r) = at (position_or_len (tree_eq eq (node l r)) nodes)

    -- the two records of a node: a leaf stands on both sides
    abbrev pub pair_of : List (Tree A) → Tree A → Member A × Member A
    pair_of nodes (leaf a) = (says a, says a)
    pair_of nodes (node l r) = (member nodes l, member nodes r)

    -- the nodes that are written for a tree: one where it is a leaf
    abbrev pub laid : Tree A → List (Member A × Member A)
    laid (leaf a) = pair_of [] (leaf a) ∷ []
    laid (node l r) = map (pair_of (inner (node l r))) (inner (node l r))

-- where the leaves are numbers, leaf 0 is no place
abbrev pub is_place : ℕ → Bool
is_place k = not (k == 0)

-- the different places of a tree, in order of first visit
abbrev pub place_order : Tree ℕ → List ℕ
place_order t = filter is_place (leaf_order nat_eq t)
