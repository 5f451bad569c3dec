-- The nodes of several trees together.
use Rattle.std.proofs.Common.{◌≡◌, ℕ, inl, inr, List, [], ◌∷◌, ◌++◌, map, length, refl, sym, ◌∙◌}
use Rattle.std.proofs.Common.{ap, ap₂}
use Rattle.std.specs.Prelude.{flat_map}
use Rattle.std.proofs.lemmas.List.{length-map, map-append}
use Rattle.trie_core.specs.Tree.{Tree, HasLeaf, AllLeaves, map_tree, tree_eq}
use Rattle.trie_core.specs.Compact.{StandsIn}
use Rattle.least_nodes.specs.Layout.{each_once, preorder, IsNode}
use Rattle.least_nodes.specs.Together.{nodes_of, HaveLeaf, RenamedNodes}
use Rattle.least_nodes.proofs.Elements.{In, In-left, In-right, In-append}
use Rattle.least_nodes.proofs.RenameLemmas.{map-each_once, preorder-map_tree, AllLeaves-preorder}
use Rattle.least_nodes.proofs.RenameLemmas.{AllLeaves-itself, AllLeaves-weaker, map_tree-apart}
use Rattle.least_nodes.proofs.TreeParts.{IsEquality-tree_eq, IsNode-from_preorder, In-from_part}
use Rattle.least_nodes.proofs.TreeParts.{part-from_In}

module _ {A : Type 0} where
  abbrev all_nodes : List (Tree A) → List (Tree A)
  all_nodes trees = flat_map preorder trees

  IsNode-from_all : (trees : List (Tree A)) (s : Tree A) → In s (all_nodes trees) → IsNode s
  IsNode-from_all [] s is = absurd is
  IsNode-from_all (t ∷ ts) s is =
      elim (In-append s (preorder t) (all_nodes ts) is) [
        | inl first ↦ IsNode-from_preorder s t first
        | inr rest ↦ IsNode-from_all ts s rest
      ]

-- a node that stands in one of the trees is among their nodes
pub In-from_standing : (trees : List (Tree ℕ)) (s : Tree ℕ) → IsNode s → StandsIn trees s
    → In s (flat_map preorder trees)
In-from_standing [] s is stands = absurd stands
In-from_standing (t ∷ ts) s is (inl part) =
    In-left s (preorder t) (all_nodes ts) (In-from_part s t is part)
In-from_standing (t ∷ ts) s is (inr rest) =
    In-right s (preorder t) (all_nodes ts) (In-from_standing ts s is rest)

-- and what is among their nodes is a node that stands in one of them
pub standing-from_In : (trees : List (Tree ℕ)) (s : Tree ℕ)
    → In s (flat_map preorder trees) → IsNode s × StandsIn trees s
standing-from_In trees s is = (IsNode-from_all trees s is, stands trees is)
  where
    stands : (trees : List (Tree ℕ)) → In s (flat_map preorder trees) → StandsIn trees s
    stands [] is = absurd is
    stands (t ∷ ts) is =
        elim (In-append s (preorder t) (all_nodes ts) is) [
          | inl first ↦ inl (part-from_In s t first)
          | inr rest ↦ inr (stands ts rest)
        ]

module _ {A B : Type 0} (f : A → B) where
  all_nodes-map : (trees : List (Tree A))
      → flat_map preorder (map (map_tree f) trees) ≡ map (map_tree f) (flat_map preorder trees)
  all_nodes-map [] = refl
  all_nodes-map (t ∷ ts) =
      ap₂ (λ xs ys. xs ++ ys) (preorder-map_tree f t) (all_nodes-map ts)
      ∙ sym (map-append (map_tree f) (preorder t) (all_nodes ts))

-- a leaf of a tree of the list is one of the trees'
pub AllLeaves-of : {A : Type 0} (P : A → Type 0) (trees : List (Tree A))
    → ((a : A) → HaveLeaf trees a → P a) → (s : Tree A) → In s (flat_map preorder trees)
    → AllLeaves P s
AllLeaves-of P [] all s is = absurd is
AllLeaves-of P (t ∷ ts) all s is =
    elim (In-append s (preorder t) (all_nodes ts) is) [
      | inl first ↦ AllLeaves-preorder P s t
          (AllLeaves-weaker (HasLeaf t) P (λ a has. all a (inl has)) t (AllLeaves-itself t)) first
      | inr rest ↦ AllLeaves-of P ts (λ a has. all a (inr has)) s rest
    ]

pub RenamedNodes-holds : (A B : Type 0) → RenamedNodes A B
RenamedNodes-holds A B eq equality eq' equality' f trees apart =
    ap (λ (ns : List (Tree B)). length (each_once (tree_eq eq') [] ns)) (all_nodes-map f trees)
    ∙ ap length (sym (map-each_once (tree_eq eq) (IsEquality-tree_eq eq equality) (tree_eq eq')
    (IsEquality-tree_eq eq' equality') (map_tree f) (AllLeaves (HaveLeaf trees))
    (map_tree-apart eq equality eq' equality' f (HaveLeaf trees) apart) [] (flat_map preorder trees)
    (λ s none. absurd none) (AllLeaves-of (HaveLeaf trees) trees (λ a has. has))))
    ∙ length-map (nodes_of eq trees) (map_tree f)
