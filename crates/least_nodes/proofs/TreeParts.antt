-- Lemmas on the parts of a tree: the test of two trees, the nodes and leaves inside a node,
-- and the bits that lead to each.
use Rattle.std.proofs.Common.{◌≡◌, inl, inr, Bool, true, false, ◌&&◌, List, [], ◌∷◌, refl, sym, ap}
use Rattle.std.proofs.Common.{ap₂, subst}
use Rattle.std.proofs.lemmas.Bool.{and_parts}
use Rattle.trie_core.specs.Tree.{Tree, leaf, node, tree_eq, IsPartOf}
use Rattle.trie_core.specs.Laws.{IsEquality}
use Rattle.least_nodes.specs.Layout.{preorder, leaves, below, IsNode}
use Rattle.least_nodes.proofs.Elements.{In, In-left, In-right, In-append}

module _ {A : Type 0} where
  -- the test of two trees tells equal trees from others where that of two leaves does
  pub IsEquality-tree_eq : (eq : A → A → Bool) → IsEquality eq → IsEquality (tree_eq eq)
  IsEquality-tree_eq eq equality (leaf a) (leaf b) =
      (λ is. ap leaf ((equality a b).0 is), λ same. (equality a b).1 (cc))
  IsEquality-tree_eq eq equality (leaf a) (node l r) = (λ is. absurd (cc), λ same. absurd (cc))
  IsEquality-tree_eq eq equality (node l r) (leaf b) = (λ is. absurd (cc), λ same. absurd (cc))
  IsEquality-tree_eq eq equality (node l r) (node l' r') =
      let left = IsEquality-tree_eq eq equality l l' in
      let right = IsEquality-tree_eq eq equality r r' in (
        λ is. let parts = and_parts (tree_eq eq l l') (tree_eq eq r r') is in
            ap₂ node (left.0 parts.0) (right.0 parts.1),
        λ same. ap₂ (λ a b. a && b) (left.1 (cc)) (right.1 (cc)),
      )

  -- a node is among its own nodes
  pub In-preorder-itself : (t : Tree A) → IsNode t → In t (preorder t)
  In-preorder-itself (leaf a) is = absurd is
  In-preorder-itself (node l r) is = inl refl

  -- what stands among the nodes is a node
  pub IsNode-from_preorder : (s t : Tree A) → In s (preorder t) → IsNode s
  IsNode-from_preorder s (leaf a) inside = absurd inside
  IsNode-from_preorder s (node l r) (inl same) = subst IsNode (sym same) tt
  IsNode-from_preorder s (node l r) (inr rest) =
      elim (In-append s (preorder l) (preorder r) rest) [
        | inl left ↦ IsNode-from_preorder s l left
        | inr right ↦ IsNode-from_preorder s r right
      ]

  -- a node that is part of a tree is among the tree's nodes
  pub In-from_part : (s t : Tree A) → IsNode s → IsPartOf s t → In s (preorder t)
  In-from_part s (leaf a) is-node same = absurd (subst IsNode same is-node)
  In-from_part s (node l r) is-node (inl same) = inl same
  In-from_part s (node l r) is-node (inr (inl left)) =
      inr (In-left s (preorder l) (preorder r) (In-from_part s l is-node left))
  In-from_part s (node l r) is-node (inr (inr right)) =
      inr (In-right s (preorder l) (preorder r) (In-from_part s r is-node right))

  -- and what is among the nodes is part of the tree
  pub part-from_In : (s t : Tree A) → In s (preorder t) → IsPartOf s t
  part-from_In s (leaf a) inside = absurd inside
  part-from_In s (node l r) (inl same) = inl same
  part-from_In s (node l r) (inr rest) =
      elim (In-append s (preorder l) (preorder r) rest) [
        | inl left ↦ inr (inl (part-from_In s l left))
        | inr right ↦ inr (inr (part-from_In s r right))
      ]

  -- the nodes of a node of a tree are nodes of the tree
  pub preorder-inside : (s u t : Tree A) → In u (preorder t) → In s (preorder u) → In s (preorder t)
  preorder-inside s u (leaf a) inside is = absurd inside
  preorder-inside s u (node l r) (inl same) is = subst (λ v. In s (preorder v)) same is
  preorder-inside s u (node l r) (inr rest) is =
      elim (In-append u (preorder l) (preorder r) rest) [
        | inl left ↦ inr (In-left s (preorder l) (preorder r) (preorder-inside s u l left is))
        | inr right ↦ inr (In-right s (preorder l) (preorder r) (preorder-inside s u r right is))
      ]

  -- and its leaves are leaves of the tree
  pub leaves-inside : (a : A) (u t : Tree A) → In u (preorder t) → In a (leaves u) → In a (leaves t)
  leaves-inside a u (leaf b) inside is = absurd inside
  leaves-inside a u (node l r) (inl same) is = subst (λ v. In a (leaves v)) same is
  leaves-inside a u (node l r) (inr rest) is =
      elim (In-append u (preorder l) (preorder r) rest) [
        | inl left ↦ In-left a (leaves l) (leaves r) (leaves-inside a u l left is)
        | inr right ↦ In-right a (leaves l) (leaves r) (leaves-inside a u r right is)
      ]

  -- some bits lead to each node
  pub bits_to : (s t : Tree A) → In s (preorder t) → (p : List Bool) × (below t p ≡ s)
  bits_to s (leaf a) inside = absurd inside
  bits_to s (node l r) (inl same) = ([], sym same)
  bits_to s (node l r) (inr rest) =
      elim (In-append s (preorder l) (preorder r) rest) [
        | inl left ↦ let found = bits_to s l left in (false ∷ found.0, found.1)
        | inr right ↦ let found = bits_to s r right in (true ∷ found.0, found.1)
      ]
