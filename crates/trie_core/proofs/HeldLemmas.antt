-- Lemmas on the trees that a store holds, and on when the node of two of its records is missing.
use Rattle.std.proofs.Common.{◌≡◌, ℕ, ◌⊎◌, inl, inr, nat_eq, List, length}
use Rattle.std.proofs.Common.{Contains, refl, sym, ◌∙◌, ap, subst, le_refl}
use Rattle.trie_core.specs.declared.node.Rec.{Rec}
use Rattle.trie_core.specs.declared.node.Rec.TheVariants.{Leaf, Node}
use Rattle.trie_core.specs.declared.node.Pair.{Pair}
use Rattle.trie_core.specs.Tree.{Tree, leaf, node, join}
use Rattle.trie_core.specs.Store.{meaning, IsOf, IsSound, NeedsNew}
use Rattle.trie_core.specs.Graft.{HoldsTree}
use Rattle.trie_core.proofs.TreeLemmas.{join-leaves, nat_equality}
use Rattle.trie_core.proofs.StoreLemmas.{meaning-leaf, meaning_node, pair_at, children_of}
use Rattle.trie_core.proofs.StoreLemmas.{leaf_from_meaning, same_from_meaning, Contains-slice_get}

-- a join is the one leaf, or the node
pub join_cases : (l r : Tree ℕ) → ((a : ℕ) × (l ≡ leaf a) × (r ≡ leaf a)
    × (join nat_eq l r ≡ leaf a)) ⊎ (join nat_eq l r ≡ node l r)
join_cases (leaf a) (leaf b) =
    elim (join-leaves nat_eq nat_equality a b) [
      | inl same ↦ inl (a, refl, ap leaf (sym same.0), same.1)
      | inr other ↦ inr other.1
    ]
join_cases (leaf a) (node l r) = inr refl
join_cases (node l r) t = inr refl

module _ (pairs : List Pair) (sound : IsSound pairs) where
  -- a record that means a node has a pair, whose records mean the node's trees
  node_from_meaning : (rec : Rec) (l r : Tree ℕ) → IsOf pairs rec → meaning pairs rec ≡ node l r
      → (p : Pair) × Contains pairs p × IsOf pairs p.left × IsOf pairs p.right
      × (meaning pairs p.left ≡ l) × (meaning pairs p.right ≡ r)
  node_from_meaning (Leaf k) l r of is = let own = meaning-leaf pairs k in absurd (cc)
  node_from_meaning (Node id) l r of is =
      let p = pair_at pairs sound.earlier id of in
      let children = children_of pairs sound.earlier id.0 p.0 p.1 in
      let same : node (meaning pairs p.0.left) (meaning pairs p.0.right) ≡ node l r =
      sym (meaning_node pairs sound.earlier id p.0 p.1) ∙ is in
      (p.0, Contains-slice_get pairs id.0 p.0 p.1, children.0, children.1, cc, cc)

  -- a store that holds a join holds what was joined
  pub HoldsTree-left : (l r : Tree ℕ) → HoldsTree pairs (join nat_eq l r) → HoldsTree pairs l
  HoldsTree-left l r held =
      elim (join_cases l r) [
        | inl one ↦ (Leaf one.0, tt, meaning-leaf pairs one.0 ∙ sym one.1)
        | inr is ↦ let p = node_from_meaning held.0 l r held.1 (held.2 ∙ is) in (p.0.left, p.2, p.4)
      ]

  pub HoldsTree-right : (l r : Tree ℕ) → HoldsTree pairs (join nat_eq l r) → HoldsTree pairs r
  HoldsTree-right l r held =
      elim (join_cases l r) [
        | inl one ↦ (Leaf one.0, tt, meaning-leaf pairs one.0 ∙ sym one.2)
        | inr is ↦ let p = node_from_meaning held.0 l r held.1 (held.2 ∙ is) in
            (p.0.right, p.3, p.5)
      ]

  -- a store that needs the node of two records does not hold their join
  pub join_missing : (left right : Rec)
      → IsOf pairs left → IsOf pairs right → NeedsNew pairs left right
      → HoldsTree pairs (join nat_eq (meaning pairs left) (meaning pairs right)) → ⊥
  join_missing left right left-of right-of needed held =
      elim (join_cases (meaning pairs left) (meaning pairs right)) [
        | inl one ↦ needed.0 one.0 (leaf_from_meaning pairs sound left one.0 left-of one.1)
            (leaf_from_meaning pairs sound right one.0 right-of one.2)
        | inr is ↦
            let p = node_from_meaning held.0 (meaning pairs left) (meaning pairs right) held.1
            (held.2 ∙ is) in
            let l : p.0.left ≡ left = same_from_meaning pairs sound (length pairs) p.0.left left
            (le_refl _) p.2 left-of p.4 in
            let r : p.0.right ≡ right = same_from_meaning pairs sound (length pairs) p.0.right right
            (le_refl _) p.3 right-of p.5 in
            let pair : p.0 ≡ record { left = left; right = right } =
            λ i. record { left = l i; right = r i } in
            needed.1 (subst (Contains pairs) pair p.1)
      ]
