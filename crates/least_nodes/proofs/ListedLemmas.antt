-- From the nodes of a store that `order` lists to the nodes that are written.
use Rattle.std.proofs.Common.{◌≡◌, ◌≢◌, ℕ, inl, inr, Bool, true, false, not, nat_eq, ◌==◌, List, []}
use Rattle.std.proofs.Common.{map, length, slice_get, Some, Contains, refl, sym, ◌∙◌, ap, subst}
use Rattle.std.proofs.Common.{arith, option_map}
use Rattle.std.specs.List.{position_or_len}
use Rattle.std.proofs.lemmas.Bool.Decides.{Decides-eqb}
use Rattle.std.proofs.lemmas.List.{length-map}
use Rattle.std.proofs.lemmas.List.Elements.{All-contains}
use Rattle.std.proofs.lemmas.Option.{slice_get-map}
use Rattle.trie_core.specs.declared.node.NodeId.{NodeId}
use Rattle.trie_core.specs.declared.node.Rec.{Rec}
use Rattle.trie_core.specs.declared.node.Rec.TheVariants.{Leaf, Node}
use Rattle.trie_core.specs.declared.node.Pair.{Pair}
use Rattle.trie_core.specs.Tree.{Tree, leaf, node, tree_eq}
use Rattle.trie_core.specs.Store.{meaning, IsOf, IsSound}
use Rattle.trie_core.proofs.StoreLemmas.{meaning-leaf, pair_at, meaning_node, same_from_meaning}
use Rattle.trie_core.proofs.TreeLemmas.{nat_equality}
use Rattle.least_nodes.specs.NodeList.{Member, at}
use Rattle.least_nodes.specs.Layout.{preorder, leaves, IsNode, inner, leaf_order, is_place}
use Rattle.least_nodes.specs.Layout.{place_order, member, pair_of, laid}
use Rattle.least_nodes.specs.Order.{trees_of, AreOf, same_node, record_in, IsListed}
use Rattle.least_nodes.proofs.Elements.{In, In-left, In-right, In-map, In-from_map}
use Rattle.least_nodes.proofs.Elements.{In-from_Contains, Contains-from_In, In-each_once}
use Rattle.least_nodes.proofs.Elements.{In-each_once-new, In-filter}
use Rattle.least_nodes.proofs.TreeParts.{In-preorder-itself, preorder-inside, leaves-inside}
use Rattle.least_nodes.proofs.RenameLemmas.{position-map}
use Rattle.least_nodes.proofs.WalkLemmas.{tree_equality, same_node_equality}

-- a number other than 0 is a place
is_place-from_other : (k : ℕ) → k ≢ 0 → is_place k ≡ true
is_place-from_other k other = by (k == 0) refl
  where
    by : (zero_is : Bool) → (k == 0) ≡ zero_is → is_place k ≡ true
    by true is = absurd (other ((Decides-eqb k 0).0 is))
    by false is = ap not is

-- the nodes that are written for a node are the different nodes in it
laid-node : (t : Tree ℕ) → IsNode t
    → laid nat_eq t ≡ map (pair_of nat_eq (inner nat_eq t)) (inner nat_eq t)
laid-node (leaf k) is = absurd is
laid-node (node l r) is = refl

module _ (pairs : List Pair) (sound : IsSound pairs) where
  -- a node means a node
  pub IsNode-meaning : (id : NodeId) → IsOf pairs (Node id) → IsNode (meaning pairs (Node id))
  IsNode-meaning id of =
      let p = pair_at pairs sound.earlier id of in
      subst IsNode (sym (meaning_node pairs sound.earlier id p.0 p.1)) tt

  -- two nodes that mean one tree are one
  same_id : (id other : NodeId) → IsOf pairs (Node id) → IsOf pairs (Node other)
      → meaning pairs (Node id) ≡ meaning pairs (Node other) → id ≡ other
  same_id id other of other-of same =
      let one : Node id ≡ Node other = same_from_meaning pairs sound (length pairs) (Node id)
      (Node other) (omega arith) of other-of same in
      cc

  module _ (ids : List NodeId) (known : AreOf pairs ids) where
    known-In : (id : NodeId) → In id ids → IsOf pairs (Node id)
    known-In id is =
        All-contains (λ (x : NodeId). IsOf pairs (Node x)) ids id known
        (Contains-from_In same_node same_node_equality id ids is)

    -- a record of the store is, in the list of the trees, the record of its
    -- number in the list of the nodes
    pub member-record_in : (rec : Rec) → IsOf pairs rec
        → member nat_eq (trees_of pairs ids) (meaning pairs rec) ≡ record_in ids rec
    member-record_in (Leaf k) of = ap (member nat_eq (trees_of pairs ids)) (meaning-leaf pairs k)
    member-record_in (Node id) of =
        let p = pair_at pairs sound.earlier id of in
        let means = meaning_node pairs sound.earlier id p.0 p.1 in
        ap (member nat_eq (trees_of pairs ids)) means
        ∙ ap (λ t. at (position_or_len (tree_eq nat_eq t) (trees_of pairs ids))) (sym means) ∙ ap at
        (position-map same_node same_node_equality (tree_eq nat_eq) tree_equality (λ (x : NodeId).
        meaning pairs (Node x)) (λ (x : NodeId). IsOf pairs (Node x)) same_id id ids of known-In)

    -- and so are both records of a node
    pub pair_of-record_in : (id : NodeId) (left right : Rec)
        → meaning pairs (Node id) ≡ node (meaning pairs left) (meaning pairs right)
        → IsOf pairs left → IsOf pairs right → pair_of nat_eq (trees_of pairs ids)
        (meaning pairs (Node id)) ≡ (record_in ids left, record_in ids right)
    pair_of-record_in id left right means left-of right-of =
        let l = member-record_in left left-of in
        let r = member-record_in right right-of in
        ap (pair_of nat_eq (trees_of pairs ids)) means ∙ (λ i. (l i, r i))

    module _ (rec : Rec) (listed : trees_of pairs ids ≡ inner nat_eq (meaning pairs rec)) where
      -- the tree of a listed node is a node of the whole tree
      inside_from_listed : (id : NodeId) → Contains ids id
          → In (meaning pairs (Node id)) (preorder (meaning pairs rec))
      inside_from_listed id has =
          let in-trees = In-map (λ (x : NodeId). meaning pairs (Node x)) id ids
          (In-from_Contains same_node same_node_equality id ids has) in
          elim (In-each_once (tree_eq nat_eq) tree_equality (meaning pairs (Node id)) []
          (preorder (meaning pairs rec)) (subst (In (meaning pairs (Node id))) listed in-trees)) [
            | inl none ↦ absurd none
            | inr inside ↦ inside
          ]

      listed_from_inside : (id : NodeId) → IsOf pairs (Node id)
          → In (meaning pairs (Node id)) (preorder (meaning pairs rec)) → Contains ids id
      listed_from_inside id of inside =
          let in-inner = In-each_once-new (tree_eq nat_eq) tree_equality
          (meaning pairs (Node id)) [] (preorder (meaning pairs rec)) inside in
          let other = In-from_map (λ (x : NodeId). meaning pairs (Node x)) (meaning pairs (Node id))
          ids (subst (In (meaning pairs (Node id))) (sym listed) in-inner) in
          let same : id ≡ other.0 = same_id id other.0 of (known-In other.0 other.1) other.2 in
          Contains-from_In same_node same_node_equality id ids
          (subst (λ v. In v ids) (sym same) other.1)

      -- where its tree stands in the whole tree, a record is listed
      record_listed : (side : Rec) → IsOf pairs side → ((s : Tree ℕ)
          → In s (preorder (meaning pairs side)) → In s (preorder (meaning pairs rec)))
          → ((k : ℕ) → In k (leaves (meaning pairs side)) → In k (leaves (meaning pairs rec)))
          → IsListed ids (place_order (meaning pairs rec)) side
      record_listed (Leaf k) of nodes_in leaves_in =
          let here : In k (leaves (meaning pairs (Leaf k))) =
          subst (λ t. In k (leaves t)) (sym (meaning-leaf pairs k)) (inl refl) in
          let in-order = In-each_once-new nat_eq nat_equality k [] (leaves (meaning pairs rec))
          (leaves_in k here) in
          λ other. Contains-from_In nat_eq nat_equality k (place_order (meaning pairs rec))
          (In-filter nat_eq nat_equality is_place k (leaf_order nat_eq (meaning pairs rec)) in-order
          (is_place-from_other k other))
      record_listed (Node id) of nodes_in leaves_in =
          listed_from_inside id of (nodes_in (meaning pairs (Node id))
          (In-preorder-itself (meaning pairs (Node id)) (IsNode-meaning id of)))

      -- the children of a listed node are listed
      pub children_listed : (id : NodeId) (left right : Rec) → Contains ids id
          → meaning pairs (Node id) ≡ node (meaning pairs left) (meaning pairs right)
          → IsOf pairs left → IsOf pairs right → IsListed ids (place_order (meaning pairs rec)) left
          × IsListed ids (place_order (meaning pairs rec)) right
      children_listed id left right has means left-of right-of =
          let whole : Tree ℕ = meaning pairs rec in
          let l : Tree ℕ = meaning pairs left in
          let r : Tree ℕ = meaning pairs right in
          let inside : In (node l r) (preorder whole) =
          subst (λ t. In t (preorder whole)) means (inside_from_listed id has) in (
            record_listed left left-of (λ s is. preorder-inside s (node l r) whole inside
                (inr (In-left s (preorder l) (preorder r) is))) (λ k is. leaves-inside k
                (node l r) whole inside (In-left k (leaves l) (leaves r) is)),
            record_listed right right-of (λ s is. preorder-inside s (node l r) whole inside
                (inr (In-right s (preorder l) (preorder r) is))) (λ k is. leaves-inside k
                (node l r) whole inside (In-right k (leaves l) (leaves r) is)),
          )

      laid-listed : IsNode (meaning pairs rec) → laid nat_eq (meaning pairs rec)
          ≡ map (pair_of nat_eq (trees_of pairs ids)) (trees_of pairs ids)
      laid-listed is =
          laid-node (meaning pairs rec) is ∙ ap (λ ts. map (pair_of nat_eq ts) ts) (sym listed)

      -- as many nodes are written as are listed
      pub length-laid : IsNode (meaning pairs rec)
          → length (laid nat_eq (meaning pairs rec)) ≡ length ids
      length-laid is =
          ap length (laid-listed is)
          ∙ length-map (trees_of pairs ids) (pair_of nat_eq (trees_of pairs ids))
          ∙ length-map ids (λ (x : NodeId). meaning pairs (Node x))

      -- and the n-th that is written is the n-th that is listed
      pub slice_get-laid : IsNode (meaning pairs rec)
          → (n : ℕ) (id : NodeId) (left right : Rec) → slice_get ids n ≡ Some id
          → meaning pairs (Node id) ≡ node (meaning pairs left) (meaning pairs right)
          → IsOf pairs left → IsOf pairs right → slice_get (laid nat_eq (meaning pairs rec)) n
          ≡ Some (record_in ids left, record_in ids right)
      slice_get-laid is n id left right at-n means left-of right-of =
          let written : Tree ℕ → Member ℕ × Member ℕ = pair_of nat_eq (trees_of pairs ids) in
          let tree : NodeId → Tree ℕ = λ x. meaning pairs (Node x) in
          ap (λ l. slice_get l n) (laid-listed is) ∙ slice_get-map written (trees_of pairs ids) n
          ∙ ap (option_map written) (slice_get-map tree ids n ∙ ap (option_map tree) at-n)
          ∙ ap Some (pair_of-record_in id left right means left-of right-of)
