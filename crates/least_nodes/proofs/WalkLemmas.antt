-- Lemmas on a walk through a store that passes over what it has seen.
use Rattle.std.proofs.Common.{◌≡◌, ℕ, ◌<◌, ◌≤◌, inl, inr, Bool, true, false, nat_eq, List, [], ◌∷◌}
use Rattle.std.proofs.Common.{◌++◌, ◌+◌, ◌-◌, filter, length, Contains, refl, sym, ◌∙◌, ap, subst}
use Rattle.std.proofs.Common.{arith, rules}
use Rattle.std.proofs.lemmas.List.{length-map, map-append, length_push}
use Rattle.std.proofs.lemmas.List.Elements.{All-contains, All-push, filter-append}
use Rattle.trie_core.specs.declared.node.NodeId.{NodeId}
use Rattle.trie_core.specs.declared.node.Rec.{Rec}
use Rattle.trie_core.specs.declared.node.Rec.TheVariants.{Node}
use Rattle.trie_core.specs.declared.node.Pair.{Pair}
use Rattle.trie_core.specs.contracts.node.NodeIdPartialEq.TheImpl as id_impl
use Rattle.trie_core.specs.Tree.{Tree, node, height, IsReduced, tree_eq}
use Rattle.trie_core.specs.Laws.{IsEquality}
use Rattle.trie_core.specs.Store.{meaning, node_number, IsOf, IsSound}
use Rattle.trie_core.proofs.StoreLemmas.{IsReduced-meaning, same_from_meaning}
use Rattle.trie_core.proofs.StoreLemmas.{pair_at, meaning_node}
use Rattle.trie_core.proofs.TreeLemmas.{nat_equality}
use Rattle.least_nodes.specs.Layout.{each_once, preorder, leaves, inner, is_place, place_order}
use Rattle.least_nodes.specs.Laws.{IsFewest}
use Rattle.least_nodes.specs.Order.{trees_of, AreOf, nodes_after, places_after, IsDoneBelow}
use Rattle.least_nodes.specs.Order.{IsNoted, same_node}
use Rattle.least_nodes.proofs.Elements.{In, In_last, In-left, In-append, In-map, In-from_map}
use Rattle.least_nodes.proofs.Elements.{In-from_Contains, Contains-from_In, each_once-new}
use Rattle.least_nodes.proofs.Elements.{each_once-old}
use Rattle.least_nodes.proofs.Elements.{each_once-known, each_once-append, In-each_once}
use Rattle.least_nodes.proofs.Elements.{In-each_once-seen, In-each_once-new, In-filter}
use Rattle.least_nodes.proofs.Elements.{In-from_filter, filter-each_once, IsDistinct-from_none}
use Rattle.least_nodes.proofs.Positions.{length-le_from_apart, Least-holds}
use Rattle.least_nodes.proofs.TreeParts.{IsEquality-tree_eq, preorder-inside, leaves-inside}

-- the test of two node numbers tells equal ones from others
pub id_equality : IsEquality id_impl.eq-value.it
id_equality a b = (
  λ is. let h : nat_eq a.0 b.0 ≡ true = is in
      let number : a.0 ≡ b.0 = search rules in
      λ i. record { 0 = number i },
  λ same. let h : nat_eq a.0 b.0 ≡ true =
      (nat_equality a.0 b.0).1 (ap (λ (x : NodeId). x.0) same) in h,
)

pub same_node_equality : IsEquality same_node
same_node_equality a b = id_equality a b

-- no two nodes have one number
pub node_numbers_differ : (a b : NodeId) → node_number a ≡ node_number b → a ≡ b
node_numbers_differ a b number = λ i. record { 0 = number i }

pub tree_equality : IsEquality (tree_eq nat_eq)
tree_equality = IsEquality-tree_eq nat_eq nat_equality

-- what the answer of an insert says
pub IsNoted-new : (old new : List NodeId) (id : NodeId) (is_new : Bool) → is_new ≡ true
    → IsNoted old new id is_new → (Contains old id → ⊥) × (new ≡ old ++ id ∷ [])
IsNoted-new old new id true is noted = noted
IsNoted-new old new id false is noted = absurd (cc)

pub IsNoted-old : (old new : List NodeId) (id : NodeId) (is_new : Bool) → is_new ≡ false
    → IsNoted old new id is_new → Contains old id × (new ≡ old)
IsNoted-old old new id true is noted = absurd (cc)
IsNoted-old old new id false is noted = noted

-- ---- trees and places that a walk has come to

-- a walk through a node that was not seen goes on with the children
nodes_after-new : (seen : List (Tree ℕ)) (l r : Tree ℕ) → (In (node l r) seen → ⊥)
    → nodes_after seen (node l r) ≡ nodes_after (nodes_after (seen ++ node l r ∷ []) l) r
nodes_after-new seen l r new =
    each_once-new (tree_eq nat_eq) tree_equality seen (node l r) (preorder l ++ preorder r) new
    ∙ each_once-append (tree_eq nat_eq) tree_equality (seen ++ node l r ∷ []) (preorder l)
    (preorder r)

-- and so does one through a node that was
nodes_after-old : (seen : List (Tree ℕ)) (l r : Tree ℕ) → In (node l r) seen
    → nodes_after seen (node l r) ≡ nodes_after (nodes_after seen l) r
nodes_after-old seen l r old =
    each_once-old (tree_eq nat_eq) tree_equality seen (node l r) (preorder l ++ preorder r) old
    ∙ each_once-append (tree_eq nat_eq) tree_equality seen (preorder l) (preorder r)

-- whether a node is noted before its walk or by it
nodes_after-noted : (seen : List (Tree ℕ)) (t l r : Tree ℕ) → t ≡ node l r → (In t seen → ⊥)
    → nodes_after (seen ++ t ∷ []) t ≡ nodes_after seen t
nodes_after-noted seen t l r is fresh =
    let grown : List (Tree ℕ) = seen ++ node l r ∷ [] in
    let same : nodes_after grown (node l r) ≡ nodes_after seen (node l r) =
    nodes_after-old grown l r (In_last (node l r) seen)
    ∙ sym (nodes_after-new seen l r (λ inside. fresh (subst (λ v. In v seen) (sym is) inside))) in
    subst (λ v. nodes_after (seen ++ v ∷ []) v ≡ nodes_after seen v) (sym is) same

places_after-node : (seen : List ℕ) (l r : Tree ℕ)
    → places_after seen (node l r) ≡ places_after (places_after seen l) r
places_after-node seen l r =
    ap (each_once nat_eq seen) (filter-append is_place (leaves l) (leaves r)) ∙ each_once-append
    nat_eq nat_equality seen (filter is_place (leaves l)) (filter is_place (leaves r))

-- where a walk through a tree adds nothing, its nodes and places were all seen
nodes_seen : (seen : List (Tree ℕ)) (t s : Tree ℕ) → nodes_after seen t ≡ seen
    → In s (preorder t) → In s seen
nodes_seen seen t s same inside =
    subst (In s) same (In-each_once-new (tree_eq nat_eq) tree_equality s seen (preorder t) inside)

places_seen : (seen : List ℕ) (t : Tree ℕ) (k : ℕ) → places_after seen t ≡ seen
    → In k (filter is_place (leaves t)) → In k seen
places_seen seen t k same inside =
    subst (In k) same
    (In-each_once-new nat_eq nat_equality k seen (filter is_place (leaves t)) inside)

-- what a walk through a tree has seen it need not walk again
pub IsDoneBelow-after : (n : ℕ) (nodes : List (Tree ℕ)) (places : List ℕ) (t : Tree ℕ)
    → IsDoneBelow n nodes places → IsDoneBelow n (nodes_after nodes t) (places_after places t)
IsDoneBelow-after n nodes places t done u has low =
    elim (In-each_once (tree_eq nat_eq) tree_equality u nodes (preorder t)
    (In-from_Contains (tree_eq nat_eq) tree_equality u (nodes_after nodes t) has)) [
      | inl before ↦
          let was = done u (Contains-from_In (tree_eq nat_eq) tree_equality u nodes before) low in (
            each_once-known (tree_eq nat_eq) tree_equality (nodes_after nodes t) (preorder u)
                (λ s inside. In-each_once-seen (tree_eq nat_eq) tree_equality s nodes (preorder t)
                (nodes_seen nodes u s was.0 inside)),
            each_once-known nat_eq nat_equality (places_after places t) (filter is_place (leaves u))
                (λ k inside. In-each_once-seen nat_eq nat_equality k places
                (filter is_place (leaves t)) (places_seen places u k was.1 inside)),
          )
      | inr now ↦ (
        each_once-known (tree_eq nat_eq) tree_equality (nodes_after nodes t) (preorder u)
            (λ s inside. In-each_once-new (tree_eq nat_eq) tree_equality s nodes (preorder t)
            (preorder-inside s u t now inside)),
        each_once-known nat_eq nat_equality (places_after places t) (filter is_place
            (leaves u)) (λ k inside. let leaf-of =
            In-from_filter nat_eq nat_equality is_place k (leaves u) inside in In-each_once-new
            nat_eq nat_equality k places (filter is_place (leaves t)) (In-filter nat_eq nat_equality
            is_place k (leaves t) (leaves-inside k u t now leaf-of.0) leaf-of.1)),
      )
    ]

-- a node that is higher may be noted before its children are walked
pub IsDoneBelow-push : (n m : ℕ) (nodes : List (Tree ℕ)) (places : List ℕ) (t : Tree ℕ) → m ≤ n
    → m < height t → IsDoneBelow n nodes places → IsDoneBelow m (nodes ++ t ∷ []) places
IsDoneBelow-push n m nodes places t le high done u has low =
    elim (In-append u nodes (t ∷ [])
    (In-from_Contains (tree_eq nat_eq) tree_equality u (nodes ++ t ∷ []) has)) [
      | inl before ↦
          let was =
          done u (Contains-from_In (tree_eq nat_eq) tree_equality u nodes before) (omega arith) in (
            each_once-known (tree_eq nat_eq) tree_equality (nodes ++ t ∷ []) (preorder u)
                (λ s inside. In-left s nodes (t ∷ []) (nodes_seen nodes u s was.0 inside)),
            was.1,
          )
      | inr last ↦ elim last [
        | inl same ↦ absurd (omega (arith, ap height same))
        | inr none ↦ absurd none
      ]
    ]

-- what holds up to a height holds up to a lower one
pub IsDoneBelow-lower : (n m : ℕ) (nodes : List (Tree ℕ)) (places : List ℕ) → m ≤ n
    → IsDoneBelow n nodes places → IsDoneBelow m nodes places
IsDoneBelow-lower n m nodes places le done u has low = done u has (omega (arith, le, low))

-- before a walk nothing was seen
pub IsDoneBelow-nil : (n : ℕ) → IsDoneBelow n [] []
IsDoneBelow-nil n t has low = absurd (In-from_Contains (tree_eq nat_eq) tree_equality t [] has)

-- ---- the nodes of a store

module _ (pairs : List Pair) where
  trees_of-push : (ids : List NodeId) (id : NodeId)
      → trees_of pairs (ids ++ id ∷ []) ≡ trees_of pairs ids ++ meaning pairs (Node id) ∷ []
  trees_of-push ids id = map-append (λ (x : NodeId). meaning pairs (Node x)) ids (id ∷ [])

  -- a noted node's tree was seen
  pub tree_seen : (ids : List NodeId) (id : NodeId) → Contains ids id
      → Contains (trees_of pairs ids) (meaning pairs (Node id))
  tree_seen ids id has =
      Contains-from_In (tree_eq nat_eq) tree_equality (meaning pairs (Node id))
      (trees_of pairs ids) (In-map (λ (x : NodeId). meaning pairs (Node x)) id ids
      (In-from_Contains id_impl.eq-value.it id_equality id ids has))

  -- and that of any other was not, since no two nodes mean one tree
  tree_new : IsSound pairs → (ids : List NodeId) (id : NodeId) → AreOf pairs ids
      → IsOf pairs (Node id) → (Contains ids id → ⊥)
      → In (meaning pairs (Node id)) (trees_of pairs ids) → ⊥
  tree_new sound ids id known of new seen =
      let other =
      In-from_map (λ (x : NodeId). meaning pairs (Node x)) (meaning pairs (Node id)) ids seen in
      let is : Contains ids other.0 =
      Contains-from_In id_impl.eq-value.it id_equality other.0 ids other.1 in
      let other-of : IsOf pairs (Node other.0) =
      All-contains (λ (x : NodeId). IsOf pairs (Node x)) ids other.0 known is in
      let one : Node id ≡ Node other.0 = same_from_meaning pairs sound (length pairs) (Node id)
      (Node other.0) (omega arith) of other-of other.2 in
      let same : id ≡ other.0 = cc in
      new (subst (Contains ids) (sym same) is)

  -- a node that was not seen is noted: then its children may be walked, and the walk through them
  -- comes to what the walk through the node comes to
  pub record IsNotedNode (ids grown : List NodeId) (places : List ℕ) (t : Tree ℕ)
      (id : NodeId) : Type 0 where
    pub known : AreOf pairs grown
    pub noted : Contains grown id
    pub done : IsDoneBelow (height (meaning pairs (Node id)) - 1) (trees_of pairs grown) places
    pub nodes_are : nodes_after (trees_of pairs grown) (meaning pairs (Node id))
        ≡ nodes_after (trees_of pairs ids) t
    pub places_are : places_after places (meaning pairs (Node id)) ≡ places_after places t
    pub long : length grown ≡ length ids + 1

  pub IsNotedNode-from_noted : (ids grown : List NodeId) (places : List ℕ) (rec : Rec)
      (id : NodeId) (is_new : Bool) → IsSound pairs → AreOf pairs ids → IsOf pairs rec
      → IsDoneBelow (height (meaning pairs rec)) (trees_of pairs ids) places → rec ≡ Node id
      → is_new ≡ true → IsNoted ids grown id is_new
      → IsNotedNode ids grown places (meaning pairs rec) id
  IsNotedNode-from_noted ids grown places rec id is_new sound known of done is new noted =
      let t : Tree ℕ = meaning pairs (Node id) in
      let seen : List (Tree ℕ) = trees_of pairs ids in
      let new-node = IsNoted-new ids grown id is_new new noted in
      let tree : meaning pairs rec ≡ t = ap (meaning pairs) is in
      let trees : trees_of pairs grown ≡ seen ++ t ∷ [] =
      ap (trees_of pairs) new-node.1 ∙ trees_of-push ids id in
      let node-of : IsOf pairs (Node id) = subst (IsOf pairs) is of in
      let pair = pair_at pairs sound.earlier id node-of in
      let means = meaning_node pairs sound.earlier id pair.0 pair.1 in
      let done' : IsDoneBelow (height t) seen places =
      subst (λ v. IsDoneBelow (height v) seen places) tree done in
      let fresh : In t seen → ⊥ = tree_new sound ids id known node-of new-node.0 in
      let after : nodes_after (seen ++ t ∷ []) t ≡ nodes_after seen t =
      nodes_after-noted seen t _ _ means fresh in
      let pushed : IsDoneBelow (height t - 1) (seen ++ t ∷ []) places =
      IsDoneBelow-push (height t) (height t - 1) seen places t (omega arith)
      (omega (arith, ap height means)) done' in
      record {
        known =
            subst (AreOf pairs) (sym new-node.1)
            (All-push (λ (x : NodeId). IsOf pairs (Node x)) ids id known node-of);
        noted = subst (λ xs. Contains xs id) (sym new-node.1) (Contains-from_In
            id_impl.eq-value.it id_equality id (ids ++ id ∷ []) (In_last id ids));
        done = subst (λ ts. IsDoneBelow (height t - 1) ts places) (sym trees) pushed;
        nodes_are =
            ap (λ ts. nodes_after ts t) trees ∙ after ∙ ap (nodes_after seen) (sym tree);
        places_are = ap (places_after places) (sym tree);
        long = ap length new-node.1 ∙ length_push ids id;
      }

  -- what the walk through the children of a noted node comes to at each of its steps
  pub record WalksOn (ids : List NodeId) (places : List ℕ) (t l r : Tree ℕ) : Type 0 where
    pub left_lower : height l < height t
    pub right_lower : height r < height t
    pub left_done : IsDoneBelow (height l) (trees_of pairs ids) places
    pub right_done : IsDoneBelow (height r) (nodes_after (trees_of pairs ids) l)
        (places_after places l)
    pub nodes_are : nodes_after (trees_of pairs ids) t
        ≡ nodes_after (nodes_after (trees_of pairs ids) l) r
    pub places_are : places_after places t ≡ places_after (places_after places l) r

  pub WalksOn-from_noted : (ids : List NodeId) (places : List ℕ) (id : NodeId) (l r : Tree ℕ)
      → Contains ids id
      → IsDoneBelow (height (meaning pairs (Node id)) - 1) (trees_of pairs ids) places
      → meaning pairs (Node id) ≡ node l r → WalksOn ids places (meaning pairs (Node id)) l r
  WalksOn-from_noted ids places id l r noted done means =
      let t : Tree ℕ = meaning pairs (Node id) in
      let seen : List (Tree ℕ) = trees_of pairs ids in
      let has : In (node l r) seen =
      subst (λ v. In v seen) means (In-from_Contains (tree_eq nat_eq) tree_equality t seen
      (tree_seen ids id noted)) in
      let low : height t ≡ height (node l r) = ap height means in
      let right : IsDoneBelow (height r) seen places =
      IsDoneBelow-lower (height t - 1) (height r) seen places (omega (arith, low)) done in
      record {
        left_lower = omega (arith, low);
        right_lower = omega (arith, low);
        left_done =
            IsDoneBelow-lower (height t - 1) (height l) seen places (omega (arith, low)) done;
        right_done = IsDoneBelow-after (height r) seen places l right;
        nodes_are = ap (nodes_after seen) means ∙ nodes_after-old seen l r has;
        places_are = ap (places_after places) means ∙ places_after-node places l r;
      }

-- ---- a walk from the root

-- what was seen in the end is the layout
pub place_order-from_walk : (t : Tree ℕ) → places_after [] t ≡ place_order t
place_order-from_walk t = sym (filter-each_once nat_eq nat_equality is_place [] (leaves t))

-- the tree of a record has no list of nodes that is shorter
pub IsFewest-from_inner : (pairs : List Pair) (rec : Rec) (ids : List NodeId)
    → IsSound pairs → IsOf pairs rec → trees_of pairs ids ≡ inner nat_eq (meaning pairs rec)
    → IsFewest 128 (meaning pairs rec) (length ids)
IsFewest-from_inner pairs rec ids sound of nodes_are nodes lookups =
    let reduced : IsReduced (meaning pairs rec) =
    IsReduced-meaning pairs sound (length pairs) rec (omega arith) of in
    let least = Least-holds nat_eq nat_equality 128 (meaning pairs rec) (
      sound.low rec of,
      reduced,
    ) nodes lookups in
    omega
    (arith, least, ap length nodes_are, length-map ids (λ (id : NodeId). meaning pairs (Node id)))

-- and no more nodes than the store
pub few_from_inner : (pairs : List Pair) (t : Tree ℕ) (ids : List NodeId) → AreOf pairs ids
    → trees_of pairs ids ≡ inner nat_eq t → length ids ≤ length pairs
few_from_inner pairs t ids known nodes_are =
    let few = length-le_from_apart (tree_eq nat_eq) tree_equality (length pairs) StandsAt alone
    (inner nat_eq t) (IsDistinct-from_none (tree_eq nat_eq) tree_equality (preorder t)) where_is in
    omega
    (arith, few, ap length nodes_are, length-map ids (λ (id : NodeId). meaning pairs (Node id)))
  where
    StandsAt : Tree ℕ → ℕ → Type 0
    StandsAt s i = (id : NodeId) × (s ≡ meaning pairs (Node id)) × (id.0 ≡ i)

    alone : (s u : Tree ℕ) (i : ℕ) → StandsAt s i → StandsAt u i → s ≡ u
    alone s u i first second =
        let number = first.2 ∙ sym second.2 in
        let same : first.0 ≡ second.0 = λ i. record { 0 = number i } in
        first.1 ∙ ap (λ (id : NodeId). meaning pairs (Node id)) same ∙ sym second.1

    where_is : (s : Tree ℕ) → In s (inner nat_eq t) → (i : ℕ) × StandsAt s i × (i < length pairs)
    where_is s is =
        let found = In-from_map (λ (id : NodeId). meaning pairs (Node id)) s ids
        (subst (In s) (sym nodes_are) is) in
        let has : Contains ids found.0 =
        Contains-from_In id_impl.eq-value.it id_equality found.0 ids found.1 in
        let within : found.0.0 < length pairs =
        All-contains (λ (x : NodeId). IsOf pairs (Node x)) ids found.0 known has in
        (found.0.0, (found.0, found.2, refl), within)

-- what the answer of a walk from a record says, at the tree t that the record means
pub record IsLayoutOf (pairs : List Pair) (t : Tree ℕ) (ids : List NodeId)
    (places : List ℕ) : Type 0 where
  pub nodes : trees_of pairs ids ≡ inner nat_eq t
  pub of : AreOf pairs ids
  pub leaves : places ≡ place_order t
  pub least : IsFewest 128 t (length ids)
  pub few : length ids ≤ length pairs

pub IsLayoutOf-from_walk : (pairs : List Pair)
    (rec root : Rec) (before ids : List NodeId) (places-before places : List ℕ)
    → IsSound pairs → IsOf pairs rec → rec ≡ root → before ≡ [] → places-before ≡ []
    → AreOf pairs ids → trees_of pairs ids ≡ nodes_after (trees_of pairs before) (meaning pairs rec)
    → places ≡ places_after places-before (meaning pairs rec)
    → IsLayoutOf pairs (meaning pairs root) ids places
IsLayoutOf-from_walk pairs rec root before ids places-before places sound of is none no-places known
    walked places-walked =
    let t : Tree ℕ = meaning pairs rec in
    let nodes_are : trees_of pairs ids ≡ inner nat_eq t =
    walked ∙ ap (λ old. nodes_after (trees_of pairs old) t) none in
    let whole : IsLayoutOf pairs t ids places = record {
      nodes = nodes_are;
      of = known;
      leaves = places-walked ∙ ap (λ old. places_after old t) no-places ∙ place_order-from_walk t;
      least = IsFewest-from_inner pairs rec ids sound of nodes_are;
      few = few_from_inner pairs t ids known nodes_are;
    } in
    subst (λ (r : Rec). IsLayoutOf pairs (meaning pairs r) ids places) is whole
