-- Lemmas on the nodes that are taken along into a new store.
use Rattle.std.proofs.Common.{◌≡◌, ◌≢◌, ℕ, zero, suc, ◌+◌, ◌^◌, ◌<◌, ◌≤◌, inl, inr, nat_eq}
use Rattle.std.proofs.Common.{nat_lt, eqb, Bool, true, false, true≢false, if◌then◌else◌, not, List}
use Rattle.std.proofs.Common.{[], ◌∷◌, ◌++◌, map, length, get_or, slice_get, Some, None, Contains}
use Rattle.std.proofs.Common.{cond, refl, sym, ◌∙◌, ap, ap₂, subst, arith, rules, le_refl}
use Rattle.std.proofs.Common.{length-append}
use Rattle.std.specs.List.{IsDistinct, AllByRecursion, position, position_or_len, list_any}
use Rattle.std.proofs.lemmas.Bool.{ltb-true, cases_lt}
use Rattle.std.proofs.lemmas.List.{length-map, map-append}
use Rattle.std.proofs.lemmas.List.Sums.{passes_at_first}
use Rattle.std.proofs.lemmas.List.Elements.{All-append, All-cons, All-tail}
use Rattle.std.proofs.lemmas.Map.Keys.{any_passes_from_place}
use Rattle.std.proofs.lemmas.Map.Steps.{length-le_from_distinct_below}
use Rattle.std.proofs.lemmas.Option.{slice_get_within, slice_get-get_or}
use Rattle.indexmap.specs.IndexSet.{insert_key}
use Rattle.trie_core.specs.contracts.node.NodeIdPartialEq.TheImpl as id_impl
use Rattle.trie_core.specs.declared.node.NodeId.{NodeId}
use Rattle.trie_core.specs.declared.node.Rec.{Rec}
use Rattle.trie_core.specs.declared.node.Rec.TheVariants.{Leaf, Node}
use Rattle.trie_core.specs.declared.node.Root.{Root}
use Rattle.trie_core.specs.declared.node.Pair.{Pair}
use Rattle.trie_core.specs.Tree.{Tree, node, height, IsReduced, IsPartOf, join}
use Rattle.trie_core.specs.Store.{meaning, tree_of, IsBelow, IsOf, IsRootOf, IsSound, IsKept}
use Rattle.trie_core.specs.Store.{IsAdded, AddedUnder}
use Rattle.trie_core.specs.Graft.{HoldsTree}
use Rattle.trie_core.specs.Compact.{AreRootsOf, trees_of_roots, StandsIn, HoldsExactly, AreTaken}
use Rattle.trie_core.specs.Compact.{AreRootsTaken, IsNumbered}
use Rattle.trie_core.proofs.TreeLemmas.{join-node, nat_equality}
use Rattle.trie_core.proofs.StoreLemmas.{meaning-leaf, meaning_node, pair_at, IsBelow-le}
use Rattle.trie_core.proofs.StoreLemmas.{IsReduced-meaning, same_from_meaning}
use Rattle.trie_core.proofs.StoreLemmas.{slice_get-push, slice_get_last, slice_get-Contains}
use Rattle.trie_core.proofs.StoreLemmas.{Contains-slice_get, IsSound-nil, IsMade, IsMade-from_added}
use Rattle.trie_core.proofs.StoreLemmas.{AddedUnder-same, IsKept-same}

-- a leaf means the same in every store
pub same-leaf : (ps qs : List Pair) (rec : Rec)
    → ((id : NodeId) → rec ≡ Node id → ⊥) → meaning ps rec ≡ meaning qs rec
same-leaf ps qs (Leaf k) other = meaning-leaf ps k ∙ sym (meaning-leaf qs k)
same-leaf ps qs (Node id) other = absurd (other id refl)

-- ---- a set of nodes

pub same_id : (a b : NodeId) → id_impl.eq-value.it a b ≡ true → a ≡ b
same_id a b is =
    let h : nat_eq a.0 b.0 ≡ true = is in
    let number : a.0 ≡ b.0 = search rules in
    λ i. record { 0 = number i }

-- an insert into the set adds the node where it is new
pub IsNumbered-new : (nodes nodes' : List NodeId) (pairs pairs' : List Pair) (id : NodeId)
    (pair : Pair) (is_new : Bool) (k : ℕ) → is_new ≡ true
    → is_new ≡ not (list_any (id_impl.eq-value.it id) nodes)
    → nodes' ≡ insert_key id_impl.eq-value.it nodes id → slice_get nodes' k ≡ Some id
    → IsAdded pairs pairs' pair
    → IsNumbered nodes nodes' pairs pairs' id pair k
IsNumbered-new nodes nodes' pairs pairs' id pair is_new k is added keys at grown =
    let none : list_any (id_impl.eq-value.it id) nodes ≡ false =
    not-true (list_any (id_impl.eq-value.it id) nodes) (sym added ∙ is) in
    let nodes-are : nodes' ≡ nodes ++ id ∷ [] =
    keys ∙ ap (λ (b : Bool). if b then nodes else nodes ++ id ∷ []) none in
    let new : Contains nodes id → ⊥ =
    λ has. true≢false (sym (search_finds_id nodes id has) ∙ none) in
    let number : k ≡ length nodes =
    last_number nodes id k new (subst (λ ns. slice_get ns k ≡ Some id) nodes-are at) in
    inr (
      new,
      number,
      nodes-are,
      grown,
    )
  where
    not-true : (b : Bool) → not b ≡ true → b ≡ false
    not-true true is = absurd (cc)
    not-true false is = refl

    id_itself : (a : NodeId) → id_impl.eq-value.it a a ≡ true
    id_itself a = let h : nat_eq a.0 a.0 ≡ true = search rules in h

    search_finds_id : (nodes : List NodeId) (id : NodeId) → Contains nodes id
        → list_any (id_impl.eq-value.it id) nodes ≡ true
    search_finds_id nodes id has =
        let at = slice_get-Contains nodes id has in
        any_passes_from_place (id_impl.eq-value.it id) nodes at.0 id at.1 (id_itself id)

    last_number : (nodes : List NodeId) (id : NodeId) (k : ℕ)
        → (Contains nodes id → ⊥) → slice_get (nodes ++ id ∷ []) k ≡ Some id → k ≡ length nodes
    last_number nodes id k new at =
        elim (slice_get-push nodes id k id at) [
          | inl before ↦ absurd (new (Contains-slice_get nodes k id before))
          | inr last ↦ last.0
        ]

-- and leaves it where it was
pub IsNumbered-old : (nodes nodes' : List NodeId) (pairs : List Pair) (id : NodeId) (pair : Pair)
    (is_new : Bool) (k : ℕ) → is_new ≡ false
    → is_new ≡ not (list_any (id_impl.eq-value.it id) nodes)
    → nodes' ≡ insert_key id_impl.eq-value.it nodes id → slice_get nodes' k ≡ Some id
    → IsNumbered nodes nodes' pairs pairs id pair k
IsNumbered-old nodes nodes' pairs id pair is_new k is added keys at =
    let found : list_any (id_impl.eq-value.it id) nodes ≡ true =
    not-false (list_any (id_impl.eq-value.it id) nodes) (sym added ∙ is) in
    let nodes-are : nodes' ≡ nodes =
    keys ∙ ap (λ (b : Bool). if b then nodes else nodes ++ id ∷ []) found in
    inl (subst (λ ns. slice_get ns k ≡ Some id) nodes-are at, nodes-are, refl)
  where
    not-false : (b : Bool) → not b ≡ false → b ≡ true
    not-false true is = refl
    not-false false is = absurd (cc)

-- where a position is found, the element passes
pub found_at : {X : Type 0} (test : X → Bool) (xs : List X) (i : ℕ) (d : X)
    → position test xs ≡ Some i
    → (i < length xs) × (test (get_or xs i d) ≡ true)
found_at test xs i d is = by (nat_lt (position_or_len test xs) (length xs)) refl
  where
    by : (less : Bool) → nat_lt (position_or_len test xs) (length xs) ≡ less
        → (i < length xs) × (test (get_or xs i d) ≡ true)
    by true less =
        let at : position_or_len test xs ≡ i =
        cc (ap (λ (b : Bool). cond b (Some (position_or_len test xs)) None) (sym less) ∙ is) in
        let within : position_or_len test xs < length xs = ltb-true _ _ less in (
          subst (λ k. k < length xs) at within,
          subst (λ k. test (get_or xs k d) ≡ true) at (passes_at_first test xs d within),
        )
    by false less =
        absurd
        (cc (ap (λ (b : Bool). cond b (Some (position_or_len test xs)) None) (sym less) ∙ is))

-- the position of a node in a list is its number there
pub number_from_position : (nodes : List NodeId) (id : NodeId) (k : ℕ)
    → position (id_impl.eq-value.it id) nodes ≡ Some k → slice_get nodes k ≡ Some id
number_from_position nodes id k is =
    let found = found_at (id_impl.eq-value.it id) nodes k id is in
    slice_get-get_or nodes k id found.0 ∙ ap Some (sym (same_id id (get_or nodes k id) found.1))

-- ---- as many nodes as the old store has

-- numbers with none twice are distinct to a set
IsDistinct-from_once : (nodes : List NodeId)
    → ((i j : ℕ) (id : NodeId) → slice_get nodes i ≡ Some id → slice_get nodes j ≡ Some id → i ≡ j)
    → IsDistinct eqb (map (λ (x : NodeId). x.0) nodes)
unfolding IsDistinct
IsDistinct-from_once [] once = tt
IsDistinct-from_once (x ∷ nodes) once = (
  others nodes (λ k at. let e : 0 ≡ suc k = once 0 (suc k) x refl at in absurd (omega arith)),
  IsDistinct-from_once nodes (λ i j id at-i at-j. let e : suc i ≡ suc j =
      once (suc i) (suc j) id at-i at-j in omega arith),
)
  where
    others : (rest : List NodeId) → ((k : ℕ) → slice_get rest k ≡ Some x → ⊥)
        → AllByRecursion (λ y. eqb x.0 y ≡ false) (map (λ (z : NodeId). z.0) rest)
    others [] none = tt
    others (y ∷ rest) none = (differs (eqb x.0 y.0) refl, others rest (λ k at. none (suc k) at))
      where
        differs : (b : Bool) → eqb x.0 y.0 ≡ b → eqb x.0 y.0 ≡ false
        differs true is =
            let number : y.0 ≡ x.0 = search rules in
            let same : y ≡ x = λ i. record { 0 = number i } in
            absurd (none 0 (ap Some same))
        differs false is = is

numbers_below : (n : ℕ) (nodes : List NodeId)
    → ((k : ℕ) (id : NodeId) → slice_get nodes k ≡ Some id → id.0 < n) → (q : ℕ)
    → list_any (eqb q) (map (λ (x : NodeId). x.0) nodes) ≡ true → q < n
numbers_below n [] below q found = absurd (cc)
numbers_below n (x ∷ nodes) below q found =
    by (eqb q x.0) refl (numbers_below n nodes (λ k id at. below (suc k) id at) q)
  where
    by : (b : Bool) → eqb q x.0 ≡ b
        → (list_any (eqb q) (map (λ (y : NodeId). y.0) nodes) ≡ true → q < n) → q < n
    by true is rest = let e : q ≡ x.0 = search rules in omega (arith, below 0 x refl)
    by false is rest = rest (rw is at found)

-- so different nodes of a store are at most as many as it has
pub length-le_from_once : (old : List Pair) (nodes : List NodeId)
    → ((k : ℕ) (id : NodeId) → slice_get nodes k ≡ Some id → IsOf old (Node id))
    → ((i j : ℕ) (id : NodeId) → slice_get nodes i ≡ Some id → slice_get nodes j ≡ Some id → i ≡ j)
    → length nodes ≤ length old
length-le_from_once old nodes of once =
    omega (
      arith,
      length-le_from_distinct_below (map (λ (x : NodeId). x.0) nodes) (length old)
          (IsDistinct-from_once nodes once) (numbers_below (length old) nodes of),
      length-map nodes (λ (x : NodeId). x.0),
    )

-- ---- what was taken along

pub AreTaken-nil : (old : List Pair) → AreTaken old [] []
AreTaken-nil old = record {
  sound = IsSound-nil;
  long = refl;
  of = λ k id at. absurd (cc);
  once = λ i j id at _. absurd (cc);
  same = λ k id at. absurd (cc);
}

-- what a node that has the number k in the new store is there
pub record IsTakenAs (old : List Pair) (nodes nodes' : List NodeId) (pairs pairs' : List Pair)
    (id : NodeId) (k : ℕ) : Type 0 where
  pub taken : AreTaken old nodes' pairs'
  pub of : IsOf pairs' (Node (record { 0 = k }))
  pub means : meaning pairs' (Node (record { 0 = k })) ≡ meaning old (Node id)
  pub kept : IsKept pairs pairs'
  pub under : AddedUnder pairs pairs' (Node (record { 0 = k }))

-- a node that was taken before
pub IsTakenAs-before : (old : List Pair) (nodes : List NodeId) (pairs : List Pair)
    (id : NodeId) (k : ℕ) → AreTaken old nodes pairs → slice_get nodes k ≡ Some id
    → IsTakenAs old nodes nodes pairs pairs id k
IsTakenAs-before old nodes pairs id k taken at = record {
  taken = taken;
  of = omega (arith, taken.long, slice_get_within nodes k id at);
  means = taken.same (record { 0 = k }) id at;
  kept = IsKept-same pairs;
  under = AddedUnder-same pairs (Node (record { 0 = k }));
}

module _ (old : List Pair) (old-sound : IsSound old) (nodes : List NodeId) (pairs : List Pair)
    (taken : AreTaken old nodes pairs)
    (id : NodeId) (id-of : IsOf old (Node id)) (left right : Rec) (left-of : IsOf pairs left)
    (right-of : IsOf pairs right)
    (means : meaning old (Node id) ≡ node (meaning pairs left) (meaning pairs right)) where
  reduced : IsReduced (node (meaning pairs left) (meaning pairs right))
  reduced =
      subst IsReduced means
      (IsReduced-meaning old old-sound (length old) (Node id) (le_refl _) id-of)

  -- the node is the join of its children
  pub join-taken : join nat_eq (meaning pairs left) (meaning pairs right) ≡ meaning old (Node id)
  join-taken =
      join-node nat_eq nat_equality (meaning pairs left) (meaning pairs right) reduced.0 ∙ sym means

  -- the pair of a node that was not taken is not in the new store
  pair_new : (Contains nodes id → ⊥) → Contains pairs (record { left = left; right = right }) → ⊥
  pair_new new has =
      let at = slice_get-Contains pairs (record { left = left; right = right }) has in
      let here : meaning pairs (Node (record { 0 = at.0 }))
      ≡ node (meaning pairs left) (meaning pairs right) =
      meaning_node pairs taken.sound.earlier (record { 0 = at.0 })
      (record { left = left; right = right }) at.1 in
      let within : at.0 < length nodes = omega (
        arith,
        taken.long,
        slice_get_within pairs at.0 (record { left = left; right = right }) at.1,
      ) in
      let other : NodeId = get_or nodes at.0 id in
      let other-at : slice_get nodes at.0 ≡ Some (get_or nodes at.0 id) =
      slice_get-get_or nodes at.0 id within in
      let trees : meaning old (Node id) ≡ meaning old (Node (get_or nodes at.0 id)) =
      means ∙ sym here ∙ taken.same (record { 0 = at.0 }) (get_or nodes at.0 id) other-at in
      let one : Node id ≡ Node (get_or nodes at.0 id) =
      same_from_meaning old old-sound (length old) (Node id) (Node (get_or nodes at.0 id))
      (le_refl _) id-of (taken.of at.0 (get_or nodes at.0 id) other-at) trees in
      let same : id ≡ get_or nodes at.0 id = cc in
      new (subst (Contains nodes) (sym same)
      (Contains-slice_get nodes at.0 (get_or nodes at.0 id) other-at))

  module _ (new : Contains nodes id → ⊥) where
    of-push : (k : ℕ) (x : NodeId) → slice_get (nodes ++ id ∷ []) k ≡ Some x → IsOf old (Node x)
    of-push k x at =
        elim (slice_get-push nodes id k x at) [
          | inl before ↦ taken.of k x before
          | inr last ↦ subst (λ (y : NodeId). IsOf old (Node y)) (sym last.1) id-of
        ]

    once-push : (i j : ℕ) (x : NodeId) → slice_get (nodes ++ id ∷ []) i ≡ Some x
        → slice_get (nodes ++ id ∷ []) j ≡ Some x → i ≡ j
    once-push i j x at-i at-j =
        elim (slice_get-push nodes id i x at-i) [
          | inl before-i ↦ elim (slice_get-push nodes id j x at-j) [
            | inl before-j ↦ taken.once i j x before-i before-j
            | inr last-j ↦ absurd
                (new (subst (Contains nodes) last-j.1 (Contains-slice_get nodes i x before-i)))
          ]
          | inr last-i ↦ elim (slice_get-push nodes id j x at-j) [
            | inl before-j ↦ absurd
                (new (subst (Contains nodes) last-i.1 (Contains-slice_get nodes j x before-j)))
            | inr last-j ↦ last-i.0 ∙ sym last-j.0
          ]
        ]

    -- what the new store is with the node's pair
    made : (pairs' : List Pair) → IsAdded pairs pairs' (record { left = left; right = right })
        → (pairs' ≡ pairs ++ record { left = left; right = right } ∷ [])
        × IsMade pairs pairs' left right (length nodes)
    made pairs' added =
        let is : pairs' ≡ pairs ++ record { left = left; right = right } ∷ [] = elim added [
          | inl there ↦ absurd (pair_new new there.0)
          | inr grown ↦ grown.1
        ] in
        let last : slice_get pairs' (length nodes) ≡ Some (record { left = left; right = right }) =
        ap (slice_get pairs') (sym taken.long) ∙ ap (λ ps. slice_get ps (length pairs)) is
        ∙ slice_get_last pairs (record { left = left; right = right }) in
        let few : length pairs' < 2 ^ 32 =
        omega (
          arith,
          ap length is,
          length-append pairs (record { left = left; right = right } ∷ []),
          taken.long,
          length-le_from_once old (nodes ++ id ∷ []) of-push once-push,
          length-append nodes (id ∷ []),
          old-sound.few,
        ) in
        let high : height (meaning old (Node id)) ≤ 128 = old-sound.low (Node id) id-of in
        let tall = ap height means in
        let unlike : (a : ℕ) → left ≡ Leaf a → right ≢ Leaf a =
        λ a l r. reduced.0 a (ap (meaning pairs) l ∙ meaning-leaf pairs a)
        (ap (meaning pairs) r ∙ meaning-leaf pairs a) in (
          is,
          IsMade-from_added pairs pairs' left right (length nodes) taken.sound added last few
              left-of right-of (omega arith) (omega arith) unlike,
        )

    taken-push : (pairs' : List Pair) → IsAdded pairs pairs' (record { left = left; right = right })
        → AreTaken old (nodes ++ id ∷ []) pairs'
    taken-push pairs' added =
        let m = made pairs' added in record {
          sound = m.1.sound;
          long =
              ap length m.0 ∙ length-append pairs (record { left = left; right = right } ∷ [])
              ∙ ap (λ n. n + 1) taken.long ∙ sym (length-append nodes (id ∷ []));
          of = of-push;
          once = once-push;
          same = λ k x at. elim (slice_get-push nodes id k.0 x at) [
            | inl before ↦
                let of-k : IsOf pairs (Node k) =
                omega (arith, taken.long, slice_get_within nodes k.0 x before) in
                (m.1.kept (Node k) of-k).1 ∙ taken.same k x before
            | inr last ↦
                let here : k ≡ record { 0 = length nodes } = λ i. record { 0 = last.0 i } in
                ap (λ (y : NodeId). meaning pairs' (Node y)) here ∙ m.1.means ∙ sym means
                ∙ sym (ap (λ (y : NodeId). meaning old (Node y)) last.1)
          ];
        }

  -- a node is taken along with its pair
  pub IsTakenAs-from_number : (nodes' : List NodeId) (pairs' : List Pair) (k : ℕ)
      → IsNumbered nodes nodes' pairs pairs' id (record { left = left; right = right }) k
      → IsTakenAs old nodes nodes' pairs pairs' id k
  IsTakenAs-from_number nodes' pairs' k numbered =
      elim numbered [
        | inl before ↦
            subst (λ ns. IsTakenAs old nodes ns pairs pairs' id k) (sym before.1)
            (subst (λ ps. IsTakenAs old nodes nodes pairs ps id k) (sym before.2)
            (IsTakenAs-before old nodes pairs id k taken before.0))
        | inr grown ↦
            let m = made grown.0 pairs' grown.3 in
            subst (λ ns. IsTakenAs old nodes ns pairs pairs' id k) (sym grown.2)
            (subst (λ n. IsTakenAs old nodes (nodes ++ id ∷ []) pairs pairs' id n) (sym grown.1)
            (record {
              taken = taken-push grown.0 pairs' grown.3;
              of = m.1.of;
              means = m.1.means ∙ sym means;
              kept = m.1.kept;
              under = m.1.under;
            }))
      ]

-- ---- roots

StandsIn-left : (ts us : List (Tree ℕ)) (t : Tree ℕ) → StandsIn ts t → StandsIn (ts ++ us) t
StandsIn-left [] us t stands = absurd stands
StandsIn-left (x ∷ ts) us t (inl here) = inl here
StandsIn-left (x ∷ ts) us t (inr there) = inr (StandsIn-left ts us t there)

StandsIn-last : (ts : List (Tree ℕ)) (u t : Tree ℕ) → IsPartOf t u → StandsIn (ts ++ u ∷ []) t
StandsIn-last [] u t part = inl part
StandsIn-last (x ∷ ts) u t part = inr (StandsIn-last ts u t part)

-- roots mean what they meant as the store grows
trees_of_roots-kept : (pairs pairs' : List Pair)
    → IsKept pairs pairs' → (roots : List Root) → AreRootsOf pairs roots
    → AreRootsOf pairs' roots × (trees_of_roots pairs' roots ≡ trees_of_roots pairs roots)
trees_of_roots-kept pairs pairs' kept [] all = (λ k d inside. absurd (omega arith), refl)
trees_of_roots-kept pairs pairs' kept (r ∷ roots) all =
    let own : IsRootOf pairs r = all 0 r (omega arith) in
    let here = kept r.0 own in
    let rest =
    trees_of_roots-kept pairs pairs' kept roots (All-tail (IsRootOf pairs) r roots all) in
    (All-cons (IsRootOf pairs') r roots here.0 rest.0, ap₂ (λ t ts. t ∷ ts) here.1 rest.1)

pub AreRootsTaken-nil : (old : List Pair) → AreRootsTaken old [] [] [] []
AreRootsTaken-nil old = record {
  taken = AreTaken-nil old;
  of = λ k d inside. absurd (omega arith);
  meaning_is = refl;
  under = λ id of. absurd (omega arith);
}

-- one more root
pub AreRootsTaken-push : (old : List Pair) (nodes nodes' : List NodeId) (pairs pairs' : List Pair)
    (roots made : List Root) (root : Root) (rec : Rec)
    → AreRootsTaken old nodes pairs roots made → AreTaken old nodes' pairs' → IsKept pairs pairs'
    → AddedUnder pairs pairs' rec → IsOf pairs' rec → meaning pairs' rec ≡ tree_of old root
    → AreRootsTaken old nodes' pairs' (roots ++ root ∷ []) (made ++ record { 0 = rec } ∷ [])
AreRootsTaken-push old nodes nodes' pairs pairs' roots made root rec done taken kept
    under of means =
    let before = trees_of_roots-kept pairs pairs' kept made done.of in
    let trees : trees_of_roots old (roots ++ root ∷ [])
    ≡ trees_of_roots old roots ++ tree_of old root ∷ [] =
    map-append (tree_of old) roots (root ∷ []) in
    record {
      taken = taken;
      of =
          All-append (IsRootOf pairs') made (record { 0 = rec } ∷ []) before.0 (All-cons
          (IsRootOf pairs') (record { 0 = rec }) [] of (λ k d inside. absurd (omega arith)));
      meaning_is =
          map-append (tree_of pairs') made (record { 0 = rec } ∷ [])
          ∙ ap₂ (λ ts t. ts ++ t ∷ []) (before.1 ∙ done.meaning_is) means ∙ sym trees;
      under =
          λ id id-of. subst (λ ts. StandsIn ts (meaning pairs' (Node id))) (sym trees)
          (elim (cases_lt id.0 (length pairs)) [
            | inl less ↦
                let was = done.under id less in
                StandsIn-left (trees_of_roots old roots)
                (tree_of old root ∷ []) (meaning pairs' (Node id))
                (subst (StandsIn (trees_of_roots old roots)) (sym (kept (Node id) less).1) was)
            | inr more ↦ StandsIn-last (trees_of_roots old roots) (tree_of old root) (meaning pairs'
                (Node id)) (subst (IsPartOf (meaning pairs' (Node id))) means (under id more id-of))
          ]);
    }

-- ---- exactly the nodes under the roots

module _ (pairs : List Pair) (sound : IsSound pairs) where
  -- what stands in the tree of a record is held
  HoldsTree-part : (n : ℕ) (rec : Rec) (t : Tree ℕ) → n ≤ length pairs → IsBelow n rec
      → IsPartOf t (meaning pairs rec) → HoldsTree pairs t
  HoldsTree-part n (Leaf k) t le below part =
      (Leaf k, tt, meaning-leaf pairs k ∙ sym (subst (IsPartOf t) (meaning-leaf pairs k) part))
  HoldsTree-part zero (Node id) t le below part = absurd (omega arith)
  HoldsTree-part (suc n) (Node id) t le below part =
      let of : IsOf pairs (Node id) = omega arith in
      let p = pair_at pairs sound.earlier id of in
      let lower = sound.earlier id.0 p.0 p.1 in
      let own = meaning_node pairs sound.earlier id p.0 p.1 in
      let here : IsPartOf t (node (meaning pairs p.0.left) (meaning pairs p.0.right)) =
      subst (IsPartOf t) own part in
      elim here [
        | inl same ↦ (Node id, of, own ∙ sym same)
        | inr inside ↦ elim inside [
          | inl left ↦ HoldsTree-part n p.0.left t (omega arith)
              (IsBelow-le id.0 n p.0.left (omega arith) lower.0) left
          | inr right ↦ HoldsTree-part n p.0.right t (omega arith)
              (IsBelow-le id.0 n p.0.right (omega arith) lower.1) right
        ]
      ]

  HoldsTree-under_roots : (roots : List Root) (t : Tree ℕ) → AreRootsOf pairs roots
      → StandsIn (trees_of_roots pairs roots) t → HoldsTree pairs t
  HoldsTree-under_roots [] t all stands = absurd stands
  HoldsTree-under_roots (r ∷ roots) t all (inl here) =
      HoldsTree-part (length pairs) r.0 t (le_refl _) (all 0 r (omega arith)) here
  HoldsTree-under_roots (r ∷ roots) t all (inr there) =
      HoldsTree-under_roots roots t (All-tail (IsRootOf pairs) r roots all) there

pub HoldsExactly-from_taken : (old : List Pair) (nodes : List NodeId)
    (new : List Pair) (roots made : List Root) → AreRootsTaken old nodes new roots made
    → HoldsExactly new (trees_of_roots old roots)
HoldsExactly-from_taken old nodes new roots made done = record {
  no_other = done.under;
  each =
      λ l r stands. HoldsTree-under_roots new done.taken.sound made (node l r) done.of
      (subst (λ ts. StandsIn ts (node l r)) (sym done.meaning_is) stands);
}

pub length-le_from_taken : (old : List Pair) (nodes : List NodeId) (new : List Pair)
    → AreTaken old nodes new → length new ≤ length old
length-le_from_taken old nodes new taken =
    omega (arith, taken.long, length-le_from_once old nodes taken.of taken.once)

-- fewer than there are numbers of nodes
pub few_taken : (old : List Pair) (nodes : List NodeId) (new : List Pair) → IsSound old
    → AreTaken old nodes new → length nodes < 2 ^ 32
few_taken old nodes new sound taken =
    omega (arith, sound.few, length-le_from_once old nodes taken.of taken.once)
