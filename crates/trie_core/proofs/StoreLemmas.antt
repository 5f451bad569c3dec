-- Lemmas on what the records of a store mean: kept as the store grows, a node's children, reduced,
-- and one record for each tree.
use Rattle.std.proofs.Common.{◌≡◌, ◌≢◌, ℕ, zero, suc, ◌+◌, ◌-◌, ◌/◌, ◌^◌, ◌<◌, nat_eq, ◌==◌}
use Rattle.std.proofs.Common.{bit_and, ◌≤◌, ◌⊎◌, inl, inr, List, [], ◌∷◌, ◌++◌, length, get_or}
use Rattle.std.proofs.Common.{slice_get, Contains, Some, refl, sym, ◌∙◌, ap, ap₂, subst, arith}
use Rattle.std.proofs.Common.{append_assoc, append-nil, length-append}
use Rattle.std.proofs.lemmas.Bool.{cases_lt}
use Rattle.std.proofs.lemmas.List.{get_or_append_left, get_or_at}
use Rattle.std.proofs.lemmas.Option.{slice_get_within, get_or_from_slice_get, slice_get-get_or}
use Rattle.std.specs.Int.{bit_at}
use Rattle.std.proofs.lemmas.Nat.Bits.{bit_at-lt, shr_and_one}
use Rattle.geo_addr.specs.Bits.{bits_of}
use Rattle.trie_core.specs.declared.node.NodeId.{NodeId}
use Rattle.trie_core.specs.declared.node.Rec.{Rec}
use Rattle.trie_core.specs.declared.node.Rec.TheVariants.{Leaf, Node}
use Rattle.trie_core.specs.declared.node.Pair.{Pair}
use Rattle.trie_core.specs.Tree.{Tree, leaf, node, height, look, IsReduced, join, IsPartOf}
use Rattle.trie_core.specs.Laws.{SameLookups}
use Rattle.trie_core.specs.Store.{tree_at, trees_from, meaning, IsBelow, IsOf, IsSound, GrowsBy}
use Rattle.trie_core.specs.Store.{IsKept, IsAdded, AddedUnder}
use Rattle.trie_core.proofs.TreeLemmas.{same_from_lookups, join-leaf, join-node, nat_equality}

-- ---- elements of lists

-- an element stays where it is as a list grows
pub slice_get-append : {X : Type 0} (xs ys : List X) (k : ℕ) (x : X) → slice_get xs k ≡ Some x
    → slice_get (xs ++ ys) k ≡ Some x
slice_get-append [] ys k x at = absurd (cc)
slice_get-append (y ∷ xs) ys zero x at = at
slice_get-append (y ∷ xs) ys (suc k) x at = slice_get-append xs ys k x at

-- an element of a list that grew by one is an old one, or the new one at the end
pub slice_get-push : {X : Type 0} (xs : List X) (y : X) (k : ℕ) (x : X)
    → slice_get (xs ++ y ∷ []) k ≡ Some x → (slice_get xs k ≡ Some x) ⊎ ((k ≡ length xs) × (x ≡ y))
slice_get-push [] y zero x at = inr (refl, cc)
slice_get-push [] y (suc k) x at = absurd (cc)
slice_get-push (z ∷ xs) y zero x at = inl at
slice_get-push (z ∷ xs) y (suc k) x at =
    elim (slice_get-push xs y k x at) [ inl old ↦ inl old | inr new ↦ inr (ap suc new.0, new.1) ]

-- the element at the end
pub slice_get_last : {X : Type 0} (xs : List X) (y : X)
    → slice_get (xs ++ y ∷ []) (length xs) ≡ Some y
slice_get_last [] y = refl
slice_get_last (x ∷ xs) y = slice_get_last xs y

-- an element is in the list
pub Contains-slice_get : {X : Type 0} (xs : List X) (k : ℕ) (x : X) → slice_get xs k ≡ Some x
    → Contains xs x
Contains-slice_get xs k x at = (k, slice_get_within xs k x at, get_or_from_slice_get xs k x x at)

-- and what is in the list is an element
pub slice_get-Contains : {X : Type 0} (xs : List X) (x : X) → Contains xs x
    → (k : ℕ) × (slice_get xs k ≡ Some x)
slice_get-Contains xs x has = (has.0, slice_get-get_or xs has.0 x has.1 ∙ ap Some has.2)

-- a list parts before an element
pub split_at_element : {X : Type 0} (xs : List X) (k : ℕ) (x : X) → slice_get xs k ≡ Some x
    → (before : List X) × (after : List X) × (xs ≡ (before ++ x ∷ []) ++ after)
    × (length before ≡ k)
split_at_element [] k x at = absurd (cc)
split_at_element (y ∷ xs) zero x at = ([], xs, ap (λ z. z ∷ xs) (cc), refl)
split_at_element (y ∷ xs) (suc k) x at =
    let rest = split_at_element xs k x at in
    (y ∷ rest.0, rest.1, ap (λ l. y ∷ l) rest.2, ap suc rest.3)

-- ---- the trees of a store

pub trees_from-append : (trees : List (Tree ℕ)) (ps qs : List Pair)
    → trees_from trees (ps ++ qs) ≡ trees_from (trees_from trees ps) qs
unfolding trees_from
trees_from-append trees [] qs = refl
trees_from-append trees (p ∷ ps) qs =
    trees_from-append (trees ++ node (tree_at trees p.left) (tree_at trees p.right) ∷ []) ps qs

-- the trees that were there stay in front
pub trees_from-front : (trees : List (Tree ℕ)) (ps : List Pair)
    → (more : List (Tree ℕ)) × (trees_from trees ps ≡ trees ++ more) × (length more ≡ length ps)
unfolding trees_from
trees_from-front trees [] = ([], sym (append-nil trees), refl)
trees_from-front trees (p ∷ ps) =
    let this : Tree ℕ = node (tree_at trees p.left) (tree_at trees p.right) in
    let rest = trees_from-front (trees ++ this ∷ []) ps in
    (this ∷ rest.0, rest.1 ∙ append_assoc trees (this ∷ []) rest.0, ap suc rest.2)

pub length-trees_from : (ps : List Pair) → length (trees_from [] ps) ≡ length ps
length-trees_from ps = let front = trees_from-front [] ps in ap length front.1 ∙ front.2

-- a leaf means itself
pub meaning-leaf : (pairs : List Pair) (k : ℕ) → meaning pairs (Leaf k) ≡ leaf k
unfolding meaning
meaning-leaf pairs k = refl

-- a record means what it meant as the store grows
pub meaning-append : (ps qs : List Pair) (rec : Rec) → IsOf ps rec
    → meaning (ps ++ qs) rec ≡ meaning ps rec
unfolding meaning
meaning-append ps qs (Leaf k) of = refl
meaning-append ps qs (Node id) of =
    let front = trees_from-front (trees_from [] ps) qs in
    let within : id.0 < length (trees_from [] ps) = omega (arith, length-trees_from ps) in
    ap (λ ts. get_or ts id.0 (leaf 0)) (trees_from-append [] ps qs ∙ front.1)
    ∙ get_or_append_left (trees_from [] ps) front.0 (leaf 0) id.0 within

-- the newest node means the node of its children
pub meaning_last : (ps : List Pair) (p : Pair) (id : NodeId) → id.0 ≡ length ps
    → meaning (ps ++ p ∷ []) (Node id) ≡ node (meaning ps p.left) (meaning ps p.right)
unfolding meaning trees_from
meaning_last ps p id last =
    let trees : List (Tree ℕ) = trees_from [] ps in
    let this : Tree ℕ = node (tree_at trees p.left) (tree_at trees p.right) in
    ap (λ ts. get_or ts id.0 (leaf 0)) (trees_from-append [] ps (p ∷ []))
    ∙ get_or_at trees this [] (leaf 0) id.0 (length-trees_from ps ∙ sym last)

-- a record of fewer nodes is one of more
pub IsBelow-le : (m n : ℕ) (rec : Rec) → m ≤ n → IsBelow m rec → IsBelow n rec
IsBelow-le m n (Leaf k) le below = tt
IsBelow-le m n (Node id) le below = omega arith

pub IsOf-append : (ps qs : List Pair) (rec : Rec) → IsOf ps rec → IsOf (ps ++ qs) rec
IsOf-append ps qs rec of =
    IsBelow-le (length ps) (length (ps ++ qs)) rec (omega (arith, length-append ps qs)) of

module _ (pairs : List Pair) (earlier : (k : ℕ) (p : Pair) → slice_get pairs k ≡ Some p
    → IsBelow k p.left × IsBelow k p.right) where
  -- the children of a node are of the store
  pub children_of : (k : ℕ) (p : Pair) → slice_get pairs k ≡ Some p
      → IsOf pairs p.left × IsOf pairs p.right
  children_of k p at =
      let less : k ≤ length pairs = omega (arith, slice_get_within pairs k p at) in
      let below = earlier k p at in (
        IsBelow-le k (length pairs) p.left less below.0,
        IsBelow-le k (length pairs) p.right less below.1,
      )

  -- a node means the node of its children
  pub meaning_node : (id : NodeId) (p : Pair) → slice_get pairs id.0 ≡ Some p
      → meaning pairs (Node id) ≡ node (meaning pairs p.left) (meaning pairs p.right)
  meaning_node id p at =
      let parts = split_at_element pairs id.0 p at in
      let before = parts.0 in
      let below = earlier id.0 p at in
      let left-of : IsOf before p.left = subst (λ n. IsBelow n p.left) (sym parts.3) below.0 in
      let right-of : IsOf before p.right = subst (λ n. IsBelow n p.right) (sym parts.3) below.1 in
      let whole : pairs ≡ before ++ ((p ∷ []) ++ parts.1) =
      parts.2 ∙ append_assoc before (p ∷ []) parts.1 in
      let within : IsOf (before ++ p ∷ []) (Node id) =
      omega (arith, length-append before (p ∷ []), parts.3) in
      let here : meaning pairs (Node id) ≡ node (meaning before p.left) (meaning before p.right) =
      ap (λ ps. meaning ps (Node id)) parts.2
      ∙ meaning-append (before ++ p ∷ []) parts.1 (Node id) within
      ∙ meaning_last before p id (sym parts.3) in
      let left : meaning pairs p.left ≡ meaning before p.left =
      ap (λ ps. meaning ps p.left) whole
      ∙ meaning-append before ((p ∷ []) ++ parts.1) p.left left-of in
      let right : meaning pairs p.right ≡ meaning before p.right =
      ap (λ ps. meaning ps p.right) whole
      ∙ meaning-append before ((p ∷ []) ++ parts.1) p.right right-of in
      here ∙ ap₂ node (sym left) (sym right)

  -- each node has a pair
  pub pair_at : (id : NodeId) → IsOf pairs (Node id) → (p : Pair) × (slice_get pairs id.0 ≡ Some p)
  pair_at id of =
      let none : Pair = record { left = Leaf 0; right = Leaf 0 } in
      (get_or pairs id.0 none, slice_get-get_or pairs id.0 none of)

-- ---- one record for each tree

-- a record that means a leaf is that leaf
pub leaf_from_meaning : (pairs : List Pair) → IsSound pairs → (rec : Rec) (a : ℕ) → IsOf pairs rec
    → meaning pairs rec ≡ leaf a → rec ≡ Leaf a
leaf_from_meaning pairs sound (Leaf k) a of same =
    let own = meaning-leaf pairs k in
    cc
leaf_from_meaning pairs sound (Node id) a of same =
    let p = pair_at pairs sound.earlier id of in
    let own = meaning_node pairs sound.earlier id p.0 p.1 in
    absurd (cc)

-- what a record of a store means is reduced
pub IsReduced-meaning : (pairs : List Pair) → IsSound pairs → (n : ℕ) (rec : Rec) → n ≤ length pairs
    → IsBelow n rec → IsReduced (meaning pairs rec)
IsReduced-meaning pairs sound n (Leaf k) le below = subst IsReduced (sym (meaning-leaf pairs k)) tt
IsReduced-meaning pairs sound zero (Node id) le below = absurd (omega arith)
IsReduced-meaning pairs sound (suc n) (Node id) le below =
    let of : IsOf pairs (Node id) = omega arith in
    let p = pair_at pairs sound.earlier id of in
    let under = sound.earlier id.0 p.0 p.1 in
    let own = meaning_node pairs sound.earlier id p.0 p.1 in
    let children = children_of pairs sound.earlier id.0 p.0 p.1 in
    let left = IsReduced-meaning pairs sound n p.0.left (omega arith)
    (IsBelow-le id.0 n p.0.left (omega arith) under.0) in
    let right = IsReduced-meaning pairs sound n p.0.right (omega arith)
    (IsBelow-le id.0 n p.0.right (omega arith) under.1) in
    let unlike : (a : ℕ) → meaning pairs p.0.left ≡ leaf a → meaning pairs p.0.right ≢ leaf a =
    λ a l r. sound.unlike id.0 p.0 p.1 a (leaf_from_meaning pairs sound p.0.left a children.0 l)
    (leaf_from_meaning pairs sound p.0.right a children.1 r) in
    subst IsReduced (sym own) (unlike, left, right)

-- records that mean the same tree are the same record
pub same_from_meaning : (pairs : List Pair) → IsSound pairs → (n : ℕ) (r s : Rec) → n ≤ length pairs
    → IsBelow n r → IsOf pairs s → meaning pairs r ≡ meaning pairs s → r ≡ s
same_from_meaning pairs sound n (Leaf k) s le r-of s-of same =
    sym (leaf_from_meaning pairs sound s k s-of (sym same ∙ meaning-leaf pairs k))
same_from_meaning pairs sound n (Node id) (Leaf k) le r-of s-of same =
    leaf_from_meaning pairs sound (Node id) k (IsBelow-le n (length pairs) (Node id) le r-of)
    (same ∙ meaning-leaf pairs k)
same_from_meaning pairs sound zero (Node id) (Node id') le r-of s-of same = absurd (omega arith)
same_from_meaning pairs sound (suc n) (Node id) (Node id') le r-of s-of same =
    let of : IsOf pairs (Node id) = omega arith in
    let p = pair_at pairs sound.earlier id of in
    let q = pair_at pairs sound.earlier id' s-of in
    let under = sound.earlier id.0 p.0 p.1 in
    let children = children_of pairs sound.earlier id'.0 q.0 q.1 in
    let nodes : node (meaning pairs p.0.left) (meaning pairs p.0.right)
    ≡ node (meaning pairs q.0.left) (meaning pairs q.0.right) =
    sym (meaning_node pairs sound.earlier id p.0 p.1) ∙ same
    ∙ meaning_node pairs sound.earlier id' q.0 q.1 in
    let left : p.0.left ≡ q.0.left =
    same_from_meaning pairs sound n p.0.left q.0.left (omega arith)
    (IsBelow-le id.0 n p.0.left (omega arith) under.0) children.0 (cc) in
    let right : p.0.right ≡ q.0.right =
    same_from_meaning pairs sound n p.0.right q.0.right (omega arith)
    (IsBelow-le id.0 n p.0.right (omega arith) under.1) children.1 (cc) in
    let pair : p.0 ≡ q.0 = λ i. record { left = left i; right = right i } in
    let number : id.0 ≡ id'.0 =
    sound.once id.0 id'.0 q.0 (subst (λ x. slice_get pairs id.0 ≡ Some x) pair p.1) q.1 in
    λ i. Node (record { 0 = number i })

-- records whose lookups agree are the same record
pub same_from_lookups_of : (pairs : List Pair) → IsSound pairs → (n : ℕ) (r s : Rec) → IsOf pairs r
    → IsOf pairs s → height (meaning pairs r) ≤ n → height (meaning pairs s) ≤ n
    → SameLookups n (meaning pairs r) (meaning pairs s) → r ≡ s
same_from_lookups_of pairs sound n r s r-of s-of r-low s-low same =
    let trees : meaning pairs r ≡ meaning pairs s =
    same_from_lookups n (meaning pairs r) (meaning pairs s) (
      r-low,
      IsReduced-meaning pairs sound (length pairs) r (omega arith) r-of,
    ) (s-low, IsReduced-meaning pairs sound (length pairs) s (omega arith) s-of) same in
    same_from_meaning pairs sound (length pairs) r s (omega arith) r-of s-of trees

-- ---- a store that grows

pub IsKept-append : (ps qs : List Pair) → IsKept ps (ps ++ qs)
IsKept-append ps qs rec of = (IsOf-append ps qs rec of, meaning-append ps qs rec of)

pub IsKept-from_growth : (old new : List Pair) (n : ℕ) → GrowsBy old new n → IsKept old new
IsKept-from_growth old new n grows = subst (IsKept old) (sym grows.1) (IsKept-append old grows.0)

-- a store of no nodes
pub IsSound-nil : IsSound []
IsSound-nil = record {
  few = omega arith;
  earlier = λ k p at. absurd (cc);
  unlike = λ k p at. absurd (cc);
  once = λ i j p at _. absurd (cc);
  low = low;
}
  where
    low : (rec : Rec) → IsOf [] rec → height (meaning [] rec) ≤ 128
    low (Leaf k) of = omega (arith, ap height (meaning-leaf [] k))
    low (Node id) of = absurd (omega arith)

-- a store with one more node
pub IsSound-push : (pairs : List Pair) → IsSound pairs → (p : Pair) → length pairs + 1 < 2 ^ 32
    → IsOf pairs p.left → IsOf pairs p.right
    → height (meaning pairs p.left) ≤ 127 → height (meaning pairs p.right) ≤ 127
    → ((a : ℕ) → p.left ≡ Leaf a → p.right ≢ Leaf a)
    → (Contains pairs p → ⊥) → IsSound (pairs ++ p ∷ [])
IsSound-push pairs sound p room left-of right-of left-low right-low unlike new = record {
  few = omega (arith, length-append pairs (p ∷ []));
  earlier = earlier;
  unlike = unlike';
  once = once;
  low = low;
}
  where
    grown : List Pair
    grown = pairs ++ p ∷ []

    earlier : (k : ℕ) (q : Pair) → slice_get (pairs ++ p ∷ []) k ≡ Some q
        → IsBelow k q.left × IsBelow k q.right
    earlier k q at =
        elim (slice_get-push pairs p k q at) [
          | inl old ↦ sound.earlier k q old
          | inr last ↦
              let left : IsBelow k p.left = subst (λ n. IsBelow n p.left) (sym last.0) left-of in
              let right : IsBelow k p.right =
              subst (λ n. IsBelow n p.right) (sym last.0) right-of in
              subst (λ (x : Pair). IsBelow k x.left × IsBelow k x.right) (sym last.1) (left, right)
        ]

    unlike' : (k : ℕ) (q : Pair) → slice_get (pairs ++ p ∷ []) k ≡ Some q
        → (a : ℕ) → q.left ≡ Leaf a → q.right ≢ Leaf a
    unlike' k q at =
        elim (slice_get-push pairs p k q at) [
          | inl old ↦ sound.unlike k q old
          | inr last ↦ subst (λ (x : Pair). (a : ℕ) → x.left ≡ Leaf a → x.right ≢ Leaf a)
              (sym last.1) unlike
        ]

    once : (i j : ℕ) (q : Pair) → slice_get (pairs ++ p ∷ []) i ≡ Some q
        → slice_get (pairs ++ p ∷ []) j ≡ Some q → i ≡ j
    once i j q at-i at-j =
        elim (slice_get-push pairs p i q at-i) [
          | inl old-i ↦ elim (slice_get-push pairs p j q at-j) [
            | inl old-j ↦ sound.once i j q old-i old-j
            | inr last-j ↦
                absurd (new (subst (Contains pairs) last-j.1 (Contains-slice_get pairs i q old-i)))
          ]
          | inr last-i ↦ elim (slice_get-push pairs p j q at-j) [
            | inl old-j ↦
                absurd (new (subst (Contains pairs) last-i.1 (Contains-slice_get pairs j q old-j)))
            | inr last-j ↦ last-i.0 ∙ sym last-j.0
          ]
        ]

    low : (rec : Rec) → IsOf (pairs ++ p ∷ []) rec → height (meaning (pairs ++ p ∷ []) rec) ≤ 128
    low (Leaf k) of = omega (arith, ap height (meaning-leaf (pairs ++ p ∷ []) k))
    low (Node id) of =
        elim (cases_lt id.0 (length pairs)) [
          | inl less ↦ omega (
            arith,
            sound.low (Node id) less,
            ap height (meaning-append pairs (p ∷ []) (Node id) less),
          )
          | inr last ↦
              let is : id.0 ≡ length pairs = omega (arith, length-append pairs (p ∷ [])) in
              omega (arith, ap height (meaning_last pairs p id is))
        ]

-- a tree is part of an equal one
pub IsPartOf-itself : (s t : Tree ℕ) → s ≡ t → IsPartOf s t
IsPartOf-itself s (leaf a) same = same
IsPartOf-itself s (node l r) same = inl same

-- a store that did not grow has no node that was added
pub AddedUnder-same : (pairs : List Pair) (rec : Rec) → AddedUnder pairs pairs rec
AddedUnder-same pairs rec id from to = absurd (omega arith)

-- what is kept twice is kept
pub IsKept-trans : (old mid new : List Pair) → IsKept old mid → IsKept mid new → IsKept old new
IsKept-trans old mid new one two rec of =
    let first = one rec of in
    let second = two rec first.0 in
    (second.0, second.1 ∙ first.1)

-- growth after growth
pub GrowsBy-trans : (old mid new : List Pair) (m n k : ℕ) → GrowsBy old mid m → GrowsBy mid new n
    → m + n ≤ k → GrowsBy old new k
GrowsBy-trans old mid new m n k one two le = (
  one.0 ++ two.0,
  two.1 ∙ ap (λ ps. ps ++ two.0) one.1 ∙ append_assoc old one.0 two.0,
  omega (arith, length-append one.0 two.0, one.2, two.2),
)

-- no growth
pub GrowsBy-same : (pairs : List Pair) (n : ℕ) → GrowsBy pairs pairs n
GrowsBy-same pairs n = ([], sym (append-nil pairs), omega arith)

pub IsKept-same : (pairs : List Pair) → IsKept pairs pairs
IsKept-same pairs rec of = (of, refl)

pub length-grown : (old new : List Pair) (n : ℕ) → GrowsBy old new n → length old ≤ length new
length-grown old new n grows = omega (arith, ap length grows.1, length-append old grows.0)

-- what a store is after a pair went in: k is the pair's number
pub record IsMade (old new : List Pair) (left right : Rec) (k : ℕ) : Type 0 where
  pub sound : IsSound new
  pub of : IsOf new (Node (record { 0 = k }))
  pub means : meaning new (Node (record { 0 = k })) ≡ node (meaning old left) (meaning old right)
  pub kept : IsKept old new
  pub grows : GrowsBy old new 1
  pub under : AddedUnder old new (Node (record { 0 = k }))

pub IsMade-from_added : (old new : List Pair) (left right : Rec) (k : ℕ) → IsSound old
    → IsAdded old new (record { left = left; right = right })
    → slice_get new k ≡ Some (record { left = left; right = right }) → length new < 2 ^ 32
    → IsOf old left → IsOf old right
    → height (meaning old left) ≤ 127 → height (meaning old right) ≤ 127
    → ((a : ℕ) → left ≡ Leaf a → right ≢ Leaf a) → IsMade old new left right k
IsMade-from_added old new left right k sound added at few left-of right-of left-low right-low
    unlike = record {
      sound = new-sound;
      of = slice_get_within new k p at;
      means =
          meaning_node new new-sound.earlier (record { 0 = k }) p at
          ∙ ap₂ node (kept left left-of).1 (kept right right-of).1;
      kept = kept;
      grows = grows;
      under = under;
    }
  where
    p : Pair
    p = record { left = left; right = right }

    grows : GrowsBy old new 1
    grows = elim added [
      | inl there ↦ ([], there.1 ∙ sym (append-nil old), omega arith)
      | inr new-one ↦ (record { left = left; right = right } ∷ [], new-one.1, omega arith)
    ]

    kept : IsKept old new
    kept = IsKept-from_growth old new 1 grows

    new-sound : IsSound new
    new-sound = elim added [
      | inl there ↦ subst IsSound (sym there.1) sound
      | inr new-one ↦
          subst IsSound (sym new-one.1) (IsSound-push old sound p (omega (
            arith,
            few,
            ap length new-one.1,
            length-append old (p ∷ []),
          )) left-of right-of left-low right-low unlike new-one.0)
    ]

    under : AddedUnder old new (Node (record { 0 = k }))
    under id from to = elim added [
      | inl there ↦ absurd (omega (arith, ap length there.1))
      | inr new-one ↦
          let last : slice_get new (length old) ≡ Some p =
          ap (λ ps. slice_get ps (length old)) new-one.1 ∙ slice_get_last old p in
          let k-is : length old ≡ k = new-sound.once (length old) k p last at in
          let id-is : id.0 ≡ k = omega (arith, ap length new-one.1, length-append old (p ∷ [])) in
          IsPartOf-itself (meaning new (Node id)) (meaning new (Node (record { 0 = k })))
          (ap (meaning new) (λ i. Node (record { 0 = id-is i })))
    ]

-- two records that are one leaf mean that leaf's join
pub join_of_leaf : (pairs : List Pair) (left right : Rec) (a : ℕ) → left ≡ Leaf a → right ≡ Leaf a
    → meaning pairs (Leaf a) ≡ join nat_eq (meaning pairs left) (meaning pairs right)
join_of_leaf pairs left right a is-left is-right =
    let l : meaning pairs left ≡ leaf a = ap (meaning pairs) is-left ∙ meaning-leaf pairs a in
    let r : meaning pairs right ≡ leaf a = ap (meaning pairs) is-right ∙ meaning-leaf pairs a in
    meaning-leaf pairs a ∙ sym (ap₂ (join nat_eq) l r ∙ join-leaf nat_eq nat_equality a)

-- two records of a store that are no equal leaves mean their node
pub join_of_node : (pairs : List Pair) → IsSound pairs → (left right : Rec) → IsOf pairs left
    → IsOf pairs right → ((a : ℕ) → left ≡ Leaf a → right ≢ Leaf a)
    → join nat_eq (meaning pairs left) (meaning pairs right)
    ≡ node (meaning pairs left) (meaning pairs right)
join_of_node pairs sound left right left-of right-of unlike =
    join-node nat_eq nat_equality (meaning pairs left)
    (meaning pairs right) (λ a l r. unlike a (leaf_from_meaning pairs sound left a left-of l)
    (leaf_from_meaning pairs sound right a right-of r))

-- ---- a step of the walk of an address

-- a bit that is 0 goes left
pub look_left : (t l r : Tree ℕ) (bits a : ℕ) → t ≡ node l r → 1 ≤ bits
    → bit_and (a / 2 ^ (bits - 1)) 1 ≡ 0 → look l (bits_of (bits - 1) a) ≡ look t (bits_of bits a)
unfolding bits_of
look_left t l r bits a is some zero-bit =
    let n : ℕ = bits - 1 in
    let bit : bit_at a n ≡ 0 = sym (shr_and_one a n) ∙ zero-bit in
    let went : look (node l r) (bits_of (suc n) a) ≡ look l (bits_of n a) =
    ap (λ b. look (node l r) ((b == 1) ∷ bits_of n a)) bit in
    let here : suc n ≡ bits = omega arith in
    sym went ∙ ap (λ b. look (node l r) (bits_of b a)) here
    ∙ ap (λ u. look u (bits_of bits a)) (sym is)

-- and any other goes right
pub look_right : (t l r : Tree ℕ) (bits a : ℕ) → t ≡ node l r → 1 ≤ bits
    → bit_and (a / 2 ^ (bits - 1)) 1 ≢ 0 → look r (bits_of (bits - 1) a) ≡ look t (bits_of bits a)
unfolding bits_of
look_right t l r bits a is some other-bit =
    let n : ℕ = bits - 1 in
    let bit : bit_at a n ≡ 1 = omega (arith, bit_at-lt a n, shr_and_one a n, other-bit) in
    let went : look (node l r) (bits_of (suc n) a) ≡ look r (bits_of n a) =
    ap (λ b. look (node l r) ((b == 1) ∷ bits_of n a)) bit in
    let here : suc n ≡ bits = omega arith in
    sym went ∙ ap (λ b. look (node l r) (bits_of b a)) here
    ∙ ap (λ u. look u (bits_of bits a)) (sym is)
