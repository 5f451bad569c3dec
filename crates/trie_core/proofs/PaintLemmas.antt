-- Lemmas on painting a block by its halves: the lookups, the nodes that are added,
-- and when no node can be made.
use Rattle.std.proofs.Common.{◌≡◌, ℕ, suc, ◌+◌, ◌^◌, ◌<◌, ◌≤◌, inl, inr, nat_eq, Bool, true, false}
use Rattle.std.proofs.Common.{List, [], ◌∷◌, length, slice_get, Contains, Some, None, refl, sym}
use Rattle.std.proofs.Common.{◌∙◌}
use Rattle.std.proofs.Common.{ap, ap₂, subst, arith}
use Rattle.std.proofs.lemmas.Bool.{cases_lt}
use Rattle.geo_addr.specs.Bits.{number_of}
use Rattle.geo_addr.proofs.BitsLemmas.{number_of-lt}
use Rattle.trie_core.specs.declared.node.Rec.{Rec}
use Rattle.trie_core.specs.declared.node.Rec.TheVariants.{Leaf, Node}
use Rattle.trie_core.specs.declared.node.Pair.{Pair}
use Rattle.trie_core.specs.declared.paint.Part.{Part}
use Rattle.trie_core.specs.Tree.{Tree, leaf, node, height, look, join, IsPartOf}
use Rattle.trie_core.specs.Store.{meaning, IsOf, IsSound, IsKept, NeedsNew, AddedUnder}
use Rattle.trie_core.specs.Graft.{half}
use Rattle.trie_core.specs.Paint.{leaf_in, over, IsPainted, HoldsPainted, IsHalved, IsSettled}
use Rattle.trie_core.proofs.TreeLemmas.{look-join, height-join, nat_equality}
use Rattle.trie_core.proofs.StoreLemmas.{meaning-leaf, meaning_node, pair_at, children_of}
use Rattle.trie_core.proofs.StoreLemmas.{same_from_lookups_of, Contains-slice_get}

-- ---- halves

-- a leaf's halves are that leaf
pub IsHalved-leaf : (pairs : List Pair) (k : ℕ) → IsHalved pairs (Leaf k) (Leaf k) (Leaf k)
IsHalved-leaf pairs k = record {
  left_of = tt;
  right_of = tt;
  left_is = rw (meaning-leaf pairs k) refl;
  right_is = rw (meaning-leaf pairs k) refl;
  left_look = λ w. rw (meaning-leaf pairs k) refl;
  right_look = λ w. rw (meaning-leaf pairs k) refl;
  left_low = omega (arith, ap height (meaning-leaf pairs k));
  right_low = omega (arith, ap height (meaning-leaf pairs k));
}

-- a node's halves are its children
pub IsHalved-node : (pairs : List Pair) (rec left right : Rec) → IsOf pairs left → IsOf pairs right
    → meaning pairs rec ≡ node (meaning pairs left) (meaning pairs right)
    → IsHalved pairs rec left right
IsHalved-node pairs rec left right left-of right-of is = record {
  left_of = left-of;
  right_of = right-of;
  left_is = sym (ap (half false) is);
  right_is = sym (ap (half true) is);
  left_look = λ w. ap (λ t. look t (false ∷ w)) is;
  right_look = λ w. ap (λ t. look t (true ∷ w)) is;
  left_low = omega (arith, ap height is);
  right_low = omega (arith, ap height is);
}

-- what holds of one block's halves holds of the block
module _ (n first middle : ℕ) (parts front back : List Part)
    (middle-is : middle + 1 ≡ first + 2 ^ n)
    (front-same : (a : ℕ) → a ≤ middle → leaf_in front a ≡ leaf_in parts a)
    (back-same : (a : ℕ) → middle < a → leaf_in back a ≡ leaf_in parts a)
    (t l r : Tree ℕ)
    (left-look : (w : List Bool) → look t (false ∷ w) ≡ look l w)
    (right-look : (w : List Bool) → look t (true ∷ w) ≡ look r w) where
  -- what is wanted along a list that begins with 0 is wanted of the lower half
  wanted-left : (w : List Bool) → length w ≡ n → over (leaf_in front (first + number_of w))
      (look l w) ≡ over (leaf_in parts (first + number_of (false ∷ w))) (look t (false ∷ w))
  wanted-left w long =
      let power : 2 ^ length w ≡ 2 ^ n = ap (λ x. 2 ^ x) long in
      let low : first + number_of w ≤ middle = omega (arith, number_of-lt w) in
      ap₂ over (front-same (first + number_of w) low) (sym (left-look w))

  -- and of the upper half where it begins with 1
  wanted-right : (w : List Bool) → length w ≡ n → over (leaf_in back (middle + 1 + number_of w))
      (look r w) ≡ over (leaf_in parts (first + number_of (true ∷ w))) (look t (true ∷ w))
  wanted-right w long =
      let power : 2 ^ length w ≡ 2 ^ n = ap (λ x. 2 ^ x) long in
      let landed : middle + 1 + number_of w ≡ first + number_of (true ∷ w) = omega arith in
      let high : middle < middle + 1 + number_of w = omega arith in
      ap₂ over (back-same (middle + 1 + number_of w) high ∙ ap (leaf_in parts) landed)
      (sym (right-look w))

  -- a block is painted where its halves are
  pub IsPainted-join : (l' r' : Tree ℕ) → IsPainted l l' n first front
      → IsPainted r r' n (middle + 1) back → IsPainted t (join nat_eq l' r') (suc n) first parts
  IsPainted-join l' r' left right = record {
    lookups = lookups;
    low = omega (arith, height-join nat_eq nat_equality l' r', left.low, right.low);
  }
    where
      lookups : (w : List Bool) → length w ≡ suc n
          → look (join nat_eq l' r') w ≡ over (leaf_in parts (first + number_of w)) (look t w)
      lookups [] long = absurd (omega arith)
      lookups (false ∷ w) long =
          let short : length w ≡ n = omega arith in
          look-join nat_eq nat_equality l' r' false w ∙ left.lookups w short ∙ wanted-left w short
      lookups (true ∷ w) long =
          let short : length w ≡ n = omega arith in
          look-join nat_eq nat_equality l' r' true w ∙ right.lookups w short ∙ wanted-right w short

  -- and the halves where the block is
  IsPainted-left : (pairs : List Pair) (rec left right : Rec)
      → IsHalved pairs rec left right → IsPainted t (meaning pairs rec) (suc n) first parts
      → IsPainted l (meaning pairs left) n first front
  IsPainted-left pairs rec left right halved painted = record {
    lookups =
        λ w long. sym (halved.left_look w) ∙ painted.lookups (false ∷ w) (omega arith)
        ∙ sym (wanted-left w long);
    low = omega (arith, halved.left_low, painted.low);
  }

  IsPainted-right : (pairs : List Pair) (rec left right : Rec)
      → IsHalved pairs rec left right → IsPainted t (meaning pairs rec) (suc n) first parts
      → IsPainted r (meaning pairs right) n (middle + 1) back
  IsPainted-right pairs rec left right halved painted = record {
    lookups =
        λ w long. sym (halved.right_look w) ∙ painted.lookups (true ∷ w) (omega arith)
        ∙ sym (wanted-right w long);
    low = omega (arith, halved.right_low, painted.low);
  }

  module _ (pairs : List Pair) (sound : IsSound pairs) where
    -- each record of a store has halves in it
    halves_of : (rec : Rec) → IsOf pairs rec
        → (left : Rec) × (right : Rec) × IsHalved pairs rec left right
    halves_of (Leaf k) of = (Leaf k, Leaf k, IsHalved-leaf pairs k)
    halves_of (Node id) of =
        let p = pair_at pairs sound.earlier id of in
        let children = children_of pairs sound.earlier id.0 p.0 p.1 in (
          p.0.left,
          p.0.right,
          IsHalved-node pairs (Node id) p.0.left p.0.right children.0 children.1
              (meaning_node pairs sound.earlier id p.0 p.1),
        )

    -- a store with the painted block has its painted halves
    pub HoldsPainted-left : HoldsPainted pairs t (suc n) first parts
        → HoldsPainted pairs l n first front
    HoldsPainted-left held =
        let h = halves_of held.0 held.1 in
        (h.0, h.2.left_of, IsPainted-left pairs held.0 h.0 h.1 h.2 held.2)

    pub HoldsPainted-right : HoldsPainted pairs t (suc n) first parts
        → HoldsPainted pairs r n (middle + 1) back
    HoldsPainted-right held =
        let h = halves_of held.0 held.1 in
        (h.1, h.2.right_of, IsPainted-right pairs held.0 h.0 h.1 h.2 held.2)

    module _ (left right : Rec) (left-of : IsOf pairs left) (right-of : IsOf pairs right)
        (left-painted : IsPainted l (meaning pairs left) n first front)
        (right-painted : IsPainted r (meaning pairs right) n (middle + 1) back) where
      -- a record with the painted halves has these records for halves
      same_halves : (rec a b : Rec) → IsHalved pairs rec a b
          → IsPainted t (meaning pairs rec) (suc n) first parts → (a ≡ left) × (b ≡ right)
      same_halves rec a b halved painted =
          let a-painted = IsPainted-left pairs rec a b halved painted in
          let b-painted = IsPainted-right pairs rec a b halved painted in (
            same_from_lookups_of pairs
                sound n a left halved.left_of left-of a-painted.low left-painted.low
                (λ w long. a-painted.lookups w long ∙ sym (left-painted.lookups w long)),
            same_from_lookups_of pairs
                sound n b right halved.right_of right-of b-painted.low right-painted.low
                (λ w long. b-painted.lookups w long ∙ sym (right-painted.lookups w long)),
          )

      -- a store without their node does not have the painted block
      pub no_painted_node : NeedsNew pairs left right → HoldsPainted pairs t (suc n) first parts → ⊥
      no_painted_node needed (Leaf k, of, painted) =
          let same = same_halves (Leaf k) (Leaf k) (Leaf k) (IsHalved-leaf pairs k) painted in
          needed.0 k (sym same.0) (sym same.1)
      no_painted_node needed (Node id, of, painted) =
          let p = pair_at pairs sound.earlier id of in
          let children = children_of pairs sound.earlier id.0 p.0 p.1 in
          let same =
          same_halves (Node id) p.0.left p.0.right (IsHalved-node pairs (Node id) p.0.left p.0.right
          children.0 children.1 (meaning_node pairs sound.earlier id p.0 p.1)) painted in
          let here : Contains pairs p.0 = Contains-slice_get pairs id.0 p.0 p.1 in
          let pair : p.0 ≡ record { left = left; right = right } =
          λ i. record { left = same.0 i; right = same.1 i } in
          needed.1 (subst (Contains pairs) pair here)

-- ---- a block that no part cuts

IsPainted-none : (t : Tree ℕ) (n first last : ℕ) (parts : List Part) → height t ≤ n
    → last + 1 ≡ first + 2 ^ n → ((a : ℕ) → first ≤ a → a ≤ last → leaf_in parts a ≡ None)
    → IsPainted t t n first parts
IsPainted-none t n first last parts low block none = record {
  lookups = λ w long.
      let power : 2 ^ length w ≡ 2 ^ n = ap (λ x. 2 ^ x) long in
      let at : leaf_in parts (first + number_of w) ≡ None =
      none (first + number_of w) (omega arith) (omega (arith, number_of-lt w)) in
      sym (ap (λ o. over o (look t w)) at);
  low = low;
}

IsPainted-leaf : (t u : Tree ℕ) (n first last k : ℕ) (parts : List Part) → u ≡ leaf k
    → last + 1 ≡ first + 2 ^ n → ((a : ℕ) → first ≤ a → a ≤ last → leaf_in parts a ≡ Some k)
    → IsPainted t u n first parts
IsPainted-leaf t u n first last k parts leaf-is block has = record {
  lookups = λ w long.
      let power : 2 ^ length w ≡ 2 ^ n = ap (λ x. 2 ^ x) long in
      let at : leaf_in parts (first + number_of w) ≡ Some k =
      has (first + number_of w) (omega arith) (omega (arith, number_of-lt w)) in
      ap (λ v. look v w) leaf-is ∙ sym (ap (λ o. over o (look t w)) at);
  low = omega (arith, ap height leaf-is);
}

-- its record is of the store
pub IsOf-settled : (pairs : List Pair) (was rec : Rec) (first last : ℕ) (parts : List Part)
    → IsOf pairs was → IsSettled first last parts was rec → IsOf pairs rec
IsOf-settled pairs was rec first last parts of (inl same) = subst (IsOf pairs) (sym same.0) of
IsOf-settled pairs was rec first last parts of (inr made) = subst (IsOf pairs) (sym made.1) tt

-- and means the painted block
pub IsPainted-settled : (pairs : List Pair) (was rec : Rec) (n first last : ℕ) (parts : List Part)
    → height (meaning pairs was) ≤ n → last + 1 ≡ first + 2 ^ n
    → IsSettled first last parts was rec
    → IsPainted (meaning pairs was) (meaning pairs rec) n first parts
IsPainted-settled pairs was rec n first last parts low block (inl same) =
    subst (λ r. IsPainted (meaning pairs was) (meaning pairs r) n first parts) (sym same.0)
    (IsPainted-none (meaning pairs was) n first last parts low block same.1)
IsPainted-settled pairs was rec n first last parts low block (inr made) =
    IsPainted-leaf (meaning pairs was) (meaning pairs rec) n first last made.0 parts
    (ap (meaning pairs) made.1 ∙ meaning-leaf pairs made.0) block made.2

-- ---- the nodes that are added

-- a part of a child is a part of the join, where it is a node
IsPartOf-join_left : (s l r : Tree ℕ) (x y : Tree ℕ) → s ≡ node x y → IsPartOf s l
    → IsPartOf s (join nat_eq l r)
IsPartOf-join_left s (leaf a) r x y is at = absurd (cc)
IsPartOf-join_left s (node a b) r x y is part = inr (inl part)

IsPartOf-join_right : (s l r : Tree ℕ) (x y : Tree ℕ) → s ≡ node x y → IsPartOf s r
    → IsPartOf s (join nat_eq l r)
IsPartOf-join_right s l (leaf a) x y is at = absurd (cc)
IsPartOf-join_right s (leaf c) (node a b) x y is part = inr (inr part)
IsPartOf-join_right s (node c d) (node a b) x y is part = inr (inr part)

-- what was added for the halves and for their node stands under the block's record
pub AddedUnder-join : (old mid late new : List Pair) (left right rec : Rec) → IsSound new
    → IsOf mid left → IsOf late right
    → IsKept mid late → IsKept late new
    → meaning new rec ≡ join nat_eq (meaning late left) (meaning late right)
    → AddedUnder old mid left → AddedUnder mid late right → AddedUnder late new rec
    → AddedUnder old new rec
AddedUnder-join old mid late new left right rec sound left-of right-of kept-late kept-new is
    under-left under-right under-node id from to =
    elim (cases_lt id.0 (length mid)) [
      | inl first ↦
          let of-late = kept-late (Node id) first in
          let of-new = kept-new (Node id) of-late.0 in
          let part : IsPartOf (meaning mid (Node id)) (meaning mid left) =
          under-left id from first in
          let here : IsPartOf (meaning new (Node id)) (meaning late left) =
          subst (λ s. IsPartOf s (meaning late left)) (sym (of-new.1 ∙ of-late.1))
          (subst (IsPartOf (meaning mid (Node id))) (sym (kept-late left left-of).1) part) in
          subst (IsPartOf (meaning new (Node id))) (sym is)
          (IsPartOf-join_left _ _ _ _ _ node-is here)
      | inr past ↦ elim (cases_lt id.0 (length late)) [
        | inl second ↦
            let of-new = kept-new (Node id) second in
            let part : IsPartOf (meaning late (Node id)) (meaning late right) =
            under-right id past second in
            let here : IsPartOf (meaning new (Node id)) (meaning late right) =
            subst (λ s. IsPartOf s (meaning late right)) (sym of-new.1) part in
            subst (IsPartOf (meaning new (Node id))) (sym is)
            (IsPartOf-join_right _ _ _ _ _ node-is here)
        | inr third ↦ under-node id third to
      ]
    ]
  where
    pair : (p : Pair) × (slice_get new id.0 ≡ Some p)
    pair = pair_at new sound.earlier id to

    node-is : meaning new (Node id) ≡ node (meaning new (pair_at new sound.earlier id to).0.left)
        (meaning new (pair_at new sound.earlier id to).0.right)
    node-is =
        meaning_node new sound.earlier id (pair_at new sound.earlier id to).0
        (pair_at new sound.earlier id to).1
