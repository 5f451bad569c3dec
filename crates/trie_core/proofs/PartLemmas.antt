-- Lemmas on the parts that are painted: which leaf an address has among them,
-- and which of an ascending list are left behind a block.
use Rattle.std.proofs.Common.{◌≡◌, ℕ, ◌+◌, ◌<◌, ◌≤◌, inl, inr, Bool, true, false, ◌&&◌}
use Rattle.std.proofs.Common.{if◌then◌else◌, nat_le, List, [], ◌∷◌, ◌++◌, length, drop, slice_get}
use Rattle.std.proofs.Common.{get_or, Some, None, All, refl, sym, ◌∙◌, ap, subst, arith, rules}
use Rattle.std.proofs.Common.{length-drop}
use Rattle.std.proofs.lemmas.Bool.{cases_lt, lt-leb}
use Rattle.std.proofs.lemmas.Option.{slice_get_within, get_or_from_slice_get}
use Rattle.std.specs.List.Sorted.{IsNonDecreasingBy}
use Rattle.std.proofs.lemmas.List.{get_or-drop, get_or_append_left, get_or_at, length_push}
use Rattle.std.proofs.lemmas.List.Elements.{All-nil, All-push, All-head, All-tail, All-drop}
use Rattle.std.proofs.lemmas.List.Elements.{All-cons}
use Rattle.std.proofs.lemmas.List.Sums.{sum_by-take-drop}
use Rattle.std.proofs.lemmas.List.Sorted.{IsNonDecreasingBy-from_all_adjacent}
use Rattle.geo_addr.specs.Ranges.{IsRange}
use Rattle.trie_core.specs.declared.node.Rec.{Rec}
use Rattle.trie_core.specs.declared.node.Rec.TheVariants.{Leaf}
use Rattle.trie_core.specs.declared.paint.Part.{Part}
use Rattle.trie_core.specs.Paint.{IsAscending, leaf_in, cut_blocks, AreLeft, IsSettled}

-- a list with a first element
pub first_and_rest : {X : Type 0} (xs : List X) (x : X) → Some x ≡ slice_get xs 0
    → xs ≡ x ∷ drop 1 xs
first_and_rest [] x at = absurd (cc)
first_and_rest (y ∷ xs) x at = ap (λ z. z ∷ xs) (cc)

and_false : (b : Bool) → (b && false) ≡ false
and_false true = refl
and_false false = refl

-- an address before all parts has no leaf among them
leaf_in-before : (parts : List Part) (a : ℕ) → All (λ p. a < p.range.first) parts
    → leaf_in parts a ≡ None
leaf_in-before [] a h = refl
leaf_in-before (p ∷ ps) a h =
    let first : nat_le p.range.first a ≡ false =
    lt-leb p.range.first a (All-head (λ p. a < p.range.first) p ps h) in
    let rest : leaf_in ps a ≡ None =
    leaf_in-before ps a (All-tail (λ p. a < p.range.first) p ps h) in
    ap (λ (b : Bool). if b && nat_le a p.range.last then Some p.leaf else leaf_in ps a) first ∙ rest

-- earlier parts that end before the address do not matter
leaf_in-back : (xs ys : List Part) (a : ℕ) → All (λ p. p.range.last < a) xs
    → leaf_in ys a ≡ leaf_in (xs ++ ys) a
leaf_in-back [] ys a h = refl
leaf_in-back (p ∷ xs) ys a h =
    let last : nat_le a p.range.last ≡ false =
    lt-leb a p.range.last (All-head (λ p. p.range.last < a) p xs h) in
    let test : (nat_le p.range.first a && nat_le a p.range.last) ≡ false =
    ap (λ b. nat_le p.range.first a && b) last ∙ and_false (nat_le p.range.first a) in
    let rest = leaf_in-back xs ys a (All-tail (λ p. p.range.last < a) p xs h) in
    rest ∙ sym (ap (λ (b : Bool). if b then Some p.leaf else leaf_in (xs ++ ys) a) test)

-- a part that has the address gives its leaf
pub leaf_in_first : (p : Part) (ps : List Part) (a : ℕ) → p.range.first ≤ a → a ≤ p.range.last
    → leaf_in (p ∷ ps) a ≡ Some p.leaf
leaf_in_first p ps a first last =
    let begins : nat_le p.range.first a ≡ true = search rules in
    let ends : nat_le a p.range.last ≡ true = search rules in
    rw (begins, ends) refl

-- ---- the parts that are left

IsAscending-drop : (parts : List Part) (i : ℕ) → IsAscending parts → IsAscending (drop i parts)
IsAscending-drop parts i up = record {
  ranges = All-drop (λ p. IsRange p.range) i parts up.ranges;
  apart = λ k d below.
      let next : i + (k + 1) ≡ (i + k) + 1 = omega arith in
      rw (get_or-drop i parts k d, get_or-drop i parts (k + 1) d, next)
      (up.apart (i + k) d (omega (arith, length-drop i parts)));
}

-- the firsts of ascending parts do not fall, and neither do the lasts
firsts_rise : (parts : List Part) → IsAscending parts → IsNonDecreasingBy (λ p. p.range.first) parts
firsts_rise parts up = IsNonDecreasingBy-from_all_adjacent (λ p. p.range.first) parts (λ k d below.
    let range : IsRange (get_or parts k d).range = up.ranges k d (omega arith) in
    omega (arith, up.apart k d below, range.ordered))

lasts_rise : (parts : List Part) → IsAscending parts → IsNonDecreasingBy (λ p. p.range.last) parts
lasts_rise parts up = IsNonDecreasingBy-from_all_adjacent (λ p. p.range.last) parts (λ k d below.
    let range : IsRange (get_or parts (k + 1) d).range = up.ranges (k + 1) d below in
    omega (arith, up.apart k d below, range.ordered))

module _ (parts : List Part) (p : Part) (head : Some p ≡ slice_get parts 0)
    (up : IsAscending parts) where
  -- the first part is one of them
  whole : parts ≡ p ∷ drop 1 parts
  whole = first_and_rest parts p head

  some : 0 < length parts
  some = slice_get_within parts 0 p (sym head)

  head_at : (d : Part) → get_or parts 0 d ≡ p
  head_at d = get_or_from_slice_get parts 0 p d (sym head)

  -- no part begins before the first one
  firsts_from : All (λ q. p.range.first ≤ q.range.first) parts
  firsts_from k d below =
      omega (
        arith,
        firsts_rise parts up 0 k d (omega arith) below,
        ap (λ (q : Part). q.range.first) (head_at d),
      )

  -- or ends before it
  lasts_from : All (λ q. p.range.last ≤ q.range.last) parts
  lasts_from k d below =
      omega (
        arith,
        lasts_rise parts up 0 k d (omega arith) below,
        ap (λ (q : Part). q.range.last) (head_at d),
      )

  -- and the others begin after it
  later_from : All (λ q. p.range.last < q.range.first) (drop 1 parts)
  later_from k d below =
      let long = length-drop 1 parts in
      omega (
        arith,
        up.apart 0 d (omega arith),
        firsts_rise parts up 1 (1 + k) d (omega arith) (omega arith),
        ap (λ (q : Part). q.range.last) (head_at d),
        ap (λ (q : Part). q.range.first) (get_or-drop 1 parts k d),
      )

  -- so all are left of a block that ends before the first one does
  AreLeft-before : (last : ℕ) → last < p.range.last → AreLeft parts parts last
  AreLeft-before last before = record {
    ascending = up;
    begun = λ k d below. omega (arith, before, lasts_from k d below);
    same = λ a after. refl;
    cheaper = λ n first. omega arith;
  }

  -- and all others of a block that ends where it does
  AreLeft-at : (last : ℕ) → p.range.last ≡ last → AreLeft parts (drop 1 parts) last
  AreLeft-at last at = record {
    ascending = IsAscending-drop parts 1 up;
    begun = λ k d below.
        let range : IsRange (get_or (drop 1 parts) k d).range =
        (IsAscending-drop parts 1 up).ranges k d below in
        omega (arith, at, later_from k d below, range.ordered);
    same = λ a after.
        leaf_in-back (p ∷ []) (drop 1 parts) a (All-cons (λ q. q.range.last < a) p [] (omega arith)
        (All-nil (λ q. q.range.last < a))) ∙ ap (λ ps. leaf_in ps a) (sym whole);
    cheaper = λ n first. omega (arith, sum_by-take-drop (λ q. cut_blocks n first q.range) parts 1);
  }

  -- a block that ends before the first part begins has no address of any
  none_before : (last : ℕ) → last < p.range.first
      → (a : ℕ) → a ≤ last → leaf_in parts a ≡ None
  none_before last before a within =
      leaf_in-before parts a (λ k d below. omega (arith, firsts_from k d below))

  -- and one that the first part has whole has its leaf
  leaf_within : (first last : ℕ) → p.range.first ≤ first → last ≤ p.range.last
      → (a : ℕ) → first ≤ a → a ≤ last → leaf_in parts a ≡ Some p.leaf
  leaf_within first last begins ends a from to =
      ap (λ ps. leaf_in ps a) whole
      ∙ leaf_in_first p (drop 1 parts) a (omega arith) (omega arith)

  -- so a block is settled that ends before the first part begins
  pub settled_before : (was : Rec) (first last : ℕ) → last < p.range.first
      → IsSettled first last parts was was × AreLeft parts parts last
  settled_before was first last before =
      let begins : p.range.first ≤ p.range.last =
      subst (λ (q : Part). q.range.first ≤ q.range.last) (head_at p) (up.ranges 0 p some).ordered in
      (inl (refl, λ a from to. none_before last before a to), AreLeft-before last (omega arith))

  -- and one that it has whole, whether it ends there or goes on
  pub settled_inside : (was : Rec) (first last : ℕ) → p.range.first ≤ first → last < p.range.last
      → IsSettled first last parts was (Leaf p.leaf) × AreLeft parts parts last
  settled_inside was first last begins ends =
      (inr (p.leaf, refl, leaf_within first last begins (omega arith)), AreLeft-before last ends)

  pub settled_at : (was : Rec) (first last : ℕ) → p.range.first ≤ first → p.range.last ≡ last
      → IsSettled first last parts was (Leaf p.leaf) × AreLeft parts (drop 1 parts) last
  settled_at was first last begins ends =
      (inr (p.leaf, refl, leaf_within first last begins (omega arith)), AreLeft-at last ends)

-- a list with no first element
nil_from_none : {X : Type 0} (xs : List X) → None ≡ slice_get xs 0 → xs ≡ []
nil_from_none [] none = refl
nil_from_none (x ∷ xs) none = absurd (cc)

-- without parts all blocks are settled
pub settled_none : (parts : List Part) (was : Rec) (first last : ℕ) → None ≡ slice_get parts 0
    → IsAscending parts → IsSettled first last parts was was × AreLeft parts parts last
settled_none parts was first last none up =
    let is : parts ≡ [] = nil_from_none parts none in (
      inl (refl, λ a from to. ap (λ ps. leaf_in ps a) is),
      record {
        ascending = up;
        begun = λ k d below. absurd (omega (arith, ap length is));
        same = λ a after. refl;
        cheaper = λ n first. omega arith;
      },
    )

-- ---- a list of parts that grows

pub IsAscending-nil : IsAscending []
IsAscending-nil =
    record { ranges = All-nil (λ p. IsRange p.range); apart = λ k d below. absurd (omega arith) }

-- a part that begins after all others goes last
pub IsAscending-push : (parts : List Part) (p : Part) → IsAscending parts → IsRange p.range
    → All (λ q. q.range.last < p.range.first) parts → IsAscending (parts ++ p ∷ [])
IsAscending-push parts p up range after = record {
  ranges = All-push (λ q. IsRange q.range) parts p up.ranges range;
  apart = λ k d below.
      let long : length (parts ++ p ∷ []) ≡ length parts + 1 = length_push parts p in
      let here : get_or (parts ++ p ∷ []) k d ≡ get_or parts k d =
      get_or_append_left parts (p ∷ []) d k (omega arith) in
      elim (cases_lt (k + 1) (length parts)) [
        | inl inside ↦
            let next : get_or (parts ++ p ∷ []) (k + 1) d ≡ get_or parts (k + 1) d =
            get_or_append_left parts (p ∷ []) d (k + 1) inside in
            rw (here, next) (up.apart k d inside)
        | inr last ↦
            let next : get_or (parts ++ p ∷ []) (k + 1) d ≡ p =
            get_or_at parts p [] d (k + 1) (omega arith) in
            rw (here, next) (after k d (omega arith))
      ];
}
