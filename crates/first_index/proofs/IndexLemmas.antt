-- What an index tells is the first statement that holds an address:
-- by the ranks of the statements in their order, those that tie by their indexes.
use Rattle.std.proofs.Common.{◌≡◌, ℕ, zero, suc, ◌+◌, ◌<◌, ◌≤◌, Bool, true, false, cond, leb, ltb}
use Rattle.std.proofs.Common.{◌||◌, eqb}
use Rattle.std.proofs.Common.{List, [], ◌∷◌, length, get_or, map, fold, Option, Some, None}
use Rattle.std.proofs.Common.{Ordering, slice_get, refl, sym, ap, ◌∙◌, subst, inl, inr, arith}
use Rattle.std.specs.Cmp.{IsTotalOrder}
use Rattle.std.specs.List.{All, AllByRecursion, enumerate_from, filter, position, position_or_len}
use Rattle.std.specs.List.Sorted.{IsNonDecreasingBy, IsPermutation, IsSortedBy}
use Rattle.std.specs.Option.{option_and_then, option_map}
use Rattle.std.specs.Ordering.{nat_cmp, ordering_then, ordering_reverse, is_lt}
use Rattle.std.proofs.lemmas.Bool.Decides.{nat_tests}
use Rattle.std.proofs.lemmas.Cmp.{then_total, on_total, nat_cmp_total}
use Rattle.std.proofs.lemmas.List.Elements.{All-from_recursion, recursion_from_All}
use Rattle.std.proofs.lemmas.List.Sorted.{ranks_by, sorted_far, All-permutation}
use Rattle.std.proofs.lemmas.List.Sorted.{Contains-permutation, IsPermutation-sym}
use Rattle.geo_addr.specs.Ranges.{Ends, holds}
use Rattle.first_index.specs.Boundaries.{told, AreBoundaries}
use Rattle.geo_terms.specs.First.{IsFirst, better, first_of, first_at}
use Rattle.first_index.specs.FirstIndex.{TellsFirst, index_cmp, with_index}
use Rattle.first_index.specs.Nested.{stands_at}
use Rattle.first_index.specs.declared.boundaries.Boundary.{Boundary}
use Rattle.geo_terms.proofs.FirstLemmas.{first_is_first}
use Rattle.geo_terms.proofs.Members.{Among, among_from_contains, contains_from_among, all_among}

-- boundaries with indexes tell the index of the rank that was told
told_indexes : (indexes : List ℕ) (before : Option ℕ) (bs : List Boundary) (a : ℕ)
    → told (option_and_then (slice_get indexes) before) (map (with_index indexes) bs) a
    ≡ option_and_then (slice_get indexes) (told before bs a)
told_indexes indexes before [] a = refl
told_indexes indexes before (b ∷ bs) a =
    elim (leb b.at a) as (λ v. cond v (told (option_and_then (slice_get indexes) b.first)
    (map (with_index indexes) bs) a) (option_and_then (slice_get indexes) before)
    ≡ option_and_then (slice_get indexes) (cond v (told b.first bs a) before)) [
      | true ↦ told_indexes indexes b.first bs a
      | false ↦ refl
    ]

pub ordered_indexes : (indexes : List ℕ) (bs : List Boundary)
    → IsNonDecreasingBy (λ (b : Boundary). b.at) bs
    → IsNonDecreasingBy (λ (b : Boundary). b.at) (map (with_index indexes) bs)
ordered_indexes indexes bs up i j d le below =
    let n : length (map (with_index indexes) bs) ≡ length bs = same_length bs in
    let x : (get_or (map (with_index indexes) bs) i d).at ≡ (get_or bs i d).at =
    same_at bs i (omega arith) in
    let y : (get_or (map (with_index indexes) bs) j d).at ≡ (get_or bs j d).at =
    same_at bs j (omega arith) in
    omega (arith, up i j d le (omega arith))
  where
    same_length : (xs : List Boundary) → length (map (with_index indexes) xs) ≡ length xs
    same_length [] = refl
    same_length (x ∷ xs) = ap suc (same_length xs)

    same_at : (xs : List Boundary) (k : ℕ) → k < length xs
        → (get_or (map (with_index indexes) xs) k d).at ≡ (get_or xs k d).at
    same_at [] k lt = absurd (omega arith)
    same_at (x ∷ xs) zero lt = refl
    same_at (x ∷ xs) (suc k) lt = same_at xs k (omega arith)

position_here : {X : Type 0} (p : X → Bool) (x : X) (xs : List X) → p x ≡ true
    → position p (x ∷ xs) ≡ Some 0
position_here p x xs is = rw is (grind (arith, nat_tests))

position_later : {X : Type 0} (p : X → Bool) (x : X) (xs : List X) → p x ≡ false
    → position p (x ∷ xs) ≡ option_map (λ n. 1 + n) (position p xs)
position_later p x xs fails =
    rw fails (elim (ltb (position_or_len p xs) (length xs))
    as (λ b. ltb (position_or_len p xs) (length xs) ≡ b
    → cond (ltb (1 + position_or_len p xs) (suc (length xs))) (Some (1 + position_or_len p xs)) None
    ≡ option_map (λ n. 1 + n) (cond b (Some (position_or_len p xs)) None)) [
      | true ↦ λ e. let f : ltb (1 + position_or_len p xs) (suc (length xs)) ≡ true =
          grind (arith, nat_tests) in rw f refl
      | false ↦ λ e. let f : ltb (1 + position_or_len p xs) (suc (length xs)) ≡ false =
          grind (arith, nat_tests) in rw f refl
    ] refl)

-- what stands behind an equal or a greater one
then_less : (x y : Ordering) → is_lt (ordering_then x y) ≡ false → is_lt x ≡ false
then_less Ordering.Less y e = absurd (let f : true ≡ false = e in cc)
then_less Ordering.Equal y e = refl
then_less Ordering.Greater y e = refl

then_greater : (x y : Ordering) → is_lt (ordering_then x y) ≡ false → y ≡ Ordering.Less
    → x ≡ Ordering.Greater
then_greater Ordering.Less y e is = absurd (let f : true ≡ false = e in cc)
then_greater Ordering.Equal y e is =
    absurd (let f : is_lt Ordering.Less ≡ false = subst (λ o. is_lt o ≡ false) is e in
    let g : true ≡ false = f in cc)
then_greater Ordering.Greater y e is = refl

-- the first of statements with their indexes that holds an address
abbrev pub found : {X : Type 0} → (X → Ends) → List (ℕ × X) → ℕ → Option (ℕ × X)
found range_of [] a = None
found range_of (c ∷ cs) a = cond (holds (range_of c.1) a) (Some c) (found range_of cs a)

-- what is kept of a list, and what of the list is not
kept_none : {Y : Type 0} (p : Y → Bool) (ys : List Y) → filter p ys ≡ []
    → AllByRecursion (λ y. p y ≡ false) ys
kept_none p [] is = tt
kept_none p (y ∷ ys) is =
    elim (p y) as (λ v. p y ≡ v → cond v (y ∷ filter p ys) (filter p ys) ≡ []
    → AllByRecursion (λ y. p y ≡ false) (y ∷ ys)) [
      | true ↦ λ e here. absurd cc
      | false ↦ λ e later. (e, kept_none p ys later)
    ] refl is

among_kept : {Y : Type 0} (p : Y → Bool) (z : Y) (ys : List Y) → Among z (filter p ys)
    → Among z ys × (p z ≡ true)
among_kept p z [] is = absurd is
among_kept p z (y ∷ ys) is =
    elim (p y) as (λ v. p y ≡ v → Among z (cond v (y ∷ filter p ys) (filter p ys))
    → Among z (y ∷ ys) × (p z ≡ true)) [
      | true ↦ λ e here. elim here [
        | inl same ↦ (inl same, subst (λ x. p x ≡ true) same e)
        | inr later ↦ let found = among_kept p z ys later in (inr found.0, found.1)
      ]
      | false ↦ λ e later. let found = among_kept p z ys later in (inr found.0, found.1)
    ] refl is

least_kept : {Y : Type 0} (p : Y → Bool) (P : Y → Type 0) (ys : List Y)
    → AllByRecursion P (filter p ys) → AllByRecursion (λ y. p y ≡ true → P y) ys
least_kept p P [] all = tt
least_kept p P (y ∷ ys) all =
    elim (p y) as (λ v. p y ≡ v → AllByRecursion P (cond v (y ∷ filter p ys) (filter p ys))
    → AllByRecursion (λ y. p y ≡ true → P y) (y ∷ ys)) [
      | true ↦ λ e here. ((λ _. here.0), least_kept p P ys here.1)
      | false ↦ λ e later.
          ((λ is. absurd (let f : false ≡ true = sym e ∙ is in cc)), least_kept p P ys later)
    ] refl all

module _ {X : Type 0} (order : X → X → Ordering) (total : IsTotalOrder order)
    (range_of : X → Ends) where
  abbrev before : X → X → Bool
  before x y = is_lt (order x y)

  abbrev ranked_before : ℕ × X → ℕ × X → Bool
  ranked_before x y = is_lt (index_cmp order x y)

  pub index_total : IsTotalOrder (index_cmp order)
  index_total =
      then_total (on_total (λ (x : ℕ × X). x.1) total) (on_total (λ (x : ℕ × X). x.0) nat_cmp_total)

  -- its index is that of the rank of the first range that holds
  by_rank : (a : ℕ) (cs : List (ℕ × X)) → option_and_then (slice_get (map (λ (c : ℕ × X). c.0) cs))
      (position (λ r. holds r a) (map (λ (c : ℕ × X). range_of c.1) cs))
      ≡ option_map (λ (c : ℕ × X). c.0) (found range_of cs a)
  by_rank a [] = refl
  by_rank a (c ∷ cs) =
      elim (holds (range_of c.1) a) as (λ b. holds (range_of c.1) a ≡ b
      → option_and_then (slice_get (map (λ (c : ℕ × X). c.0) (c ∷ cs)))
      (position (λ r. holds r a) (map (λ (c : ℕ × X). range_of c.1) (c ∷ cs)))
      ≡ option_map (λ (c : ℕ × X). c.0) (cond b (Some c) (found range_of cs a))) [
        | true ↦ λ e. rw (position_here (λ (x : Ends). holds x a) (range_of c.1)
            (map (λ (c : ℕ × X). range_of c.1) cs) e) refl
        | false ↦ λ e. rw (position_later (λ (x : Ends). holds x a)
            (range_of c.1) (map (λ (c : ℕ × X). range_of c.1) cs) e) (later
            (position (λ r. holds r a) (map (λ (c : ℕ × X). range_of c.1) cs)) ∙ by_rank a cs)
      ] refl
    where
      later : (o : Option ℕ) → option_and_then (slice_get (map (λ (c : ℕ × X). c.0) (c ∷ cs)))
          (option_map (λ n. 1 + n) o) ≡ option_and_then (slice_get (map (λ (c : ℕ × X). c.0) cs)) o
      later None = refl
      later (Some n) = let e : 1 + n ≡ suc n = omega arith in rw e refl

  -- the statements are in order: no later one goes before an earlier one
  abbrev InOrder : List (ℕ × X) → Type 0
  InOrder [] = Unit {0}
  InOrder (c ∷ cs) = AllByRecursion (λ d. ranked_before d c ≡ false) cs × InOrder cs

  none_ahead : (c : ℕ × X) (cs : List (ℕ × X))
      → ((j : ℕ) (d : ℕ × X) → j < length cs → ranked_before (get_or cs j d) c ≡ false)
      → AllByRecursion (λ d. ranked_before d c ≡ false) cs
  none_ahead c [] later = tt
  none_ahead c (x ∷ xs) later =
      (later 0 x (omega arith), none_ahead c xs (λ j d below. later (suc j) d (omega arith)))

  in_order : (cs : List (ℕ × X)) → ((i j : ℕ) (d : ℕ × X) → i ≤ j → j < length cs
      → ranked_before (get_or cs j d) (get_or cs i d) ≡ false) → InOrder cs
  in_order [] far = tt
  in_order (c ∷ cs) far = (
    none_ahead c cs (λ j d below. far 0 (suc j) d (omega arith) (omega arith)),
    in_order cs (λ i j d le below. far (suc i) (suc j) d (omega arith) (omega arith)),
  )

  -- of those that hold an address, no later one goes before an earlier one
  abbrev pub Ranked : ℕ → List (ℕ × X) → Type 0
  Ranked a [] = Unit {0}
  Ranked a (c ∷ cs) =
      (holds (range_of c.1) a ≡ true
      → AllByRecursion (λ d. holds (range_of d.1) a ≡ true → ranked_before d c ≡ false) cs)
      × Ranked a cs

  -- what was found: no other one that holds goes before it
  record IsFound (a : ℕ) (cs : List (ℕ × X)) (c : ℕ × X) : Type 0 where
    among : Among c cs
    held : holds (range_of c.1) a ≡ true
    least : AllByRecursion (λ d. holds (range_of d.1) a ≡ true → ranked_before d c ≡ false) cs

  not_itself : (c : ℕ × X) → ranked_before c c ≡ false
  not_itself c =
      let o = ranks_by index_total (λ (x : ℕ × X). x) in
      elim (ranked_before c c) as (λ b. ranked_before c c ≡ b → b ≡ false) [
        | true ↦ λ e. sym e ∙ o.one_way c c e
        | false ↦ λ e. refl
      ] refl

  under_holds : (a : ℕ) (c : ℕ × X) (cs : List (ℕ × X))
      → AllByRecursion (λ d. ranked_before d c ≡ false) cs
      → AllByRecursion (λ d. holds (range_of d.1) a ≡ true → ranked_before d c ≡ false) cs
  under_holds a c [] h = tt
  under_holds a c (x ∷ xs) h = ((λ _. h.0), under_holds a c xs h.1)

  ranked : (a : ℕ) (cs : List (ℕ × X)) → InOrder cs → Ranked a cs
  ranked a [] up = tt
  ranked a (c ∷ cs) up = ((λ _. under_holds a c cs up.0), ranked a cs up.1)

  is_found : (a : ℕ) (cs : List (ℕ × X)) (d : ℕ × X) → Ranked a cs → found range_of cs a ≡ Some d
      → IsFound a cs d
  is_found a [] d up is = absurd cc
  is_found a (c ∷ cs) d up is =
      elim (holds (range_of c.1) a) as (λ b. holds (range_of c.1) a ≡ b
      → cond b (Some c) (found range_of cs a) ≡ Some d → IsFound a (c ∷ cs) d) [
        | true ↦ λ e here. let same : c ≡ d = cc in
            subst (λ (x : ℕ × X). IsFound a (c ∷ cs) x) same
            (record { among = inl refl; held = e; least = ((λ _. not_itself c), up.0 e) })
        | false ↦ λ e later. let h = is_found a cs d up.1 later in
            record {
              among = inr h.among;
              held = h.held;
              least = ((λ is. absurd (let f : false ≡ true = sym e ∙ is in cc)), h.least);
            }
      ] refl is

  none_found : (a : ℕ) (cs : List (ℕ × X)) → found range_of cs a ≡ None
      → AllByRecursion (λ c. holds (range_of c.1) a ≡ false) cs
  none_found a [] is = tt
  none_found a (c ∷ cs) is =
      elim (holds (range_of c.1) a)
      as (λ b. holds (range_of c.1) a ≡ b → cond b (Some c) (found range_of cs a) ≡ None
      → AllByRecursion (λ c. holds (range_of c.1) a ≡ false) (c ∷ cs)) [
        | true ↦ λ e here. absurd cc
        | false ↦ λ e later. (e, none_found a cs later)
      ] refl is

  -- the first so far stays where no later one goes before it
  stays : (p : X → Bool) (z : ℕ × X) (n : ℕ) (xs : List X) → z.0 < n
      → AllByRecursion (λ d. p d.1 ≡ true → ranked_before d z ≡ false) (enumerate_from n xs)
      → fold (better before) (Some z.1) (filter p xs) ≡ Some z.1
  stays p z n [] past least = refl
  stays p z n (x ∷ xs) past least =
      elim (p x) as (λ b. p x ≡ b
      → fold (better before) (Some z.1) (cond b (x ∷ filter p xs) (filter p xs)) ≡ Some z.1) [
        | true ↦ λ e. let kept : before x z.1 ≡ false =
            then_less (order x z.1) (nat_cmp n z.0) (least.0 e) in
            subst (λ b. fold (better before) (Some (cond b x z.1)) (filter p xs) ≡ Some z.1)
            (sym kept) (stays p z (n + 1) xs (omega arith) least.1)
        | false ↦ λ e. stays p z (n + 1) xs (omega arith) least.1
      ] refl

  -- the first so far is one that z goes before, or there is none
  abbrev Yields : ℕ × X → Option X → Type 0
  Yields z None = Unit {0}
  Yields z (Some w) = before z.1 w ≡ true

  yields_here : (p : X → Bool) (z : ℕ × X) (acc : Option X) → Yields z acc
      → better before acc z.1 ≡ Some z.1
  yields_here p z None h = refl
  yields_here p z (Some w) h = rw h refl

  yields_on : (z : ℕ × X) (acc : Option X) (x : X) → Yields z acc → before z.1 x ≡ true
      → Yields z (better before acc x)
  yields_on z None x h e = e
  yields_on z (Some w) x h e =
      elim (before x w) as (λ b. before z.1 (cond b x w) ≡ true) [ true ↦ e | false ↦ h ]

  goes_before : (z : ℕ × X) (n : ℕ) (x : X) → n < z.0 → ranked_before (n, x) z ≡ false
      → before z.1 x ≡ true
  goes_before z n x lt h =
      let less : nat_cmp n z.0 ≡ Ordering.Less =
      (let t : ltb n z.0 ≡ true = grind (arith, nat_tests) in rw t refl) in
      let greater : order x z.1 ≡ Ordering.Greater =
      then_greater (order x z.1) (nat_cmp n z.0) h less in
      ap is_lt (total.antisymm z.1 x ∙ ap ordering_reverse greater)

  later_index : (z : ℕ × X) (n : ℕ) (xs : List X) → Among z (enumerate_from n xs) → n ≤ z.0
  later_index z n [] is = absurd is
  later_index z n (x ∷ xs) (inl e) = let f : n ≡ z.0 = ap (λ (c : ℕ × X). c.0) e in omega arith
  later_index z n (x ∷ xs) (inr later) = omega (arith, later_index z (n + 1) xs later)

  -- a statement that passes and that no other one that passes goes before, indexes considered,
  -- is the first
  is_first : (p : X → Bool) (z : ℕ × X) (n : ℕ) (xs : List X) (acc : Option X)
      → Among z (enumerate_from n xs) → p z.1 ≡ true
      → AllByRecursion (λ d. p d.1 ≡ true → ranked_before d z ≡ false) (enumerate_from n xs)
      → Yields z acc → fold (better before) acc (filter p xs) ≡ Some z.1
  is_first p z n [] acc is passes least h = absurd is
  is_first p z n (x ∷ xs) acc (inl e) passes least h =
      let same : x ≡ z.1 = ap (λ (c : ℕ × X). c.1) e in
      let index : n ≡ z.0 = ap (λ (c : ℕ × X). c.0) e in
      let here : p x ≡ true = ap p same ∙ passes in
      rw here (ap (λ o. fold (better before) o (filter p xs)) (ap (better before acc) same
      ∙ yields_here p z acc h) ∙ stays p z (n + 1) xs (omega arith) least.1)
  is_first p z n (x ∷ xs) acc (inr later) passes least h =
      let index : n + 1 ≤ z.0 = later_index z (n + 1) xs later in
      elim (p x) as (λ b. p x ≡ b
      → fold (better before) acc (cond b (x ∷ filter p xs) (filter p xs)) ≡ Some z.1) [
        | true ↦ λ e. is_first p z (n + 1) xs (better before acc x) later passes least.1
            (yields_on z acc x h (goes_before z n x (omega arith) (least.0 e)))
        | false ↦ λ e. is_first p z (n + 1) xs acc later passes least.1 h
      ] refl

  nothing_passes : (p : X → Bool) (n : ℕ) (xs : List X)
      → AllByRecursion (λ d. p d.1 ≡ false) (enumerate_from n xs) → filter p xs ≡ []
  nothing_passes p n [] h = refl
  nothing_passes p n (x ∷ xs) h = rw h.0 (nothing_passes p (n + 1) xs h.1)

  -- a statement with its index stands at that index
  own_index : (zs : List X) (n : ℕ) (xs : List X)
      → ((k : ℕ) → slice_get zs (n + k) ≡ slice_get xs k)
      → AllByRecursion (λ c. slice_get zs c.0 ≡ Some c.1) (enumerate_from n xs)
  own_index zs n [] h = tt
  own_index zs n (x ∷ xs) h = (
    let e : n + 0 ≡ n = omega arith in rw e at (h 0),
    own_index zs (n + 1) xs (λ k. let e : n + suc k ≡ n + 1 + k = omega arith in
        rw e at (h (suc k))),
  )

  -- what holds of all statements with their indexes, in either order
  module _ (xs : List X) (cs : List (ℕ × X)) (same : IsPermutation (enumerate_from 0 xs) cs) where
    there : (P : ℕ × X → Type 0) → AllByRecursion P (enumerate_from 0 xs) → AllByRecursion P cs
    there P h =
        recursion_from_All P cs (All-permutation P (enumerate_from 0 xs) cs same
        (All-from_recursion P (enumerate_from 0 xs) h))

    pub back : (P : ℕ × X → Type 0) → AllByRecursion P cs → AllByRecursion P (enumerate_from 0 xs)
    back P h =
        recursion_from_All P (enumerate_from 0 xs) (All-permutation P cs (enumerate_from 0 xs)
        (IsPermutation-sym (enumerate_from 0 xs) cs same) (All-from_recursion P cs h))

    pub found_first : (a : ℕ) → Ranked a cs → option_and_then (slice_get xs)
        (option_map (λ (c : ℕ × X). c.0) (found range_of cs a)) ≡ first_at before range_of xs a
    found_first a up =
        elim (found range_of cs a) as (λ o. found range_of cs a ≡ o → option_and_then (slice_get xs)
        (option_map (λ (c : ℕ × X). c.0) o) ≡ first_at before range_of xs a) [
          | None ↦ λ is. sym (ap (first_of before) (nothing_passes (λ x. holds (range_of x) a) 0 xs
              (back (λ c. holds (range_of c.1) a ≡ false) (none_found a cs is))))
          | Some z ↦ λ is. let h = is_found a cs z up is in
              let member : Among z (enumerate_from 0 xs) =
              among_from_contains z (enumerate_from 0 xs) (Contains-permutation cs
              (enumerate_from 0 xs) z (IsPermutation-sym (enumerate_from 0 xs) cs same)
              (contains_from_among z cs h.among)) in
              let at : slice_get xs z.0 ≡ Some z.1 =
              all_among (λ (c : ℕ × X). slice_get xs c.0 ≡ Some c.1) z (enumerate_from 0 xs)
              (own_index xs 0 xs (λ k. let e : 0 + k ≡ k = omega arith in rw e refl)) member in
              at ∙ sym (is_first (λ x. holds (range_of x) a) z 0 xs None member h.held
              (back (λ d. holds (range_of d.1) a ≡ true → ranked_before d z ≡ false) h.least) tt)
        ] refl

    -- the same for the first in the order among those that hold
    pub best_first : (a : ℕ) → option_and_then (slice_get xs) (option_map (λ (c : ℕ × X). c.0)
        (first_at ranked_before (λ c. range_of c.1) cs a)) ≡ first_at before range_of xs a
    best_first a =
        let p : ℕ × X → Bool = λ c. holds (range_of c.1) a in
        elim (first_of ranked_before (filter p cs)) as (λ o. IsFirst ranked_before (filter p cs) o
        → option_and_then (slice_get xs) (option_map (λ (c : ℕ × X). c.0) o)
        ≡ first_at before range_of xs a) [
          | None ↦ λ none. sym (ap (first_of before) (nothing_passes (λ x. holds (range_of x) a) 0
              xs (back (λ c. holds (range_of c.1) a ≡ false) (kept_none p cs none))))
          | Some z ↦ λ h.
              let kept = among_kept p z cs (among_from_contains z (filter p cs) h.0) in
              let least = least_kept p (λ d. ranked_before d z ≡ false) cs
              (recursion_from_All (λ d. ranked_before d z ≡ false) (filter p cs) h.1) in
              let member : Among z (enumerate_from 0 xs) =
              among_from_contains z (enumerate_from 0 xs) (Contains-permutation cs
              (enumerate_from 0 xs) z (IsPermutation-sym (enumerate_from 0 xs) cs same)
              (contains_from_among z cs kept.0)) in
              let at : slice_get xs z.0 ≡ Some z.1 =
              all_among (λ (c : ℕ × X). slice_get xs c.0 ≡ Some c.1) z (enumerate_from 0 xs)
              (own_index xs 0 xs (λ k. let e : 0 + k ≡ k = omega arith in rw e refl)) member in
              at ∙ sym (is_first (λ x. holds (range_of x) a) z 0 xs None member kept.1
              (back (λ d. holds (range_of d.1) a ≡ true → ranked_before d z ≡ false) least) tt)
        ] (first_is_first ranked_before (ranks_by index_total (λ (x : ℕ × X). x)) (filter p cs))

    -- what a sort of all statements with their indexes, and the boundaries of their ranges, tell
    pub tells_first : (bs : List Boundary)
        → IsSortedBy ranked_before cs → AreBoundaries (map (λ (c : ℕ × X). range_of c.1) cs) bs
        → TellsFirst order range_of xs (map (with_index (map (λ (c : ℕ × X). c.0) cs)) bs)
    tells_first bs sorted h a within =
        ap (option_and_then (slice_get xs)) (told_indexes (map (λ (c : ℕ × X). c.0) cs) None bs a
        ∙ ap (option_and_then (slice_get (map (λ (c : ℕ × X). c.0) cs))) (h.tell a within)
        ∙ by_rank a cs)
        ∙ found_first a (ranked a cs (in_order cs
        (sorted_far ranked_before (ranks_by index_total (λ (x : ℕ × X). x)) cs sorted)))

    each_of : (P : X → Type 0) (n : ℕ) (ys : List X)
        → AllByRecursion (λ c. P c.1) (enumerate_from n ys) → AllByRecursion P ys
    each_of P n [] h = tt
    each_of P n (y ∷ ys) h = (h.0, each_of P (n + 1) ys h.1)

    -- what holds of all statements, from the same with their indexes
    pub all_kept : (P : X → Type 0) → AllByRecursion (λ c. P c.1) cs → All P xs
    all_kept P h = All-from_recursion P xs (each_of P 0 xs (back (λ c. P c.1) h))

-- boundaries with indexes stand where they stood
pub stands_indexes : (indexes : List ℕ) (bs : List Boundary) (c : ℕ)
    → stands_at (map (with_index indexes) bs) c ≡ stands_at bs c
stands_indexes indexes [] c = refl
stands_indexes indexes (b ∷ bs) c = ap (λ v. eqb b.at c || v) (stands_indexes indexes bs c)
