-- Lemmas on a set of things with numbers that finds each of them by its number.
use Rattle.std.proofs.Common.{◌≡◌, ◌≢◌, ◌⊎◌, inl, inr, ℕ, zero, suc, ◌+◌, ◌-◌, ◌^◌, ◌<◌, ◌≤◌}
use Rattle.std.proofs.Common.{Bool, true, false, List, [], ◌∷◌, ◌++◌, length, get_or, set}
use Rattle.std.proofs.Common.{replicate, slice_get, Option, Some, None, Contains, nat_lt}
use Rattle.std.proofs.Common.{get_or-set_same, get_or-set_other}
use Rattle.std.proofs.Common.{refl, sym, ◌∙◌, ap, subst, subst₂, arith, length-append}
use Rattle.std.specs.List.{position, position_or_len}
use Rattle.std.specs.Option.{SomeIff}
use Rattle.std.proofs.lemmas.Bool.{cases_lt, lt-ltb, ltb-true, ltb-false, false_from_ne_true}
use Rattle.std.proofs.lemmas.Option.{slice_get_read, slice_get-get_or}
use Rattle.std.proofs.lemmas.Option.{slice_get_within, get_or_from_slice_get}
use Rattle.std.proofs.lemmas.List.Quantifiers.{position-Some}
use Rattle.std.proofs.lemmas.List.Sums.{position_or_len_is}
use Rattle.trie_core.specs.Laws.{IsEquality}
use Rattle.trie_core.proofs.StoreLemmas.{slice_get-append, slice_get-push, slice_get_last}
use Rattle.trie_core.proofs.StoreLemmas.{slice_get-Contains, Contains-slice_get}
use Rattle.least_nodes.specs.Marks.{is_marked}
use Rattle.least_nodes.specs.NumberSet.{StandsFor, IsFoundBy, AreMarked}
use Rattle.least_nodes.proofs.MarksLemmas.{get_or-longer}

-- ---- lists

set_here : {X : Type 0} (xs : List X) (n : ℕ) (y : X) → n < length xs
    → slice_get (set xs n y) n ≡ Some y
set_here [] n y within = absurd (omega arith)
set_here (x ∷ xs) zero y within = refl
set_here (x ∷ xs) (suc n) y within = set_here xs n y (omega arith)

set_other : {X : Type 0} (xs : List X) (n m : ℕ) (y : X) → m ≢ n
    → slice_get (set xs n y) m ≡ slice_get xs m
set_other [] n m y other = refl
set_other (x ∷ xs) zero zero y other = absurd (other refl)
set_other (x ∷ xs) zero (suc m) y other = refl
set_other (x ∷ xs) (suc n) zero y other = refl
set_other (x ∷ xs) (suc n) (suc m) y other = set_other xs n m y (λ same. other (ap suc same))

slice_get_some : (xs : List ℕ) (n : ℕ) → 0 < get_or xs n 0
    → slice_get xs n ≡ Some (get_or xs n 0)
slice_get_some [] n some = absurd (omega (arith, some))
slice_get_some (x ∷ xs) zero some = refl
slice_get_some (x ∷ xs) (suc n) some = slice_get_some xs n some

-- a 0 stands for no position
none_stands : (k : ℕ) → Some 0 ≡ Some (k + 1) → ⊥
none_stands k is = let e : 0 ≡ k + 1 = cc in omega (arith, e)

zeros_only : (m n k : ℕ) → StandsFor (replicate m 0) n k → ⊥
zeros_only zero n k is = absurd (cc)
zeros_only (suc m) zero k is = none_stands k is
zeros_only (suc m) (suc n) k is = zeros_only m n k is

before_zeros : (xs : List ℕ) (m n k : ℕ) → StandsFor (xs ++ replicate m 0) n k → StandsFor xs n k
before_zeros [] m n k is = absurd (zeros_only m n k is)
before_zeros (x ∷ xs) m zero k is = is
before_zeros (x ∷ xs) m (suc n) k is = before_zeros xs m n k is

equal_or_not : (m n : ℕ) → (m ≡ n) ⊎ (m ≢ n)
equal_or_not m n = elim (cases_lt m n) [
  | inl less ↦ inr (λ same. omega (arith, less, same))
  | inr more ↦ elim (cases_lt n m) [
    | inl less ↦ inr (λ same. omega (arith, less, same))
    | inr even ↦ inl (omega (arith, more, even))
  ]
]

module _ {X : Type 0} (p : X → Bool) where
  -- the one element that passes is the first
  position-alone : (xs : List X) (k : ℕ) (x : X) → slice_get xs k ≡ Some x → p x ≡ true
      → ((j : ℕ) (y : X) → slice_get xs j ≡ Some y → p y ≡ true → j ≡ k)
      → position p xs ≡ Some k
  position-alone xs k x at passes alone = found ∙ ap Some first
    where
      within : k < length xs
      within = slice_get_within xs k x at

      before : (j : ℕ) → j < k → p (get_or xs j x) ≡ false
      before j less =
          false_from_ne_true (p (get_or xs j x)) (λ is.
          let there = slice_get-get_or xs j x (omega (arith, less, within)) in
          let same = alone j (get_or xs j x) there is in
          omega (arith, less, same))

      first : position_or_len p xs ≡ k
      first =
          let here = ap p (get_or_from_slice_get xs k x x at) ∙ passes in
          position_or_len_is p xs k x (omega (arith, within)) before (λ _. here)

      found : position p xs ≡ Some (position_or_len p xs)
      found =
          let less : position_or_len p xs < length xs = omega (arith, first, within) in
          rw (lt-ltb (position_or_len p xs) (length xs) less) refl

  position-nowhere : (xs : List X) → ((j : ℕ) (y : X) → slice_get xs j ≡ Some y → p y ≡ true → ⊥)
      → position p xs ≡ None
  position-nowhere [] none = refl
  position-nowhere (x ∷ xs) none = by (position p (x ∷ xs)) refl
    where
      by : (o : Option ℕ) → position p (x ∷ xs) ≡ o → position p (x ∷ xs) ≡ None
      by None is = is
      by (Some i) is =
          let there = position-Some p (x ∷ xs) i x is in
          let at = slice_get-get_or (x ∷ xs) i x there.0 in
          absurd (none i (get_or (x ∷ xs) i x) at there.1)

-- ---- the set

-- things of which no two have one number, and a test that tells equal ones from others
module _ {X : Type 0} (number_of : X → ℕ) (same : X → X → Bool) (equality : IsEquality same)
    (one : (x y : X) → number_of x ≡ number_of y → x ≡ y) where
  module _ (ids : List X) (next : List ℕ) (found : IsFoundBy number_of ids next) where
    -- a node stands at the position for which its number stands
    node_at : (id : X) (k : ℕ) → StandsFor next (number_of id) k → slice_get ids k ≡ Some id
    node_at id k is =
        let there = found.only (number_of id) k is in
        there.1 ∙ ap Some (one there.0 id there.2)

    -- and so its number stands for nothing where it is not in the set
    absent : (id : X) → ((k : ℕ) → StandsFor next (number_of id) k → ⊥) → Contains ids id → ⊥
    absent id none has =
        let at = slice_get-Contains ids id has in none at.0 (found.each at.0 id at.1)

    stands_alike : (id other : X) (j : ℕ) → same id other ≡ true
        → slice_get ids j ≡ Some other → StandsFor next (number_of id) j
    stands_alike id other j is at =
        let alike : id ≡ other = (equality id other).0 is in
        ap (λ (v : X). slice_get next (number_of v)) alike ∙ found.each j other at

    position_is : (id : X) (k : ℕ) → StandsFor next (number_of id) k
        → position (same id) ids ≡ Some k
    position_is id k is =
        let itself = (equality id id).1 refl in
        position-alone (same id) ids k id (node_at id k is) itself (λ j other at is_it.
        let both : Some (k + 1) ≡ Some (j + 1) = sym is ∙ stands_alike id other j is_it at in
        let e : k + 1 ≡ j + 1 = cc in
        omega (arith, e))

    no_position : (id : X) → ((k : ℕ) → StandsFor next (number_of id) k → ⊥)
        → position (same id) ids ≡ None
    no_position id none =
        position-nowhere (same id) ids (λ j other at is_it.
        none j (stands_alike id other j is_it at))

    -- more zeros stand for nothing
    pub IsFoundBy-zeros : (longer : List ℕ) (m : ℕ) → longer ≡ next ++ replicate m 0
        → IsFoundBy number_of ids longer
    IsFoundBy-zeros longer m is = subst (IsFoundBy number_of ids) (sym is) (record {
      few = found.few;
      each = λ k id at. slice_get-append next (replicate m 0) (number_of id) (k + 1)
          (found.each k id at);
      only = λ n k at. found.only n k (before_zeros next m n k at);
    })

    -- a new node goes last, and its number stands for its position
    IsFoundBy-push : (id : X) → slice_get next (number_of id) ≡ Some 0 → length ids + 1 < 2 ^ 32
        → IsFoundBy number_of (ids ++ id ∷ []) (set next (number_of id) (length ids + 1))
    IsFoundBy-push id free few =
        record { few = omega (arith, few, length-append ids (id ∷ [])); each = each; only = only }
      where
        put : List ℕ
        put = set next (number_of id) (length ids + 1)

        here : StandsFor put (number_of id) (length ids)
        here =
            set_here next (number_of id) (length ids + 1)
            (slice_get_within next (number_of id) 0 free)

        each : (k : ℕ) (x : X) → slice_get (ids ++ id ∷ []) k ≡ Some x
            → StandsFor put (number_of x) k
        each k x at = elim (slice_get-push ids id k x at) [
          | inl old ↦
              let stands = found.each k x old in
              let other : number_of x ≢ number_of id =
              λ even. none_stands k (sym free ∙ ap (slice_get next) (sym even) ∙ stands) in
              set_other next (number_of id) (number_of x) (length ids + 1) other ∙ stands
          | inr new ↦
              let last = ap (λ n. Some (n + 1)) (sym new.0) in
              ap (λ (y : X). slice_get put (number_of y)) new.1 ∙ here ∙ last
        ]

        only : (n k : ℕ) → StandsFor put n k
            → (x : X) × (slice_get (ids ++ id ∷ []) k ≡ Some x) × (number_of x ≡ n)
        only n k at = elim (equal_or_not n (number_of id)) [
          | inl even ↦
              let both : Some (length ids + 1) ≡ Some (k + 1) =
              sym here ∙ ap (slice_get put) (sym even) ∙ at in
              let e : length ids + 1 ≡ k + 1 = cc in
              let last : length ids ≡ k = omega (arith, e) in
              (id, ap (slice_get (ids ++ id ∷ [])) (sym last) ∙ slice_get_last ids id, sym even)
          | inr other ↦
              let before = sym (set_other next (number_of id) n (length ids + 1) other) ∙ at in
              let was = found.only n k before in
              (was.0, slice_get-append ids (id ∷ []) k was.0 was.1, was.2)
        ]

    -- a number past the list is of no node
    pub position_past : (id : X) (n : ℕ) → n ≡ number_of id → length next ≤ n
        → position (same id) ids ≡ None
    position_past id n number past =
        no_position id (λ k at.
        let within = slice_get_within next (number_of id) (k + 1) at in
        omega (arith, within, past, number))

  -- ---- what is marked

  module _ (ids : List X) (next words : List ℕ) (found : IsFoundBy number_of ids next)
      (marked : AreMarked next words) where
    -- zeros behind the list leave the marks as true as they were
    pub AreMarked-zeros : (longer : List ℕ) (m : ℕ) → longer ≡ next ++ replicate m 0
        → AreMarked longer words
    AreMarked-zeros longer m is n =
        marked n ∙ ap (nat_lt 0) (sym (ap (λ xs. get_or xs n 0) is ∙ get_or-longer next m n))

    module _ (id : X) (n : ℕ) (number : n ≡ number_of id) where
      -- a marked number stands for a position
      pub Contains-marked : is_marked words n ≡ true → Contains ids id
      Contains-marked is =
          let v : ℕ = get_or next n 0 in
          let some : 0 < v = ltb-true 0 v (sym (marked n) ∙ is) in
          let stands : StandsFor next (number_of id) (v - 1) =
          ap (slice_get next) (sym number) ∙ slice_get_some next n some
          ∙ ap Some (omega (arith, some)) in
          Contains-slice_get ids (v - 1) id (node_at ids next found id (v - 1) stands)

      none_unmarked : is_marked words n ≡ false → get_or next n 0 ≡ 0
      none_unmarked is =
          omega (arith, ltb-false 0 (get_or next n 0) (sym (marked n) ∙ is))

      -- and one that is not marked stands for none
      pub absent_unmarked : is_marked words n ≡ false → Contains ids id → ⊥
      absent_unmarked is =
          absent ids next found id (λ k stands.
          let read = get_or_from_slice_get next (number_of id) (k + 1) 0 stands in
          let none = none_unmarked is in
          omega (arith, read, none, ap (λ m. get_or next m 0) number))

      -- so its node can go last
      pub IsFoundBy-unmarked : n < length next → is_marked words n ≡ false → (put : ℕ)
          → put ≡ length ids + 1 → put < 2 ^ 32
          → IsFoundBy number_of (ids ++ id ∷ []) (set next n put)
      IsFoundBy-unmarked within is put last few =
          let free : slice_get next (number_of id) ≡ Some 0 =
          ap (slice_get next) (sym number)
          ∙ slice_get_read next (length next) n 0 refl within (sym (none_unmarked is)) in
          subst₂ (λ i p. IsFoundBy number_of (ids ++ id ∷ []) (set next i p)) (sym number)
          (sym last) (IsFoundBy-push ids next found id free (omega (arith, last, few)))

    -- a number that is put and marked
    pub AreMarked-put : (n put : ℕ) (later : List ℕ) → n < length next → 0 < put
        → is_marked later n ≡ true
        → ((m : ℕ) → m ≢ n → is_marked later m ≡ is_marked words m)
        → AreMarked (set next n put) later
    AreMarked-put n put later within some here others m =
        elim (equal_or_not m n) [
          | inl same ↦
              ap (is_marked later) same ∙ here
              ∙ sym (ap (λ i. nat_lt 0 (get_or (set next n put) i 0)) same
              ∙ ap (nat_lt 0) (get_or-set_same next n put 0 within) ∙ lt-ltb 0 put some)
          | inr other ↦
              others m other ∙ marked m
              ∙ ap (nat_lt 0) (sym (get_or-set_other next n m put 0 other))
        ]

  -- ---- what is read at the number of a node

  module _ (ids : List X) (next : List ℕ) (found : IsFoundBy number_of ids next) where
    module _ (id : X) (n v : ℕ) (number : n ≡ number_of id) (within : n < length next) where
      module _ (read : v ≡ get_or next n v) where
        reads : slice_get next (number_of id) ≡ Some v
        reads =
            ap (slice_get next) (sym number)
            ∙ slice_get_read next (length next) n v refl within read

        pub Contains-from_read : v ≢ 0 → Contains ids id
        Contains-from_read some = by v reads some
          where
            by : (m : ℕ) → slice_get next (number_of id) ≡ Some m → m ≢ 0 → Contains ids id
            by zero is none = absurd (none refl)
            by (suc k) is none =
                let stands : StandsFor next (number_of id) k = is ∙ ap Some (omega arith) in
                Contains-slice_get ids k id (node_at ids next found id k stands)

        free : v ≡ 0 → slice_get next (number_of id) ≡ Some 0
        free none = reads ∙ ap Some none

        pub absent_from_read : v ≡ 0 → Contains ids id → ⊥
        absent_from_read none =
            absent ids next found id (λ k is. none_stands k (sym (free none) ∙ is))

        pub IsFoundBy-put : v ≡ 0 → (put : ℕ) → put ≡ length ids + 1 → put < 2 ^ 32
            → IsFoundBy number_of (ids ++ id ∷ []) (set next n put)
        IsFoundBy-put none put is few =
            let pushed = IsFoundBy-push ids next found id (free none) (omega (arith, is, few)) in
            subst₂ (λ i p. IsFoundBy number_of (ids ++ id ∷ []) (set next i p)) (sym number)
            (sym is) pushed

        pub position_from_read : (o : Option ℕ) → SomeIff o (1 ≤ v) (v - 1)
            → o ≡ position (same id) ids
        position_from_read None is =
            sym (no_position ids next found id (λ k at.
            let both : Some v ≡ Some (k + 1) = sym reads ∙ at in
            let e : v ≡ k + 1 = cc in
            is (omega (arith, e))))
        position_from_read (Some w) is =
            let stands : StandsFor next (number_of id) (v - 1) =
            reads ∙ ap Some (omega (arith, is.0)) in
            ap Some is.1 ∙ sym (position_is ids next found id (v - 1) stands)
