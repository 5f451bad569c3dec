-- What one pass over two lists in order finds is what changed between them.
use Rattle.std.proofs.Common.{◌≡◌, ◌⊎◌, ℕ, suc, ◌+◌, ◌-◌, true, false, cond, List, [], ◌∷◌, map}
use Rattle.std.proofs.Common.{get_or, inl, inr, Ordering, Less, Equal, Greater, refl, sym, ap, ◌∙◌}
use Rattle.std.proofs.Common.{subst, is_lt, is_eq, arith}
use Rattle.std.specs.Cmp.{IsEquivalence, IsTotalOrder}
use Rattle.std.specs.List.{AllByRecursion}
use Rattle.std.specs.List.Sorted.{IsPermutation, IsSorted}
use Rattle.std.specs.Ordering.{eq_by_cmp, match_ordering, ordering_reverse}
use Rattle.std.proofs.lemmas.Cmp.{alike_right, eq_by_cmp_equiv}
use Rattle.std.proofs.lemmas.List.Elements.{recursion_from_All}
use Rattle.std.proofs.lemmas.List.Sorted.{ranks_by, sorted_far}
use Rattle.source_changes.specs.Changed.{changed}
use Rattle.source_changes.specs.Merging.{differing, past}
use Rattle.source_changes.proofs.Counts.{moved_by_times, one, one_same, times, times_changed}
use Rattle.source_changes.proofs.Counts.{times_moved}

module _ {X : Type 0} (order : X → X → Ordering) (total : IsTotalOrder order) where
  pub alike : IsEquivalence (eq_by_cmp order)
  alike = eq_by_cmp_equiv total

  -- a list in order, by recursion
  abbrev pub Rises : List X → Type 0
  Rises [] = Unit {0}
  Rises (x ∷ xs) = AllByRecursion (λ y. is_lt (order y x) ≡ false) xs × Rises xs

  pub rises : (xs : List X) → IsSorted order xs → Rises xs
  rises [] h = tt
  rises (x ∷ xs) h = (
    recursion_from_All (λ y. is_lt (order y x) ≡ false) xs
        (λ k d below. sorted_far (λ x y. is_lt (order x y)) (ranks_by total (λ x. x)) (x ∷ xs) h 0
        (suc k) d (omega arith) (omega arith)),
    rises xs (λ k d low below.
        let next : suc k + 1 ≡ suc (k + 1) = omega arith in
        subst (λ (j : ℕ). is_lt (order (get_or (x ∷ xs) j d) (get_or xs k d)) ≡ false) next
        (h (suc k) d (omega arith) (omega arith))),
  )

  tied_is : (o : Ordering) → is_eq o ≡ true → o ≡ Equal
  tied_is Less e = absurd (let f : false ≡ true = e in cc)
  tied_is Equal e = refl
  tied_is Greater e = absurd (let f : false ≡ true = e in cc)

  -- what is less than one member is less than those that are not less than it
  less_upto : (x y z : X) → order x y ≡ Less → is_lt (order z y) ≡ false → order x z ≡ Less
  less_upto x y z less not_less =
      elim (order z y) as (λ o. order z y ≡ o → is_lt o ≡ false → order x z ≡ Less) [
        | Less ↦ λ e h. absurd (let f : true ≡ false = h in cc)
        | Equal ↦ λ e h. alike_right total z y x e ∙ less
        | Greater ↦ λ e h. total.trans x y z less (total.antisymm y z ∙ ap ordering_reverse e)
      ] refl not_less

  other_one : (k x z : X) → is_eq (order k x) ≡ true → order x z ≡ Less
      → one (eq_by_cmp order) alike k z ≡ 0
  unfolding one
  other_one k x z same less =
      let e : order k z ≡ Less = total.congr k x z (tied_is (order k x) same) ∙ less in
      ap (λ o. cond (is_eq o) 1 0) e

  -- what is less than the first of a list in order does not stand in it
  none_above : (k x : X) (ys : List X) → is_eq (order k x) ≡ true
      → AllByRecursion (λ z. order x z ≡ Less) ys → times (eq_by_cmp order) alike k ys ≡ 0
  none_above k x [] same h = refl
  none_above k x (z ∷ zs) same h =
      let first : one (eq_by_cmp order) alike k z ≡ 0 = other_one k x z same h.0 in
      let rest : times (eq_by_cmp order) alike k zs ≡ 0 = none_above k x zs same h.1 in
      omega arith

  all_less : (x y : X) (ys : List X)
      → order x y ≡ Less → AllByRecursion (λ z. is_lt (order z y) ≡ false) ys
      → AllByRecursion (λ z. order x z ≡ Less) ys
  all_less x y [] less h = tt
  all_less x y (z ∷ zs) less h = (less_upto x y z less h.0, all_less x y zs less h.1)

  -- so a statement is not the one that is less, or stands nowhere in the other list
  here_or_there : (k x y : X) (ys : List X) → order x y ≡ Less → Rises (y ∷ ys)
      → (one (eq_by_cmp order) alike k x ≡ 0) ⊎ (times (eq_by_cmp order) alike k (y ∷ ys) ≡ 0)
  unfolding one
  here_or_there k x y ys less up =
      elim (is_eq (order k x)) as (λ b. is_eq (order k x) ≡ b
      → (◌≡◌ {A = ℕ} (cond b 1 0) 0) ⊎ (times (eq_by_cmp order) alike k (y ∷ ys) ≡ 0)) [
        | true ↦ λ e. inr (none_above k x (y ∷ ys) e (less, all_less x y ys less up.0))
        | false ↦ λ e. inl refl
      ] refl

  -- how far apart two counts are
  abbrev pub apart : ℕ → ℕ → ℕ
  apart m n = (m - n) + (n - m)

  more_left : (one here there rest : ℕ) → (one ≡ 0) ⊎ (there ≡ 0) → rest ≡ apart here there
      → one + rest ≡ apart (one + here) there
  more_left one here there rest (inl none) e = omega arith
  more_left one here there rest (inr none) e = omega arith

  more_right : (one here there rest : ℕ) → (one ≡ 0) ⊎ (here ≡ 0) → rest ≡ apart here there
      → one + rest ≡ apart here (one + there)
  more_right one here there rest (inl none) e = omega arith
  more_right one here there rest (inr none) e = omega arith

  times_past : (k x : X) (xs : List X) (rest : List X → List X) → Rises (x ∷ xs)
      → ((ys : List X) → Rises ys → times (eq_by_cmp order) alike k (rest ys)
      ≡ apart (times (eq_by_cmp order) alike k xs) (times (eq_by_cmp order) alike k ys))
      → (ys : List X) → Rises ys → times (eq_by_cmp order) alike k (past order x rest ys)
      ≡ apart (times (eq_by_cmp order) alike k (x ∷ xs)) (times (eq_by_cmp order) alike k ys)
  times_past k x xs rest up is [] up' = let e = is [] tt in omega arith
  times_past k x xs rest up is (y ∷ ys) up' =
      elim (order x y) as (λ o. order x y ≡ o → times (eq_by_cmp order) alike k
      (match_ordering o (x ∷ rest (y ∷ ys)) (rest ys) (y ∷ past order x rest ys)) ≡ apart
      (times (eq_by_cmp order) alike k (x ∷ xs)) (times (eq_by_cmp order) alike k (y ∷ ys))) [
        | Less ↦ λ e.
            more_left (one (eq_by_cmp order) alike k x) (times (eq_by_cmp order) alike k xs)
            (times (eq_by_cmp order) alike k (y ∷ ys))
            (times (eq_by_cmp order) alike k (rest (y ∷ ys)))
            (here_or_there k x y ys e up') (is (y ∷ ys) up')
        | Equal ↦ λ e.
            let same : one (eq_by_cmp order) alike k x ≡ one (eq_by_cmp order) alike k y =
            one_same (eq_by_cmp order) alike k x y (ap is_eq e) in
            let found : times (eq_by_cmp order) alike k (rest ys)
            ≡ apart (times (eq_by_cmp order) alike k xs) (times (eq_by_cmp order) alike k ys) =
            is ys up'.1 in
            omega arith
        | Greater ↦ λ e.
            more_right (one (eq_by_cmp order) alike k y)
            (times (eq_by_cmp order) alike k (x ∷ xs)) (times (eq_by_cmp order) alike k ys)
            (times (eq_by_cmp order) alike k (past order x rest ys))
            (here_or_there k y x xs (total.antisymm y x ∙ ap ordering_reverse e) up)
            (times_past k x xs rest up is ys up'.1)
      ] refl

  pub times_differing : (k : X) (xs ys : List X)
      → Rises xs → Rises ys → times (eq_by_cmp order) alike k (differing order xs ys)
      ≡ apart (times (eq_by_cmp order) alike k xs) (times (eq_by_cmp order) alike k ys)
  times_differing k [] ys up up' = omega arith
  times_differing k (x ∷ xs) ys up up' =
      times_past k x xs (differing order xs) up (λ zs h. times_differing k xs zs up.1 h) ys up'

  -- what the pass finds in two lists that were put in order
  pub differing_is_changed : {Y : Type 0} (f : X → Y)
      → ((x y : X) → eq_by_cmp order x y ≡ true → f x ≡ f y) → (old new old' new' : List X)
      → IsPermutation old old' → IsPermutation new new' → IsSorted order old' → IsSorted order new'
      → IsPermutation (map f (changed (eq_by_cmp order) old new))
      (map f (differing order old' new'))
  differing_is_changed f f_same old new old' new' moved moved' up up' =
      moved_by_times (eq_by_cmp order) alike f f_same (changed (eq_by_cmp order) old new)
      (differing order old' new')
      (λ k.
      let t : List X → ℕ = times (eq_by_cmp order) alike k in
      let there : t (changed (eq_by_cmp order) old new) ≡ apart (t old) (t new) =
      times_changed (eq_by_cmp order) alike k old new in
      let found : t (differing order old' new') ≡ apart (t old') (t new') =
      times_differing k old' new' (rises old' up) (rises new' up') in
      there ∙ (λ i. apart (sym (times_moved (eq_by_cmp order) alike k old old' moved) i)
      (sym (times_moved (eq_by_cmp order) alike k new new' moved') i)) ∙ sym found)
