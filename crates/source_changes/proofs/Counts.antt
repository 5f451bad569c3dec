-- How often a statement stands in a list, and what that tells of lists that stand otherwise.
use Rattle.std.proofs.Common.{◌≡◌, ℕ, ◌+◌, ◌-◌, ◌<◌, ◌≤◌, Bool, true, false, cond, List, [], ◌∷◌}
use Rattle.std.proofs.Common.{◌++◌, map, refl, sym, ap, ◌∙◌, subst, arith}
use Rattle.std.specs.Cmp.{IsEquivalence}
use Rattle.std.specs.List.{AllZip, sum_by}
use Rattle.std.specs.List.Sorted.{IsPermutation}
use Rattle.std.proofs.lemmas.List.Sorted.{IsPermutation-cons, IsPermutation-map}
use Rattle.std.proofs.lemmas.List.Sorted.{IsPermutation-middle, IsPermutation-refl}
use Rattle.std.proofs.lemmas.List.Sorted.{IsPermutation-sym, IsPermutation-trans}
use Rattle.std.proofs.lemmas.List.Sorted.{sum_by-IsPermutation}
use Rattle.std.proofs.lemmas.List.Sums.{sum_by-cons}
use Rattle.source_changes.specs.Changed.{changed, take_out, without}

-- a test that answers as an equivalence does is one
pub as_equivalence : {X : Type 0} (same other : X → X → Bool)
    → ((x y : X) → same x y ≡ other x y) → IsEquivalence other → IsEquivalence same
as_equivalence same other is e = record {
  refl = λ x. is x x ∙ e.refl x;
  symm = λ x y. is x y ∙ e.symm x y ∙ sym (is y x);
  congr = λ x y z h. is x z ∙ e.congr x y z (sym (is x y) ∙ h) ∙ sym (is y z);
}

module _ {X : Type 0} (same : X → X → Bool) (e : IsEquivalence same) where
  unfoldable pub one : X → X → ℕ
  one k x = cond (same k x) 1 0

  abbrev pub times : X → List X → ℕ
  times k [] = 0
  times k (x ∷ xs) = one k x + times k xs

  -- what is the same counts the same
  pub one_same : (k x y : X) → same x y ≡ true → one k x ≡ one k y
  unfolding one
  one_same k x y h = ap (λ b. cond b 1 0) (e.symm k x ∙ e.congr x y k h ∙ e.symm y k)

  one_itself : (x : X) → one x x ≡ 1
  unfolding one
  one_itself x = ap (λ b. cond b 1 0) (e.refl x)

  one_most : (k x : X) → one k x ≤ 1
  unfolding one
  one_most k x =
      elim (same k x) as (λ b. cond b 1 0 ≤ 1) [ true ↦ omega arith | false ↦ omega arith ]

  -- no statement is the same as two that differ
  pub not_both : (k x y : X) → same x y ≡ false → one k x + one k y ≤ 1
  unfolding one
  not_both k x y differ =
      elim (same k x) as (λ b. same k x ≡ b → cond b 1 0 + cond (same k y) 1 0 ≤ 1) [
        | true ↦ λ h. let other : same k y ≡ false = e.congr k x y h ∙ differ in
            rw other (omega arith)
        | false ↦ λ h. elim (same k y) as (λ b. 0 + cond b 1 0 ≤ 1) [
          | true ↦ omega arith
          | false ↦ omega arith
        ]
      ] refl

  pub times_append : (k : X) (xs ys : List X) → times k (xs ++ ys) ≡ times k xs + times k ys
  times_append k [] ys = omega arith
  times_append k (x ∷ xs) ys =
      let rest : times k (xs ++ ys) ≡ times k xs + times k ys = times_append k xs ys in omega arith

  times_taken : (k y : X) (xs : List X) → times k (take_out same y xs) ≡ times k xs - one k y
  times_taken k y [] = omega arith
  times_taken k y (z ∷ zs) =
      elim (same y z) as (λ b. same y z ≡ b
      → times k (cond b zs (z ∷ take_out same y zs)) ≡ (one k z + times k zs) - one k y) [
        | true ↦ λ h. let alike : one k y ≡ one k z = one_same k y z h in omega arith
        | false ↦ λ h.
            let rest : times k (take_out same y zs) ≡ times k zs - one k y = times_taken k y zs in
            let few : one k y + one k z ≤ 1 = not_both k y z h in
            omega arith
      ] refl

  times_without : (k : X) (xs ys : List X) → times k (without same xs ys) ≡ times k xs - times k ys
  times_without k xs [] = omega arith
  times_without k xs (y ∷ ys) =
      let rest : times k (without same (take_out same y xs) ys)
      ≡ times k (take_out same y xs) - times k ys = times_without k (take_out same y xs) ys in
      let taken : times k (take_out same y xs) ≡ times k xs - one k y = times_taken k y xs in
      omega arith

  pub times_changed : (k : X) (old new : List X)
      → times k (changed same old new) ≡ (times k old - times k new) + (times k new - times k old)
  times_changed k old new =
      let both : times k (changed same old new)
      ≡ times k (without same old new) + times k (without same new old) =
      times_append k (without same old new) (without same new old) in
      let first : times k (without same old new) ≡ times k old - times k new =
      times_without k old new in
      let then : times k (without same new old) ≡ times k new - times k old =
      times_without k new old in
      omega arith

  times_sum : (k : X) (xs : List X) → times k xs ≡ sum_by (one k) xs
  times_sum k [] = refl
  times_sum k (x ∷ xs) = ap (λ n. one k x + n) (times_sum k xs) ∙ sym (sum_by-cons (one k) x xs)

  pub times_moved : (k : X) (xs ys : List X) → IsPermutation xs ys → times k ys ≡ times k xs
  times_moved k xs ys moved =
      times_sum k ys ∙ sum_by-IsPermutation (one k) xs ys moved ∙ sym (times_sum k xs)

  pub times_zipped : (k : X) (xs ys : List X) → AllZip (λ x y. same x y ≡ true) xs ys
      → times k xs ≡ times k ys
  times_zipped k [] [] h = refl
  times_zipped k [] (y ∷ ys) h = absurd h
  times_zipped k (x ∷ xs) [] h = absurd h
  times_zipped k (x ∷ xs) (y ∷ ys) h =
      let first : one k x ≡ one k y = one_same k x y h.0 in
      let rest : times k xs ≡ times k ys = times_zipped k xs ys h.1 in omega arith

  -- what stands in a list can be taken to its front
  to_front : (x : X) (ys : List X) → 0 < times x ys
      → (y : X) × (same x y ≡ true) × IsPermutation ys (y ∷ take_out same x ys)
  unfolding one
  to_front x [] some = absurd (omega arith)
  to_front x (z ∷ zs) some =
      elim (same x z) as (λ b. same x z ≡ b → 0 < cond b 1 0 + times x zs → (y : X)
      × (same x y ≡ true) × IsPermutation (z ∷ zs) (y ∷ cond b zs (z ∷ take_out same x zs))) [
        | true ↦ λ h more. (z, h, IsPermutation-refl (z ∷ zs))
        | false ↦ λ h more. further z (to_front x zs (omega arith))
      ] refl some
    where
      further : (z : X) → (y : X) × (same x y ≡ true) × IsPermutation zs (y ∷ take_out same x zs)
          → (y : X) × (same x y ≡ true) × IsPermutation (z ∷ zs) (y ∷ z ∷ take_out same x zs)
      further z (y, is, moved) = (
        y,
        is,
        IsPermutation-trans (z ∷ zs) (z ∷ y ∷ take_out same x zs)
            (y ∷ z ∷ take_out same x zs) (IsPermutation-cons z zs (y ∷ take_out same x zs) moved)
            (IsPermutation-middle (z ∷ []) y (take_out same x zs)),
      )

  module _ {Y : Type 0} (f : X → Y) (f_same : (x y : X) → same x y ≡ true → f x ≡ f y) where
    -- lists in which each statement stands as often are one list in two orders,
    -- but for what f does not see
    pub moved_by_times : (xs ys : List X)
        → ((k : X) → times k xs ≡ times k ys) → IsPermutation (map f xs) (map f ys)
    moved_by_times [] [] h = IsPermutation-refl []
    moved_by_times [] (y ∷ ys) h =
        let none : 0 ≡ one y y + times y ys = h y in let one_is : one y y ≡ 1 = one_itself y in
        absurd (omega arith)
    moved_by_times (x ∷ xs) ys h =
        let here : one x x + times x xs ≡ times x ys = h x in
        let one_is : one x x ≡ 1 = one_itself x in
        let (y, is, moved) = to_front x ys (omega arith) in
        let left : List X = take_out same x ys in
        let rest : IsPermutation (map f xs) (map f left) =
        moved_by_times xs left (λ k. let all : one k x + times k xs ≡ times k ys = h k in
        let taken : times k left ≡ times k ys - one k x = times_taken k x ys in omega arith) in
        IsPermutation-trans (f x ∷ map f xs) (f y ∷ map f left) (map f ys)
        (subst (λ (z : Y). IsPermutation (f x ∷ map f xs) (z ∷ map f left)) (f_same x y is)
        (IsPermutation-cons (f x) (map f xs) (map f left) rest))
        (IsPermutation-sym (map f ys) (map f (y ∷ left)) (IsPermutation-map f ys (y ∷ left) moved))

    -- what changed between two lists, and between two others that are as far apart
    pub changed_moves : (old new old' new' : List X)
        → ((k : X) → times k old + times k new' ≡ times k old' + times k new)
        → IsPermutation (map f (changed same old new)) (map f (changed same old' new'))
    changed_moves old new old' new' h =
        moved_by_times (changed same old new) (changed same old' new')
        (λ k.
        let far : times k old + times k new' ≡ times k old' + times k new = h k in
        let one_way : times k (changed same old new)
        ≡ (times k old - times k new) + (times k new - times k old) = times_changed k old new in
        let other : times k (changed same old' new')
        ≡ (times k old' - times k new') + (times k new' - times k old') =
        times_changed k old' new' in
        omega arith)
