-- The first member in an order does not depend on how the list stands, where members that tie are
-- equal.
use Rattle.std.proofs.Common.{◌≡◌, Bool, true, false, cond, List, [], ◌∷◌, Some, None, refl, sym}
use Rattle.std.proofs.Common.{ap, ◌∙◌, subst, inl, inr}
use Rattle.std.specs.Cmp.{IsStrictWeakOrder}
use Rattle.std.specs.List.{AllByRecursion, filter}
use Rattle.std.specs.List.Sorted.{IsPermutation}
use Rattle.std.proofs.lemmas.List.Elements.{All-from_recursion, recursion_from_All}
use Rattle.std.proofs.lemmas.List.Sorted.{All-permutation, Contains-permutation, IsPermutation-sym}
use Rattle.geo_terms.specs.First.{IsFirst, first_of}
use Rattle.geo_terms.proofs.FirstLemmas.{first_is_first}
use Rattle.geo_terms.proofs.Members.{Among, all_among, among_filter, among_from_contains}
use Rattle.geo_terms.proofs.Members.{contains_from_among, all_filter, none_kept}

among_kept : {X : Type 0} (p : X → Bool) (x : X) (xs : List X) → Among x (filter p xs)
    → Among x xs × (p x ≡ true)
among_kept p x [] is = absurd is
among_kept p x (y ∷ ys) is =
    elim (p y) as (λ b. p y ≡ b → Among x (cond b (y ∷ filter p ys) (filter p ys))
    → Among x (y ∷ ys) × (p x ≡ true)) [
      | true ↦ λ e. elim [
        | inl here ↦ (inl here, subst (λ z. p z ≡ true) here e)
        | inr later ↦ let h = among_kept p x ys later in (inr h.0, h.1)
      ]
      | false ↦ λ e later. let h = among_kept p x ys later in (inr h.0, h.1)
    ] refl is

all_kept : {X : Type 0} (p : X → Bool) (P : X → Type 0) (xs : List X)
    → AllByRecursion P (filter p xs) → AllByRecursion (λ x. p x ≡ true → P x) xs
all_kept p P [] all = tt
all_kept p P (x ∷ xs) all =
    elim (p x) as (λ b. p x ≡ b → AllByRecursion P (cond b (x ∷ filter p xs) (filter p xs))
    → AllByRecursion (λ x. p x ≡ true → P x) (x ∷ xs)) [
      | true ↦ λ e h. ((λ _. h.0), all_kept p P xs h.1)
      | false ↦ λ e h. ((λ is. absurd (let f : false ≡ true = sym e ∙ is in cc)), all_kept p P xs h)
    ] refl all

each_among : {X : Type 0} (P : X → Type 0) (xs : List X) → ((x : X) → Among x xs → P x)
    → AllByRecursion P xs
each_among P [] h = tt
each_among P (x ∷ xs) h = (h x (inl refl), each_among P xs (λ y is. h y (inr is)))

module _ {X : Type 0} (before : X → X → Bool) (order : IsStrictWeakOrder before) where
  -- a member that no other goes before, and with which no other one ties, is the first
  pub first_is : (xs : List X) (b : X) → Among b xs → AllByRecursion (λ y. before y b ≡ false) xs
      → ((y : X) → Among y xs → before y b ≡ false → before b y ≡ false → y ≡ b)
      → first_of before xs ≡ Some b
  first_is xs b is least ties =
      elim (first_of before xs) as (λ o. IsFirst before xs o → o ≡ Some b) [
        | None ↦ λ h. absurd (subst (λ (zs : List X). Among b zs) h is)
        | Some w ↦ λ h.
            let here : Among w xs = among_from_contains w xs h.0 in
            ap Some (ties w here (all_among (λ y. before y b ≡ false) w xs least here)
            (all_among (λ y. before y w ≡ false) b xs
            (recursion_from_All (λ y. before y w ≡ false) xs h.1) is))
      ] (first_is_first before order xs)

  -- what is first among those that pass, in a list that stands otherwise
  pub first_permuted : (p : X → Bool) (xs ys : List X) → IsPermutation xs ys
      → ((x y : X) → Among x ys → Among y ys → before x y ≡ false → before y x ≡ false → x ≡ y)
      → first_of before (filter p xs) ≡ first_of before (filter p ys)
  first_permuted p xs ys same ties =
      elim (first_of before (filter p xs)) as
      (λ o. IsFirst before (filter p xs) o → o ≡ first_of before (filter p ys)) [
        | None ↦ λ h. sym (ap (first_of before)
            (none_kept p ys (each_among (λ y. p y ≡ false) ys (nothing h))))
        | Some b ↦ λ h.
            let kept = among_kept p b xs (among_from_contains b (filter p xs) h.0) in
            let here : Among b ys = there b kept.0 in
            sym (first_is (filter p ys) b (among_filter p b ys here kept.1)
            (all_filter p (λ y. before y b ≡ false) ys
            (moved (λ y. p y ≡ true → before y b ≡ false)
            (all_kept p (λ y. before y b ≡ false) xs
            (recursion_from_All (λ y. before y b ≡ false) (filter p xs) h.1))))
            (λ y is before_b after_b. ties y b (among_kept p y ys is).0 here before_b after_b))
      ] (first_is_first before order (filter p xs))
    where
      there : (x : X) → Among x xs → Among x ys
      there x is = among_from_contains x ys
          (Contains-permutation xs ys x same (contains_from_among x xs is))

      back : (x : X) → Among x ys → Among x xs
      back x is = among_from_contains x xs
          (Contains-permutation ys xs x (IsPermutation-sym xs ys same)
          (contains_from_among x ys is))

      moved : (P : X → Type 0) → AllByRecursion P xs → AllByRecursion P ys
      moved P h = recursion_from_All P ys (All-permutation P xs ys same (All-from_recursion P xs h))

      nothing : filter p xs ≡ [] → (y : X) → Among y ys → p y ≡ false
      nothing none y is =
          elim (p y) as (λ b. p y ≡ b → b ≡ false) [
            | true ↦ λ e. absurd (subst (λ (zs : List X). Among y zs) none
                (among_filter p y xs (back y is) e))
            | false ↦ λ e. refl
          ] refl
