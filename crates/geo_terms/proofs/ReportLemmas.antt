-- A list in order is a sorted permutation of the list.
use Rattle.std.proofs.Common.{◌≡◌, ℕ, zero, suc, ◌<◌, true, false, cond, List, []}
use Rattle.std.proofs.Common.{◌∷◌}
use Rattle.std.proofs.Common.{length, get_or, Ordering, refl, ap, ◌∙◌, arith}
use Rattle.std.specs.Cmp.{IsTotalOrder}
use Rattle.std.specs.List.Sorted.{IsPermutation, IsSorted}
use Rattle.std.specs.Ordering.{is_le, is_lt, ordering_reverse}
use Rattle.std.proofs.lemmas.Cmp.{nat_cmp_total, nat_list_cmp_total, on_total, then_total}
use Rattle.std.proofs.lemmas.List.Sorted.{IsPermutation-cons, IsPermutation-middle}
use Rattle.std.proofs.lemmas.List.Sorted.{IsPermutation-refl, IsPermutation-trans}
use native.Mathlib.Numerals.{unary_clauses}
use Rattle.geo_terms.specs.NoteText.{code_of, kind_rank, name_of, note_cmp}
use Rattle.geo_terms.specs.Report.{in_order, put_in}
use Rattle.geo_terms.specs.ReportOrder.{ReportsAreInOrder}
use Rattle.geo_terms.specs.declared.note.Note.{Note}

not_less : (o : Ordering) → is_le o ≡ true → is_lt (ordering_reverse o) ≡ false
not_less Ordering.Less e = refl
not_less Ordering.Equal e = refl
not_less Ordering.Greater e = absurd (let f : false ≡ true = e in cc)

not_more : (o : Ordering) → is_le o ≡ false → is_lt o ≡ false
not_more Ordering.Less e = absurd (let f : true ≡ false = e in cc)
not_more Ordering.Equal e = refl
not_more Ordering.Greater e = refl

module _ {X : Type 0} (cmp : X → X → Ordering) (total : IsTotalOrder cmp) where
  put_same : (x : X) (ys : List X) → IsPermutation (x ∷ ys) (put_in cmp x ys)
  put_same x [] = IsPermutation-refl (x ∷ [])
  put_same x (y ∷ ys) =
      elim (is_le (cmp x y))
      as (λ b. IsPermutation (x ∷ y ∷ ys) (cond b (x ∷ y ∷ ys) (y ∷ put_in cmp x ys))) [
        | true ↦ IsPermutation-refl (x ∷ y ∷ ys)
        | false ↦ IsPermutation-trans (x ∷ y ∷ ys) (y ∷ x ∷ ys) (y ∷ put_in cmp x ys)
            (IsPermutation-middle (x ∷ []) y ys)
            (IsPermutation-cons y (x ∷ ys) (put_in cmp x ys) (put_same x ys))
      ]

  order_same : (xs : List X) → IsPermutation xs (in_order cmp xs)
  order_same [] = IsPermutation-refl []
  order_same (x ∷ xs) =
      IsPermutation-trans (x ∷ xs) (x ∷ in_order cmp xs) (put_in cmp x (in_order cmp xs))
      (IsPermutation-cons x xs (in_order cmp xs) (order_same xs)) (put_same x (in_order cmp xs))

  -- none goes before the one in front of it, the first of which is this one
  abbrev Rises : X → List X → Type 0
  Rises x [] = Unit {0}
  Rises x (y ∷ ys) = (is_lt (cmp y x) ≡ false) × Rises y ys

  abbrev RisesAll : List X → Type 0
  RisesAll [] = Unit {0}
  RisesAll (x ∷ xs) = Rises x xs

  turned : (x y : X) → is_le (cmp x y) ≡ true → is_lt (cmp y x) ≡ false
  turned x y e = ap is_lt (total.antisymm y x) ∙ not_less (cmp x y) e

  put_behind : (w x : X) (ys : List X) → is_lt (cmp x w) ≡ false → Rises w ys
      → Rises w (put_in cmp x ys)
  put_behind w x [] low h = (low, tt)
  put_behind w x (y ∷ ys) low h =
      elim (is_le (cmp x y))
      as (λ b. is_le (cmp x y) ≡ b → Rises w (cond b (x ∷ y ∷ ys) (y ∷ put_in cmp x ys))) [
        | true ↦ λ e. (low, (turned x y e, h.1))
        | false ↦ λ e. (h.0, put_behind y x ys (not_more (cmp x y) e) h.1)
      ] refl

  put_rises : (x : X) (ys : List X) → RisesAll ys → RisesAll (put_in cmp x ys)
  put_rises x [] h = tt
  put_rises x (y ∷ ys) h =
      elim (is_le (cmp x y))
      as (λ b. is_le (cmp x y) ≡ b → RisesAll (cond b (x ∷ y ∷ ys) (y ∷ put_in cmp x ys))) [
        | true ↦ λ e. (turned x y e, h)
        | false ↦ λ e. put_behind y x ys (not_more (cmp x y) e) h
      ] refl

  order_rises : (xs : List X) → RisesAll (in_order cmp xs)
  order_rises [] = tt
  order_rises (x ∷ xs) = put_rises x (in_order cmp xs) (order_rises xs)

  rises_at : (x : X) (xs : List X) (k : ℕ) (d : X) → Rises x xs → k < length xs
      → is_lt (cmp (get_or xs k d) (get_or (x ∷ xs) k d)) ≡ false
  rises_at x [] k d h below = absurd (omega (arith, below))
  rises_at x (y ∷ ys) zero d h below = h.0
  rises_at x (y ∷ ys) (suc k) d h below = rises_at y ys k d h.1 (omega (arith, below))

  sorted_from : (xs : List X) → RisesAll xs → IsSorted cmp xs
  sorted_from [] h k d low below = absurd (omega (arith, below))
  sorted_from (x ∷ xs) h k d low below =
      simp unary_clauses (rises_at x xs k d h (omega (arith, below)))

note_total : IsTotalOrder note_cmp
unfolding note_cmp
note_total =
    then_total (on_total (λ (n : Note). kind_rank n.origin) nat_cmp_total)
    (then_total (on_total (λ (n : Note). name_of n.origin) nat_list_cmp_total)
    (then_total (on_total (λ (n : Note). n.line) nat_cmp_total)
    (on_total (λ (n : Note). code_of n.rule) nat_list_cmp_total)))

pub reports_are_in_order : ReportsAreInOrder
reports_are_in_order notes = record {
  same = order_same note_cmp note_total notes;
  sorted = sorted_from note_cmp note_total (in_order note_cmp notes)
      (order_rises note_cmp note_total notes);
}
