-- The report is a sort of all notes, of which those of several sources come in order already.
use Rattle.std.proofs.Common.{◌≡◌, ℕ, ◌+◌, true, false, cond, List, [], ◌∷◌, ◌++◌, Ordering, refl}
use Rattle.std.proofs.Common.{ap, ◌∙◌, arith, append_assoc}
use Rattle.std.specs.List.Sorted.{IsPermutation, IsSortedBy}
use Rattle.std.specs.Ordering.{is_le, is_lt}
use Rattle.authority.proofs.NoteOrder.{note_exact, note_total}
use Rattle.authority.proofs.Ordered.{order_alike, sorted_in_order}
use Rattle.authority.specs.Members.{HaveAlike, weight}
use Rattle.geo_terms.specs.NoteText.{note_cmp}
use Rattle.geo_terms.specs.Report.{alias_notes, in_order, joint_notes, put_in, reader_notes, report}
use Rattle.geo_terms.specs.Sources.{InForce}
use Rattle.geo_terms.specs.declared.note.Note.{Note}

put_weight : {X : Type 0} (cmp : X → X → Ordering) (f : X → ℕ) (x : X) (ys : List X)
    → weight f (put_in cmp x ys) ≡ f x + weight f ys
put_weight cmp f x [] = refl
put_weight cmp f x (y ∷ ys) =
    elim (is_le (cmp x y))
    as (λ b. weight f (cond b (x ∷ y ∷ ys) (y ∷ put_in cmp x ys)) ≡ f x + (f y + weight f ys)) [
      | true ↦ refl
      | false ↦ omega (arith, put_weight cmp f x ys)
    ]

order_weight : {X : Type 0} (cmp : X → X → Ordering) (f : X → ℕ) (xs : List X)
    → weight f (in_order cmp xs) ≡ weight f xs
order_weight cmp f [] = refl
order_weight cmp f (x ∷ xs) =
    put_weight cmp f x (in_order cmp xs) ∙ ap (λ n. f x + n) (order_weight cmp f xs)

weight_append : {X : Type 0} (f : X → ℕ) (xs ys : List X)
    → weight f (xs ++ ys) ≡ weight f xs + weight f ys
weight_append f [] ys = omega arith
weight_append f (x ∷ xs) ys = omega (arith, weight_append f xs ys)

-- what comes first may as well come second, in another order
moved_back : {X : Type 0} (cmp : X → X → Ordering) (xs ys zs : List X)
    → HaveAlike (ys ++ (xs ++ zs)) (in_order cmp xs ++ (ys ++ zs))
moved_back cmp xs ys zs f =
    omega (
      arith,
      order_weight cmp f xs,
      weight_append f (in_order cmp xs) (ys ++ zs),
      weight_append f ys zs,
      weight_append f ys (xs ++ zs),
      weight_append f xs zs,
    )

-- all notes, sorted
pub report_is_sorted : (s : InForce) (notes sorted : List Note)
    → notes ≡ (in_order note_cmp (joint_notes s) ++ reader_notes s) ++ alias_notes s
    → IsPermutation notes sorted
    → IsSortedBy (λ x y. is_lt (note_cmp x y)) sorted → sorted ≡ report s
unfolding report
report_is_sorted s notes sorted are same up =
    sorted_in_order note_cmp note_total note_exact notes sorted same up
    ∙ ap (in_order note_cmp)
    (are ∙ append_assoc (in_order note_cmp (joint_notes s)) (reader_notes s) (alias_notes s))
    ∙ order_alike note_cmp note_total note_exact
    (reader_notes s ++ (joint_notes s ++ alias_notes s))
    (in_order note_cmp (joint_notes s) ++ (reader_notes s ++ alias_notes s))
    (moved_back note_cmp (joint_notes s) (reader_notes s) (alias_notes s))
