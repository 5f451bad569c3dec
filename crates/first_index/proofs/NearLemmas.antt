-- What is told is what the last boundary at or below the address tells.
use Rattle.std.proofs.Common.{◌≡◌, ◌∙◌, ◌+◌, ◌-◌, ◌≤◌, ◌<◌, ℕ, List, None, Some, get_or, length}
use Rattle.std.proofs.Common.{slice_get, eqb, false, arith, ap, sym}
use Rattle.std.proofs.lemmas.Bool.Decides.{nat_tests}
use Rattle.std.proofs.lemmas.Option.{slice_get-get_or}
use Rattle.first_index.specs.Boundaries.{told}
use Rattle.first_index.specs.Columns.{AreColumns, coded_index, of_columns}
use Rattle.first_index.proofs.ColumnLemmas.{rises, told_in}

-- a boundary that is not behind the address, where the next one is
pub told_here : (ps cs : List ℕ) (a i c : ℕ) → AreColumns ps cs → i < length ps
    → ((p : ℕ) → slice_get ps i ≡ Some p → p ≤ a)
    → ((p : ℕ) → slice_get ps (i + 1) ≡ Some p → a < p) → get_or cs i 0 ≡ c
    → coded_index c ≡ told None (of_columns ps cs) a
told_here ps cs a i c are within below next is_c =
    let here : get_or ps i 0 ≤ a = below (get_or ps i 0) (slice_get-get_or ps i 0 within) in
    let is = told_in None ps cs (i + 1) a are.same_length (omega arith)
    (λ k lt. let low : get_or ps k 0 ≤ get_or ps i 0 =
    rises ps are.ascending k i 0 (omega arith) within in omega (arith, here))
    (λ lt. next (get_or ps (i + 1) 0) (slice_get-get_or ps (i + 1) 0 lt)) in
    let there : eqb (i + 1) 0 ≡ false = grind (arith, nat_tests) in
    let back : i + 1 - 1 ≡ i = omega arith in
    sym (rw (there, back) at is ∙ ap coded_index is_c)
