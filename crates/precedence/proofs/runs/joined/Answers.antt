use Rattle.std.proofs.Common.{◌≡◌, ◌∙◌, ℕ, List, [], Contains, length, inl, inr, arith, subst, sym}
use Rattle.std.proofs.lemmas.Bool.{eqb-true}
use Rattle.std.proofs.lemmas.List.Sorted.{IsPermutation-sym}
use Rattle.precedence.proofs.RunLemmas.{Run, in_run, moved_has}
use Rattle.precedence.proofs.runs.joined.Goals as goal

pub loop-points-init : goal.loop-points-init
loop-points-init c at =
    let runs : List Run = c.args.runs.items in
    let sorted : List Run = c.sort_unstable_by.new.self.items in (
      λ any.
          elim any [
            | inl has ↦ let none : Contains [] at =
                subst (λ (xs : List ℕ). Contains xs at) c.in_ok-points.ensures.items has in
                absurd (omega (arith, none.1))
            | inr there ↦ moved_has sorted runs at
                (IsPermutation-sym runs sorted c.sort_unstable_by.ensures.permutation) there
          ],
      λ has. inr (moved_has runs sorted at c.sort_unstable_by.ensures.permutation has),
    )

pub loop-points-preserved : goal.loop-points-preserved
loop-points-preserved c at =
    let step = c.in_ok-take_lowest.ensures.same at in
    let before = c.loop-points.invariant at in
    (λ any. before.0 (step.0 any), λ has. step.1 (before.1 has))

pub returns : goal.returns
returns c at =
    let left : List Run = c.loop-points.left.items in
    let count : c.loop-points.left.len ≡ length left = c.loop-points.left.ok.0 in
    let none : c.loop-points.left.len ≡ 0 =
    eqb-true c.loop-points.left.len 0 (sym c.is_empty.ensures ∙ c.loop-points-test.false) in
    let before = c.loop-points.invariant at in (
      λ has. before.0 (inl has),
      λ has.
          elim (before.1 has) [
            | inl there ↦ there
            | inr later ↦ absurd (omega (arith, count, none, (in_run left at later).2))
          ],
    )
