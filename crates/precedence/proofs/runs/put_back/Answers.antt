use Rattle.std.proofs.Common.{◌≡◌, ◌+◌, ◌-◌, ◌<◌, ◌∙◌, Bool, List, ◌∷◌, cond, length}
use Rattle.std.proofs.Common.{inl, inr, arith, subst, sym}
use Rattle.std.specs.List.Sorted.{IsPermutation}
use Rattle.std.proofs.lemmas.Bool.{eqb-true}
use Rattle.std.proofs.lemmas.List.Sorted.{IsPermutation-swap, IsPermutation-sym}
use Rattle.std.proofs.lemmas.List.Sorted.{IsPermutation-trans, length_permutation}
use Rattle.precedence.proofs.RunLemmas.{Run, front_count, front_has, moved_count, moved_has}
use Rattle.precedence.proofs.RunLemmas.{pushed}
use Rattle.precedence.proofs.runs.put_back.Goals as goal

nothing : (c : goal.After-sink) → length c.args.run.now ≡ 0
nothing c = eqb-true (length c.args.run.now) 0 (sym c.is_empty.ensures ∙ c.if-is_empty.true)

pub returns-then-is_empty-clause-same : goal.returns-then-is_empty-clause-same
returns-then-is_empty-clause-same c at =
    let old : List Run = c.args.left.now.items in
    let new : List Run = c.sink.new.runs.items in
    let none : length c.args.run.now ≡ 0 = nothing c in (
      λ has. inl (moved_has new old at (IsPermutation-sym old new c.sink.ensures) has),
      λ any.
          elim any [
            | inl there ↦ moved_has old new at c.sink.ensures there
            | inr here ↦ absurd (omega (arith, none, here.1))
          ],
    )

pub returns-then-is_empty-clause-points : goal.returns-then-is_empty-clause-points
returns-then-is_empty-clause-points c =
    omega (
      arith,
      nothing c,
      moved_count c.args.left.now.items c.sink.new.runs.items
          c.sink.ensures,
    )

pub returns-then-is_empty-clause-runs : goal.returns-then-is_empty-clause-runs
returns-then-is_empty-clause-runs c =
    let old : List Run = c.args.left.now.items in
    let new : List Run = c.sink.new.runs.items in
    subst (λ (b : Bool). length new ≡ length old + cond b 0 1)
    (sym c.if-is_empty.true ∙ c.is_empty.ensures)
    (omega (arith, length_permutation old new c.sink.ensures))

-- what is pushed, moved to the front and moved down
back : (c : goal.After-sink-2)
    → IsPermutation (c.args.run ∷ c.args.left.now.items) c.sink-2.new.runs.items
back c =
    let whole : List Run = c.args.run ∷ c.args.left.now.items in
    let all : List Run = c.push.new.self.items in
    let first : IsPermutation whole all =
    pushed c.args.left.now.items all c.args.run c.in_ok-push.ensures.items in
    let count : length all ≡ length whole = length_permutation whole all first in
    let some : 0 < length all = omega (arith, count) in
    let long : c.len-last.result ≡ length all =
    c.len-last.ensures ∙ c.push.new.self.ok.0 in
    IsPermutation-trans whole all c.sink-2.new.runs.items first
    (IsPermutation-trans all c.swap.new.self.items c.sink-2.new.runs.items
    (IsPermutation-swap all c.swap.new.self.items 0 (c.len-last.result - 1) some
    (omega (arith, long, some)) c.swap.ensures.items) c.sink-2.ensures)

pub returns-clause-same : goal.returns-clause-same
returns-clause-same c at =
    front_has c.args.run c.args.left.now.items c.sink-2.new.runs.items at (back c)

pub returns-clause-points : goal.returns-clause-points
returns-clause-points c =
    front_count c.args.run c.args.left.now.items c.sink-2.new.runs.items (back c)

pub returns-clause-runs : goal.returns-clause-runs
returns-clause-runs c =
    let old : List Run = c.args.left.now.items in
    let new : List Run = c.sink-2.new.runs.items in
    let count : length new ≡ length (c.args.run ∷ old) =
    length_permutation (c.args.run ∷ old) new (back c) in
    subst (λ (b : Bool). length new ≡ length old + cond b 0 1)
    (sym c.if-is_empty.false ∙ c.is_empty.ensures) (omega (arith, count))
