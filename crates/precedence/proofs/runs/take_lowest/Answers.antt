use Rattle.std.proofs.Common.{List, ◌∷◌, subst, sym}
use Rattle.std.specs.List.Sorted.{IsPermutation}
use Rattle.std.proofs.lemmas.List.Sorted.{IsPermutation-swap_remove}
use Rattle.std.proofs.lemmas.Result.{on_ok_weaker}
use Rattle.precedence.proofs.RunLemmas.{Run, taken}
use Rattle.precedence.proofs.runs.take_lowest.Goals as goal

pub returns-clause-same : goal.returns-clause-same
returns-clause-same c =
    let left : List Run = c.args.left.now.items in
    let ys : List Run = c.swap_remove-run.new.self.items in
    let run : Run = c.swap_remove-run.result in
    let moved : IsPermutation left (run ∷ ys) =
    subst (λ (xs : List Run). IsPermutation left (run ∷ xs))
    (sym c.swap_remove-run.ensures.items)
    (IsPermutation-swap_remove left 0 run c.requires c.swap_remove-run.ensures.value) in
    on_ok_weaker c.put_back.result
    (taken c.args.points.now.items left ys c.put_back.new.left.items run
    c.split_at.result.0.now c.split_at.result.1.now c.extend_from_slice.new.self.items
    c.in_ok-extend_from_slice.ensures.items moved c.split_at.ensures.by_index.0)
    c.put_back.ensures.same
