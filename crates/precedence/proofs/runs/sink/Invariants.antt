use Rattle.std.specs.List.Sorted.{IsPermutation}
use Rattle.precedence.proofs.runs.sink.Given as goal

-- the runs are the same ones
abbrev pub invariant-loop : goal.invariant-loop
invariant-loop l = IsPermutation l.fn.runs.items l.runs.items
