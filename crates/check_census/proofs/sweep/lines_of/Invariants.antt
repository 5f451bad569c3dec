use Rattle.std.proofs.Common.{◌≡◌, take, map}
use Rattle.check_census.proofs.sweep.lines_of.Given as goal

abbrev pub invariant-loop-entry : goal.invariant-loop-entry
invariant-loop-entry l = l.lines.items ≡ map (λ e. e.line) (take l.entry-index l.entries)
