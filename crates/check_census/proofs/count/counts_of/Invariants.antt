use Rattle.std.proofs.Common.{◌≡◌}
use Rattle.check_census.specs.Counts.{counts_of}
use Rattle.check_census.proofs.count.counts_of.Given as goal

abbrev pub invariant-loop-number : goal.invariant-loop-number
invariant-loop-number l = l.counts.items ≡ counts_of l.places l.fn.v4 l.v6 l.number
