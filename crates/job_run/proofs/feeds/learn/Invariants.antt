-- What was parsed before, and all so far behind it.
use Rattle.std.proofs.Common.{◌≡◌, ◌++◌}
use Rattle.job_run.proofs.feeds.learn.Given as goal

abbrev pub invariant-loop-one : goal.invariant-loop-one
invariant-loop-one l = l.parsed.items ≡ l.initial.parsed.items ++ l.yielded
