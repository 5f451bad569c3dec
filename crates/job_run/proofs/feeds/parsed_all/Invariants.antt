-- All so far are parsed but the run.
use Rattle.job_run.specs.Feeds.{ParsesAllBut}
use Rattle.job_run.proofs.feeds.parsed_all.Given as goal

abbrev pub invariant-loop-one : goal.invariant-loop-one
invariant-loop-one g l = ParsesAllBut l.run.items l.yielded l.parsed.items
