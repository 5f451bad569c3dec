use Rattle.std.proofs.Common.{◌≡◌, ◌-◌, ◌≤◌, length, take, true}
use Rattle.std.specs.List.{list_all}
use Rattle.job_run.specs.Moves.{most_together, sets_feed}
use Rattle.job_run.proofs.course.feeds_first.Given as goal

-- so many of the first steps set feeds
abbrev pub invariant-loop-count : goal.invariant-loop-count
invariant-loop-count l = record {
  few : l.count ≤ most_together;
  within : l.count ≤ length l.rest;
  feeds : list_all (λ s. sets_feed s.act) (take l.count l.rest) ≡ true;
}

abbrev pub decreases-loop-count : goal.decreases-loop-count
decreases-loop-count l = most_together - l.count
