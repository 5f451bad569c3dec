use Rattle.std.proofs.Common.{◌≡◌, map, Ok}
use Rattle.job_run.proofs.feeds.all_feeds.Given as goal

-- all so far are feeds
abbrev pub invariant-loop-found : goal.invariant-loop-found
invariant-loop-found l = l.yielded ≡ map Ok l.feeds.items
