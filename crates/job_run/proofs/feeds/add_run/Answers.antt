-- What was parsed stands behind what was before.
use Rattle.std.proofs.Common.{◌++◌, refl, rules}
use Rattle.job_run.proofs.FeedLemmas.{parses_joined}
use Rattle.job_run.proofs.feeds.add_run.Goals as goal

pub returns : goal.returns
returns g c done before =
    parses_joined done c.args.run.items (done ++ c.args.run.items) c.args.parsed.now.items
    c.in_ok-found.found.items c.learn.new.parsed.items refl before
    (search rules) c.in_ok-learn.ensures
