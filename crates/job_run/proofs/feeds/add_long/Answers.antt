-- What was parsed stands behind what was before.
use Rattle.std.proofs.Common.{[], ◌∷◌, ◌++◌, refl}
use Rattle.job_run.proofs.FeedLemmas.{parses_joined}
use Rattle.job_run.proofs.feeds.add_long.Goals as goal

pub returns : goal.returns
returns g c done before =
    parses_joined done (c.args.held ∷ []) (done ++ (c.args.held ∷ [])) c.args.parsed.now.items
    c.in_ok-found.found.items c.learn.new.parsed.items refl before
    c.in_ok-found.ensures.related c.in_ok-learn.ensures
