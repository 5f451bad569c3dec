use Rattle.std.proofs.Common.{ap}
use Rattle.std.specs.FinMap as map
use Rattle.geofeed_cmd.specs.Run.Plans.{answered_in, unless_unreadable}
use Rattle.job_run.proofs.ActLemmas.{hindered}
use Rattle.geofeed_cmd.proofs.commands.lookup.answer_in.Goals as goal

pub returns-in-Err-clause-none : goal.returns-in-Err-clause-none
returns-in-Err-clause-none g c first told =
    hindered c.in-Err.why _ _ (c.in-Err.ensures.unread first told)
    (λ cause is. ap (λ why. unless_unreadable why c.args.name.now
    (answered_in c.args.at.0 first c.args.name.now (map.get first.held c.args.name.now))) is)
