-- What a stop comes out as, by whether its line was printed.
use Rattle.geofeed_cmd.proofs.CloseLemmas.{closes_said, closes_unsaid, comes_itself}
use Rattle.geofeed_cmd.proofs.stop.print_stop.Goals as goal

pub returns-in-Ok-clause-comes : goal.returns-in-Ok-clause-comes
returns-in-Ok-clause-comes g c = comes_itself c.args.why

pub returns-in-Ok-clause-closes : goal.returns-in-Ok-clause-closes
returns-in-Ok-clause-closes g c = closes_said c.args.why _ _ _ _ _ c.in-Ok.ensures.printed

pub returns-in-Err-clause-closes : goal.returns-in-Err-clause-closes
returns-in-Err-clause-closes g c =
    closes_unsaid c.without_line.result c.without_line.ensures.silent _ _ _ _ _ _
    c.in-Err.ensures.unprinted
