-- The answer to a stop from what it comes out as.
use Rattle.geofeed_cmd.proofs.StatusLemmas.{status_as}
use Rattle.geofeed_cmd.proofs.stop.stop_at.Goals as goal

pub returns-clause-status : goal.returns-clause-status
returns-clause-status g c =
    status_as c.args.why c.print_stop-end.result c.status_of.result c.print_stop-end.ensures.comes
    c.status_of.ensures

pub returns-clause-stopped : goal.returns-clause-stopped
returns-clause-stopped g c = record {
  out = c.print_stop-end.result;
  comes = c.print_stop-end.ensures.comes;
  same = c.status_of.ensures;
  closes = c.print_stop-end.ensures.closes;
}
