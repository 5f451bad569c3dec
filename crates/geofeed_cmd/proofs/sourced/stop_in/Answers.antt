-- The line of a stop at a step.
use Rattle.std.proofs.Common.{◌≡◌, refl, subst}
use Rattle.std.proofs.lemmas.Option.{slice_get_read}
use Rattle.job_lines.specs.declared.job.Step.{Step}
use Rattle.job_run.specs.Sources.{file_named}
use Rattle.geofeed_cmd.specs.Run.Stopped.{IsStopped}
use Rattle.geofeed_cmd.proofs.sourced.stop_in.Goals as goal

pub returns-clause-stopped : goal.returns-clause-stopped
returns-clause-stopped g c step named =
    let read = slice_get_read c.args.list.now _ c.args.stop.at c.index-list-stop.result refl
    c.requires c.index-list-stop.is in
    let same : c.index-list-stop.result ≡ step = cc in
    let O = g.O.Sink in
    let closed = rw c.name_of.ensures at c.stop_at-status.ensures.stopped in
    subst (λ (s : Step). IsStopped c.args.stop.why c.stop_at-status.result
    (O.written c.args.out.now) (O.written c.stop_at-status.new.out) (O.faults c.args.out.now)
    (O.faults c.stop_at-status.new.out) s.line (file_named s.act)) same closed
