-- The sources of a job from what its steps left.
use Rattle.std.proofs.Common.{◌≡◌, [], ◌∷◌, ◌++◌, refl, sym, ◌∙◌, ap, arith, List}
use Rattle.geo_outside.specs.Count.{Rose}
use Rattle.job_lines.specs.declared.job.Step.{Step}
use Rattle.job_run.specs.Moves.{source_moves}
use Rattle.geofeed_cmd.specs.Run.Plans.{start_of, planned}
use Rattle.geofeed_cmd.specs.declared.status.Status.TheVariants as statuses
use Rattle.geofeed_cmd.proofs.AnswerLemmas.{comes_stop}
use Rattle.geofeed_cmd.proofs.LastLemmas.{at_longer}
use Rattle.geofeed_cmd.proofs.StatusLemmas.{done_answer, status_causes}
use Rattle.geofeed_cmd.proofs.sourced.sources_of.Goals as goal

pub returns-in-Ok-do_steps-clause-ok : goal.returns-in-Ok-do_steps-clause-ok
returns-in-Ok-do_steps-clause-ok g c =
    λ first told.
    let start = start_of first c.args.job in
    let meta = c.args.job.meta in
    let begun =
    c.standing_stays.ensures.begins meta.epoch meta.name c.in-Ok.session c.in-Ok.ensures in
    let all = c.in-Ok-do_steps.ensures.done start (record {
      tells = told;
      stands = begun;
    }) refl in
    rw c.as_slice-list.ensures at all

pub returns-clause-err : goal.returns-clause-err
returns-clause-err g c =
    λ first told command last plan.
    let start = start_of first c.args.job in
    let meta = c.args.job.meta in
    let list = c.as_slice-list.result.now in
    let begun =
    c.standing_stays.ensures.begins meta.epoch meta.name c.in-Ok.session c.in-Ok.ensures in
    let planned_here = plan ∙ ap (λ (l : List Step). planned (source_moves l ++ last ∷ []) start)
    (sym c.as_slice-list.ensures) in
    let stop = c.in-Err-do_steps.ensures.stopped start (record {
      tells = told;
      stands = begun;
    }) refl in
    let later = c.stop_in.ensures.faults in
    comes_stop command first c.stop_in.result list (source_moves list)
    (source_moves list ++ last ∷ []) start _ _ _ _ planned_here refl
    (at_longer (source_moves list) (last ∷ []) start) c.in-Err-do_steps.stop.why
    c.in-Err-do_steps.stop.at stop
    (c.stop_in.ensures.stopped stop.step stop.named) c.do_steps.ensures.faults _ _
    c.in-Err-do_steps.ensures.put_failed
    (λ sink. let rose : Rose (g.O.Sink.faults c.args.out.now) (g.O.Sink.faults c.do_steps.new.out) =
    c.in-Err-do_steps.ensures.sink_failed sink in omega arith)

pub returns-clause-not_done : goal.returns-clause-not_done
returns-clause-not_done g c is =
    let done : c.stop_in.result ≡ statuses.Done = cc in
    absurd (done_answer c.in-Err-do_steps.stop.why c.stop_in.result c.stop_in.ensures.status done)

pub returns-clause-not_words : goal.returns-clause-not_words
returns-clause-not_words g c = grind (arith, status_causes)

pub returns-clause-read : goal.returns-clause-read
returns-clause-read g c = grind (arith, status_causes)

pub returns-clause-missing : goal.returns-clause-missing
returns-clause-missing g c = grind (arith, status_causes)

pub returns-clause-unwritten : goal.returns-clause-unwritten
returns-clause-unwritten g c = grind (arith, status_causes)
