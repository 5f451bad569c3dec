use Rattle.std.proofs.Common.{◌∙◌, Err, ap, refl, sym}
use Rattle.update_session.specs.State.{value_of}
use Rattle.job_run.specs.Seen.{seen}
use Rattle.job_run.proofs.ActLemmas.{for_both, for_ok}
use Rattle.job_run.proofs.EmitLemmas.{does_emit, fails_early, fails_print, fails_put, paid_emit}
use Rattle.job_run.proofs.emitting.emit.Goals as goal

pub returns-in-Ok-put-clause-done : goal.returns-in-Ok-put-clause-done
returns-in-Ok-put-clause-done g c step world is here =
    for_ok c.print.result _ _ c.print.ensures.printed
    (does_emit c.standing_stays.ensures step world c.args.name.now c.args.session.now is
    (seen (g.F.Folder.told c.args.folder.now) (g.O.Sink.written c.args.out.now)
    (g.O.Sink.faults c.args.out.now) c.args.steps.now)
    (seen (g.F.Folder.told c.put.new.folder) (g.O.Sink.written c.print.new.out)
    (g.O.Sink.faults c.print.new.out) c.emitted.new.steps)
    here (value_of c.in-Ok.file) c.as_slice.result.now c.in-Ok.ensures.file
    (sym c.as_slice.ensures.value) c.emitted.new.session _ c.in-Ok.ensures.least
    c.in-Ok-put.ensures.ok c.emitted.ensures.grown c.in-Ok.ensures.done
    (c.as_str.ensures ∙ c.in-Ok-emit_line.ensures))

pub returns-in-Ok-put-clause-failed : goal.returns-in-Ok-put-clause-failed
returns-in-Ok-put-clause-failed g c step world is here =
    for_both c.print.result _ _ _ c.print.ensures.causes c.print.ensures.tail
    (λ why causes tail. fails_print c.standing_stays.ensures step world c.args.name.now
    c.args.session.now is
    (seen (g.F.Folder.told c.args.folder.now) (g.O.Sink.written c.args.out.now)
    (g.O.Sink.faults c.args.out.now) c.args.steps.now)
    (seen (g.F.Folder.told c.put.new.folder) (g.O.Sink.written c.print.new.out)
    (g.O.Sink.faults c.print.new.out) c.emitted.new.steps)
    here (value_of c.in-Ok.file) c.as_slice.result.now c.in-Ok.ensures.file
    (sym c.as_slice.ensures.value) why _ c.in-Ok-put.ensures.ok
    (c.as_str.ensures ∙ c.in-Ok-emit_line.ensures) causes tail)

pub returns-clause-failed : goal.returns-clause-failed
returns-clause-failed g c step world is here =
    fails_put c.standing_stays.ensures step world c.args.name.now c.args.session.now is
    (seen (g.F.Folder.told c.args.folder.now) (g.O.Sink.written c.args.out.now)
    (g.O.Sink.faults c.args.out.now) c.args.steps.now)
    (seen (g.F.Folder.told c.put.new.folder) (g.O.Sink.written c.args.out.now)
    (g.O.Sink.faults c.args.out.now) c.emitted.new.steps)
    here (value_of c.in-Ok.file) c.as_slice.result.now c.in-Ok.ensures.file
    (sym c.as_slice.ensures.value) c.in-Err-put.why refl c.in-Err-put.ensures.causes
    (λ w told failed. c.in-Err-put.ensures.spoilt w told (cc))
    (λ out. c.in-Err-put.ensures.memory (cc))

pub returns-in-Err-clause-failed : goal.returns-in-Err-clause-failed
returns-in-Err-clause-failed g c step world is here =
    fails_early c.standing_stays.ensures step world c.args.name.now c.args.session.now is
    (seen (g.F.Folder.told c.args.folder.now) (g.O.Sink.written c.args.out.now)
    (g.O.Sink.faults c.args.out.now) c.args.steps.now)
    (seen (g.F.Folder.told c.args.folder.now) (g.O.Sink.written c.args.out.now)
    (g.O.Sink.faults c.args.out.now) c.emitted.new.steps)
    here c.in-Err.why refl refl c.in-Err.ensures.causes
    (λ large. c.in-Err.ensures.too_large (ap Err large))

pub returns-in-Err-clause-paid : goal.returns-in-Err-clause-paid
returns-in-Err-clause-paid g c step world is here =
    paid_emit c.standing_stays.ensures step world c.args.name.now c.args.session.now is
    (seen (g.F.Folder.told c.args.folder.now) (g.O.Sink.written c.args.out.now)
    (g.O.Sink.faults c.args.out.now) c.args.steps.now)
    (seen (g.F.Folder.told c.args.folder.now) (g.O.Sink.written c.args.out.now)
    (g.O.Sink.faults c.args.out.now) c.emitted.new.steps)
    here c.args.steps.now c.emitted.new.steps c.emitted.ensures.spent

pub returns-in-Err-emit_line-clause-paid : goal.returns-in-Err-emit_line-clause-paid
returns-in-Err-emit_line-clause-paid g c step world is here =
    paid_emit c.standing_stays.ensures step world c.args.name.now c.args.session.now is
    (seen (g.F.Folder.told c.args.folder.now) (g.O.Sink.written c.args.out.now)
    (g.O.Sink.faults c.args.out.now) c.args.steps.now)
    (seen (g.F.Folder.told c.args.folder.now) (g.O.Sink.written c.args.out.now)
    (g.O.Sink.faults c.args.out.now) c.emitted.new.steps)
    here c.args.steps.now c.emitted.new.steps c.emitted.ensures.spent

pub returns-in-Ok-put-clause-paid : goal.returns-in-Ok-put-clause-paid
returns-in-Ok-put-clause-paid g c step world is here =
    paid_emit c.standing_stays.ensures step world c.args.name.now c.args.session.now is
    (seen (g.F.Folder.told c.args.folder.now) (g.O.Sink.written c.args.out.now)
    (g.O.Sink.faults c.args.out.now) c.args.steps.now)
    (seen (g.F.Folder.told c.args.folder.now) (g.O.Sink.written c.args.out.now)
    (g.O.Sink.faults c.args.out.now) c.emitted.new.steps)
    here c.args.steps.now c.emitted.new.steps c.emitted.ensures.spent

pub returns-clause-paid : goal.returns-clause-paid
returns-clause-paid g c step world is here =
    paid_emit c.standing_stays.ensures step world c.args.name.now c.args.session.now is
    (seen (g.F.Folder.told c.args.folder.now) (g.O.Sink.written c.args.out.now)
    (g.O.Sink.faults c.args.out.now) c.args.steps.now)
    (seen (g.F.Folder.told c.args.folder.now) (g.O.Sink.written c.args.out.now)
    (g.O.Sink.faults c.args.out.now) c.emitted.new.steps)
    here c.args.steps.now c.emitted.new.steps c.emitted.ensures.spent
