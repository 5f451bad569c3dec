use Rattle.std.proofs.Common.{◌∙◌, ap, Err, refl}
use Rattle.job_lines.specs.declared.act.Act.TheVariants.{Overrides, Rpsl, Stats}
use Rattle.job_run.specs.Seen.{seen}
use Rattle.job_run.proofs.ActLemmas.{both_ok, does_drop, does_report, does_set, fails_drop}
use Rattle.job_run.proofs.ActLemmas.{fails_report, fails_set, for_cause, for_both, for_err, for_ok}
use Rattle.job_run.proofs.ActLemmas.{paid_drop, paid_report, paid_set, with_why}
use Rattle.job_run.specs.declared.stop.Cause.TheVariants.{NoMark, NotThere}
use Rattle.job_run.proofs.MarkLemmas.{does_back, does_compact, does_mark, fails_back, fails_compact}
use Rattle.job_run.proofs.MarkLemmas.{fails_mark, paid_back, paid_compact, paid_mark}
use Rattle.job_run.proofs.acts.do_step.Goals as goal

pub returns-in-Rpsl-clause-done : goal.returns-in-Rpsl-clause-done
returns-in-Rpsl-clause-done g c world here =
    for_ok c.set_dump.result _ _ (c.set_dump.ensures.set world.told here.tells)
    (λ set. does_set c.standing_stays.ensures c.args.step.now world
    (Rpsl c.as_str.result.now c.as_str-in-Rpsl.result.now) c.args.session.now
    (cc) refl
    (seen (g.F.Folder.told c.args.folder.now) (g.O.Sink.written c.args.out.now)
    (g.O.Sink.faults c.args.out.now) c.args.steps.now)
    (seen (g.F.Folder.told c.set_dump.new.folder) (g.O.Sink.written c.args.out.now)
    (g.O.Sink.faults c.args.out.now) c.args.steps.now)
    here c.set_dump.ensures.same c.set_dump.new.session (λ name emits. cc) refl set)

pub returns-in-Rpsl-clause-failed : goal.returns-in-Rpsl-clause-failed
returns-in-Rpsl-clause-failed g c world here =
    for_err c.set_dump.result _ _ (c.set_dump.ensures.unset world.told here.tells)
    (λ why stop. fails_set c.standing_stays.ensures c.args.step.now world
    (Rpsl c.as_str.result.now c.as_str-in-Rpsl.result.now) c.args.session.now
    (cc) refl
    (seen (g.F.Folder.told c.args.folder.now) (g.O.Sink.written c.args.out.now)
    (g.O.Sink.faults c.args.out.now) c.args.steps.now)
    (seen (g.F.Folder.told c.set_dump.new.folder) (g.O.Sink.written c.args.out.now)
    (g.O.Sink.faults c.args.out.now) c.args.steps.now)
    here c.set_dump.ensures.same why refl stop)

pub returns-in-Rpsl-clause-paid : goal.returns-in-Rpsl-clause-paid
returns-in-Rpsl-clause-paid g c world here =
    paid_set c.standing_stays.ensures c.args.step.now world
    (Rpsl c.as_str.result.now c.as_str-in-Rpsl.result.now) c.args.session.now
    (cc) refl
    (seen (g.F.Folder.told c.args.folder.now) (g.O.Sink.written c.args.out.now)
    (g.O.Sink.faults c.args.out.now) c.args.steps.now)
    (seen (g.F.Folder.told c.set_dump.new.folder) (g.O.Sink.written c.args.out.now)
    (g.O.Sink.faults c.args.out.now) c.args.steps.now)
    here c.set_dump.ensures.same c.args.steps.now

pub returns-in-Stats-clause-done : goal.returns-in-Stats-clause-done
returns-in-Stats-clause-done g c world here =
    for_ok c.set_stats.result _ _ (c.set_stats.ensures.set world.told here.tells)
    (λ set. does_set c.standing_stays.ensures c.args.step.now world
    (Stats c.as_str-in-Stats.result.now c.as_str-in-Stats-2.result.now) c.args.session.now
    (cc) refl
    (seen (g.F.Folder.told c.args.folder.now) (g.O.Sink.written c.args.out.now)
    (g.O.Sink.faults c.args.out.now) c.args.steps.now)
    (seen (g.F.Folder.told c.set_stats.new.folder) (g.O.Sink.written c.args.out.now)
    (g.O.Sink.faults c.args.out.now) c.args.steps.now)
    here c.set_stats.ensures.same c.set_stats.new.session (λ name emits. cc) refl set)

pub returns-in-Stats-clause-failed : goal.returns-in-Stats-clause-failed
returns-in-Stats-clause-failed g c world here =
    for_err c.set_stats.result _ _ (c.set_stats.ensures.unset world.told here.tells)
    (λ why stop. fails_set c.standing_stays.ensures c.args.step.now world
    (Stats c.as_str-in-Stats.result.now c.as_str-in-Stats-2.result.now) c.args.session.now
    (cc) refl
    (seen (g.F.Folder.told c.args.folder.now) (g.O.Sink.written c.args.out.now)
    (g.O.Sink.faults c.args.out.now) c.args.steps.now)
    (seen (g.F.Folder.told c.set_stats.new.folder) (g.O.Sink.written c.args.out.now)
    (g.O.Sink.faults c.args.out.now) c.args.steps.now)
    here c.set_stats.ensures.same why refl stop)

pub returns-in-Stats-clause-paid : goal.returns-in-Stats-clause-paid
returns-in-Stats-clause-paid g c world here =
    paid_set c.standing_stays.ensures c.args.step.now world
    (Stats c.as_str-in-Stats.result.now c.as_str-in-Stats-2.result.now) c.args.session.now
    (cc) refl
    (seen (g.F.Folder.told c.args.folder.now) (g.O.Sink.written c.args.out.now)
    (g.O.Sink.faults c.args.out.now) c.args.steps.now)
    (seen (g.F.Folder.told c.set_stats.new.folder) (g.O.Sink.written c.args.out.now)
    (g.O.Sink.faults c.args.out.now) c.args.steps.now)
    here c.set_stats.ensures.same c.args.steps.now

pub returns-in-Overrides-clause-done : goal.returns-in-Overrides-clause-done
returns-in-Overrides-clause-done g c world here =
    for_ok c.set_overrides.result _ _ (c.set_overrides.ensures.set world.told here.tells)
    (λ set. does_set c.standing_stays.ensures c.args.step.now world
    (Overrides c.as_str-in-Overrides.result.now) c.args.session.now (cc) refl
    (seen (g.F.Folder.told c.args.folder.now) (g.O.Sink.written c.args.out.now)
    (g.O.Sink.faults c.args.out.now) c.args.steps.now)
    (seen (g.F.Folder.told c.set_overrides.new.folder) (g.O.Sink.written c.args.out.now)
    (g.O.Sink.faults c.args.out.now) c.args.steps.now)
    here c.set_overrides.ensures.same c.set_overrides.new.session (λ name emits. cc) refl set)

pub returns-in-Overrides-clause-failed : goal.returns-in-Overrides-clause-failed
returns-in-Overrides-clause-failed g c world here =
    for_err c.set_overrides.result _ _ (c.set_overrides.ensures.unset world.told here.tells)
    (λ why stop. fails_set c.standing_stays.ensures c.args.step.now world
    (Overrides c.as_str-in-Overrides.result.now) c.args.session.now (cc) refl
    (seen (g.F.Folder.told c.args.folder.now) (g.O.Sink.written c.args.out.now)
    (g.O.Sink.faults c.args.out.now) c.args.steps.now)
    (seen (g.F.Folder.told c.set_overrides.new.folder) (g.O.Sink.written c.args.out.now)
    (g.O.Sink.faults c.args.out.now) c.args.steps.now)
    here c.set_overrides.ensures.same why refl stop)

pub returns-in-Overrides-clause-paid : goal.returns-in-Overrides-clause-paid
returns-in-Overrides-clause-paid g c world here =
    paid_set c.standing_stays.ensures c.args.step.now world
    (Overrides c.as_str-in-Overrides.result.now) c.args.session.now (cc) refl
    (seen (g.F.Folder.told c.args.folder.now) (g.O.Sink.written c.args.out.now)
    (g.O.Sink.faults c.args.out.now) c.args.steps.now)
    (seen (g.F.Folder.told c.set_overrides.new.folder) (g.O.Sink.written c.args.out.now)
    (g.O.Sink.faults c.args.out.now) c.args.steps.now)
    here c.set_overrides.ensures.same c.args.steps.now

pub returns-in-Drop-clause-done : goal.returns-in-Drop-clause-done
returns-in-Drop-clause-done g c world here =
    for_ok c.drop_source.result _ _ c.drop_source.ensures.dropped
    (λ dropped. does_drop c.standing_stays.ensures c.args.step.now world c.in-Drop.source
    c.args.session.now (cc)
    (seen (g.F.Folder.told c.args.folder.now) (g.O.Sink.written c.args.out.now)
    (g.O.Sink.faults c.args.out.now) c.args.steps.now)
    (seen (g.F.Folder.told c.args.folder.now) (g.O.Sink.written c.args.out.now)
    (g.O.Sink.faults c.args.out.now) c.args.steps.now)
    here refl refl c.drop_source.new.session dropped)

pub returns-in-Drop-clause-failed : goal.returns-in-Drop-clause-failed
returns-in-Drop-clause-failed g c world here =
    for_both c.drop_source.result _ _ _ c.drop_source.ensures.causes
    (for_cause c.drop_source.result NotThere _ c.drop_source.ensures.absent)
    (λ why causes absent. fails_drop c.standing_stays.ensures c.args.step.now world c.in-Drop.source
    c.args.session.now (cc)
    (seen (g.F.Folder.told c.args.folder.now) (g.O.Sink.written c.args.out.now)
    (g.O.Sink.faults c.args.out.now) c.args.steps.now)
    (seen (g.F.Folder.told c.args.folder.now) (g.O.Sink.written c.args.out.now)
    (g.O.Sink.faults c.args.out.now) c.args.steps.now)
    here refl refl why causes absent)

pub returns-in-Drop-clause-paid : goal.returns-in-Drop-clause-paid
returns-in-Drop-clause-paid g c world here =
    paid_drop c.standing_stays.ensures c.args.step.now world c.in-Drop.source c.args.session.now
    (cc)
    (seen (g.F.Folder.told c.args.folder.now) (g.O.Sink.written c.args.out.now)
    (g.O.Sink.faults c.args.out.now) c.args.steps.now)
    (seen (g.F.Folder.told c.args.folder.now) (g.O.Sink.written c.args.out.now)
    (g.O.Sink.faults c.args.out.now) c.args.steps.now)
    here refl refl c.args.steps.now

pub returns-in-Report-clause-done : goal.returns-in-Report-clause-done
returns-in-Report-clause-done g c world here =
    for_ok c.print_report.result _ _ c.print_report.ensures.printed
    (λ printed. does_report c.args.step.now world c.args.session.now (cc)
    (seen (g.F.Folder.told c.args.folder.now) (g.O.Sink.written c.args.out.now)
    (g.O.Sink.faults c.args.out.now) c.args.steps.now)
    (seen (g.F.Folder.told c.args.folder.now) (g.O.Sink.written c.print_report.new.out)
    (g.O.Sink.faults c.print_report.new.out) c.args.steps.now)
    here refl printed)

pub returns-in-Report-clause-failed : goal.returns-in-Report-clause-failed
returns-in-Report-clause-failed g c world here =
    for_both c.print_report.result _ _ _ c.print_report.ensures.causes c.print_report.ensures.tail
    (λ why causes tail. fails_report c.args.step.now world c.args.session.now (cc)
    (seen (g.F.Folder.told c.args.folder.now) (g.O.Sink.written c.args.out.now)
    (g.O.Sink.faults c.args.out.now) c.args.steps.now)
    (seen (g.F.Folder.told c.args.folder.now) (g.O.Sink.written c.print_report.new.out)
    (g.O.Sink.faults c.print_report.new.out) c.args.steps.now)
    here refl why causes tail)

pub returns-in-Report-clause-paid : goal.returns-in-Report-clause-paid
returns-in-Report-clause-paid g c world here =
    paid_report c.args.step.now world c.args.session.now (cc)
    (seen (g.F.Folder.told c.args.folder.now) (g.O.Sink.written c.args.out.now)
    (g.O.Sink.faults c.args.out.now) c.args.steps.now)
    (seen (g.F.Folder.told c.args.folder.now) (g.O.Sink.written c.print_report.new.out)
    (g.O.Sink.faults c.print_report.new.out) c.args.steps.now)
    here refl c.args.steps.now

pub returns-in-Mark-clause-done : goal.returns-in-Mark-clause-done
returns-in-Mark-clause-done g c world here =
    for_ok c.mark.result _ _ c.mark.ensures.marked
    (λ marked. does_mark c.standing_stays.ensures c.args.step.now world c.as_str-in-Mark.result.now
    c.args.session.now (cc)
    (seen (g.F.Folder.told c.args.folder.now) (g.O.Sink.written c.args.out.now)
    (g.O.Sink.faults c.args.out.now) c.args.steps.now)
    (seen (g.F.Folder.told c.args.folder.now) (g.O.Sink.written c.args.out.now)
    (g.O.Sink.faults c.args.out.now) c.args.steps.now)
    here refl refl c.mark.new.session marked)

pub returns-in-Mark-clause-failed : goal.returns-in-Mark-clause-failed
returns-in-Mark-clause-failed g c world here =
    for_err c.mark.result _ _ c.mark.ensures.causes
    (λ why out. fails_mark c.standing_stays.ensures c.args.step.now world
    c.as_str-in-Mark.result.now c.args.session.now (cc)
    (seen (g.F.Folder.told c.args.folder.now) (g.O.Sink.written c.args.out.now)
    (g.O.Sink.faults c.args.out.now) c.args.steps.now)
    (seen (g.F.Folder.told c.args.folder.now) (g.O.Sink.written c.args.out.now)
    (g.O.Sink.faults c.args.out.now) c.args.steps.now)
    here refl refl why out)

pub returns-in-Mark-clause-paid : goal.returns-in-Mark-clause-paid
returns-in-Mark-clause-paid g c world here =
    paid_mark c.standing_stays.ensures c.args.step.now world c.as_str-in-Mark.result.now
    c.args.session.now (cc)
    (seen (g.F.Folder.told c.args.folder.now) (g.O.Sink.written c.args.out.now)
    (g.O.Sink.faults c.args.out.now) c.args.steps.now)
    (seen (g.F.Folder.told c.args.folder.now) (g.O.Sink.written c.args.out.now)
    (g.O.Sink.faults c.args.out.now) c.args.steps.now)
    here refl refl c.args.steps.now

pub returns-in-Back-clause-done : goal.returns-in-Back-clause-done
returns-in-Back-clause-done g c world here =
    for_ok c.go_back.result _ _ c.go_back.ensures.back
    (λ back. does_back c.standing_stays.ensures c.args.step.now world c.as_str-in-Back.result.now
    c.args.session.now (cc)
    (seen (g.F.Folder.told c.args.folder.now) (g.O.Sink.written c.args.out.now)
    (g.O.Sink.faults c.args.out.now) c.args.steps.now)
    (seen (g.F.Folder.told c.args.folder.now) (g.O.Sink.written c.args.out.now)
    (g.O.Sink.faults c.args.out.now) c.args.steps.now)
    here refl refl c.go_back.new.session back)

pub returns-in-Back-clause-failed : goal.returns-in-Back-clause-failed
returns-in-Back-clause-failed g c world here =
    for_both c.go_back.result _ _ _ c.go_back.ensures.causes
    (for_cause c.go_back.result NoMark _ c.go_back.ensures.absent)
    (λ why causes absent. fails_back c.standing_stays.ensures c.args.step.now world
    c.as_str-in-Back.result.now c.args.session.now (cc)
    (seen (g.F.Folder.told c.args.folder.now) (g.O.Sink.written c.args.out.now)
    (g.O.Sink.faults c.args.out.now) c.args.steps.now)
    (seen (g.F.Folder.told c.args.folder.now) (g.O.Sink.written c.args.out.now)
    (g.O.Sink.faults c.args.out.now) c.args.steps.now)
    here refl refl why causes absent)

pub returns-in-Back-clause-paid : goal.returns-in-Back-clause-paid
returns-in-Back-clause-paid g c world here =
    paid_back c.standing_stays.ensures c.args.step.now world c.as_str-in-Back.result.now
    c.args.session.now (cc)
    (seen (g.F.Folder.told c.args.folder.now) (g.O.Sink.written c.args.out.now)
    (g.O.Sink.faults c.args.out.now) c.args.steps.now)
    (seen (g.F.Folder.told c.args.folder.now) (g.O.Sink.written c.args.out.now)
    (g.O.Sink.faults c.args.out.now) c.args.steps.now)
    here refl refl c.args.steps.now

pub returns-in-Compact-clause-done : goal.returns-in-Compact-clause-done
returns-in-Compact-clause-done g c world here =
    for_ok c.compact.result _ _ (both_ok c.compact.result _ _ c.compact.ensures.compacted
    c.compact.ensures.printed)
    (λ done. does_compact c.standing_stays.ensures c.args.step.now world c.args.session.now
    (cc)
    (seen (g.F.Folder.told c.args.folder.now) (g.O.Sink.written c.args.out.now)
    (g.O.Sink.faults c.args.out.now) c.args.steps.now)
    (seen (g.F.Folder.told c.args.folder.now) (g.O.Sink.written c.compact.new.out)
    (g.O.Sink.faults c.compact.new.out) c.args.steps.now)
    here refl c.compact.new.session done.0 done.1)

pub returns-in-Compact-clause-failed : goal.returns-in-Compact-clause-failed
returns-in-Compact-clause-failed g c world here =
    for_err c.compact.result _ _ (with_why c.compact.result _ c.compact.ensures.causes)
    (λ why found. fails_compact c.standing_stays.ensures c.args.step.now world c.args.session.now
    (cc)
    (seen (g.F.Folder.told c.args.folder.now) (g.O.Sink.written c.args.out.now)
    (g.O.Sink.faults c.args.out.now) c.args.steps.now)
    (seen (g.F.Folder.told c.args.folder.now) (g.O.Sink.written c.compact.new.out)
    (g.O.Sink.faults c.compact.new.out) c.args.steps.now)
    here refl c.compact.new.session why found.1
    (λ failed. c.compact.ensures.unprinted (found.0 ∙ ap Err failed))
    (λ out. c.compact.ensures.starved (found.0 ∙ ap Err out)))

pub returns-in-Compact-clause-paid : goal.returns-in-Compact-clause-paid
returns-in-Compact-clause-paid g c world here =
    paid_compact c.standing_stays.ensures c.args.step.now world c.args.session.now
    (cc)
    (seen (g.F.Folder.told c.args.folder.now) (g.O.Sink.written c.args.out.now)
    (g.O.Sink.faults c.args.out.now) c.args.steps.now)
    (seen (g.F.Folder.told c.args.folder.now) (g.O.Sink.written c.compact.new.out)
    (g.O.Sink.faults c.compact.new.out) c.args.steps.now)
    here refl c.args.steps.now
