use Rattle.std.proofs.Common.{List, refl, sym, subst, rules}
use Rattle.job_run.specs.Acts.{Move, does}
use Rattle.job_run.specs.Parts.{DoesPart, FailsPart}
use Rattle.job_run.specs.Seen.{seen}
use Rattle.job_run.proofs.ActLemmas.{for_err, for_ok}
use Rattle.job_run.proofs.MoveLemmas.{alone_none, alone_one}
use Rattle.job_run.proofs.RunLemmas.{fails_one, part_none, part_one}
use Rattle.job_run.proofs.course.do_alone.Goals as goal

pub returns-then-not-takes-clause-done : goal.returns-then-not-takes-clause-done
returns-then-not-takes-clause-done g c world here =
    let now = seen (g.F.Folder.told c.args.folder.now) (g.O.Sink.written c.args.out.now)
    (g.O.Sink.faults c.args.out.now) c.args.steps.now in
    subst (λ (moves : List Move). DoesPart moves world c.args.session.now now now)
    (sym (alone_none c.args.scope c.args.step.now (search rules)))
    (part_none world c.args.session.now now here)

pub returns-clause-done : goal.returns-clause-done
returns-clause-done g c world here =
    let old = seen (g.F.Folder.told c.args.folder.now) (g.O.Sink.written c.args.out.now)
    (g.O.Sink.faults c.args.out.now) c.args.steps.now in
    let new = seen (g.F.Folder.told c.do_step.new.folder) (g.O.Sink.written c.do_step.new.out)
    (g.O.Sink.faults c.do_step.new.out) c.do_step.new.steps in
    for_ok c.do_step.result _ _ (c.do_step.ensures.done world here)
    (λ made. subst (λ (moves : List Move). DoesPart moves world c.do_step.new.session old new)
    (sym (alone_one c.args.scope c.args.step.now (search rules)))
    (part_one (does c.args.step.now) world c.do_step.new.session old new made
    (c.do_step.ensures.paid world here)))

pub returns-clause-stopped : goal.returns-clause-stopped
returns-clause-stopped g c world here =
    let old = seen (g.F.Folder.told c.args.folder.now) (g.O.Sink.written c.args.out.now)
    (g.O.Sink.faults c.args.out.now) c.args.steps.now in
    let new = seen (g.F.Folder.told c.do_step.new.folder) (g.O.Sink.written c.do_step.new.out)
    (g.O.Sink.faults c.do_step.new.out) c.do_step.new.steps in
    for_err c.do_step.result _ _ (c.do_step.ensures.failed world here)
    (λ why fails. subst (λ (moves : List Move). FailsPart why moves c.args.step.now world old new)
    (sym (alone_one c.args.scope c.args.step.now (search rules)))
    (fails_one why (does c.args.step.now) c.args.step.now world old new refl fails
    (c.do_step.ensures.paid world here)))
