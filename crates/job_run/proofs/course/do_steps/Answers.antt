use Rattle.std.proofs.Common.{◌+◌, ◌∙◌, List, ap, arith, drop, refl, rules, subst}
use Rattle.job_lines.specs.declared.job.Step.{Step}
use Rattle.job_run.specs.Moves.{moves_by, read_rooms}
use Rattle.job_run.specs.Parts.{DoesFirst, FailsAt}
use Rattle.job_run.specs.Seen.{seen}
use Rattle.job_run.proofs.MoveLemmas.{all_done, drop-both, first_fails, first_more, first_none}
use Rattle.job_run.proofs.MoveLemmas.{rest_of}
use Rattle.job_run.proofs.RunLemmas.{stop_of}
use Rattle.job_run.proofs.course.do_steps.Goals as goal

pub loop-at-init : goal.loop-at-init
loop-at-init g c = record {
  within = omega arith;
  does = λ start here. first_none c.args.scope c.args.job.now start
      c.args.session.now _ here;
  read_faults = omega arith;
  put_faults = omega arith;
  misses = omega arith;
  faults = omega arith;
  given = omega arith;
  still = λ sources. (refl, refl, refl);
}

pub loop-at-preserved : goal.loop-at-preserved
loop-at-preserved g c =
    let old = seen (g.F.Folder.told c.args.folder.now) (g.O.Sink.written c.args.out.now)
    (g.O.Sink.faults c.args.out.now) c.args.steps.now in
    let mid = seen (g.F.Folder.told c.loop-at.folder) (g.O.Sink.written c.loop-at.out)
    (g.O.Sink.faults c.loop-at.out) c.loop-at.steps in
    let new = seen (g.F.Folder.told c.do_first.new.folder) (g.O.Sink.written c.do_first.new.out)
    (g.O.Sink.faults c.do_first.new.out) c.do_first.new.steps in
    let rest = rest_of c.args.job.now c.loop-at.at in
    let rooms = ap read_rooms (drop-both c.args.job.now c.loop-at.at c.in-Ok.count) in
    let rooms_now = ap read_rooms rest in
    let rooms_next = ap (λ (list : List Step). read_rooms (drop c.in-Ok.count list)) rest in
    let given = c.in-Ok.ensures.given in
    record {
      within = search rules;
      does = λ start here.
          let first = c.loop-at.invariant.does start here in
          first_more c.args.scope c.args.job.now c.loop-at.at c.in-Ok.count start c.loop-at.session
          c.do_first.new.session old mid new first
          (subst (λ (list : List Step). DoesFirst c.args.scope list c.in-Ok.count first.part.then
          c.do_first.new.session mid new) (rest_of c.args.job.now c.loop-at.at)
          (c.in-Ok.ensures.done first.part.then
          first.part.stands));
      read_faults = omega arith;
      put_faults = omega arith;
      misses = omega arith;
      faults = omega arith;
      given = omega (arith, rooms, rooms_now, rooms_next, given);
      still = λ sources.
          let before = c.loop-at.invariant.still sources in
          let now = c.do_first.ensures.still sources in
          (now.0 ∙ before.0, now.1 ∙ before.1, now.2 ∙ before.2);
    }

pub returns-in-Err-clause-stopped : goal.returns-in-Err-clause-stopped
returns-in-Err-clause-stopped g c start here blank =
    let old = seen (g.F.Folder.told c.args.folder.now) (g.O.Sink.written c.args.out.now)
    (g.O.Sink.faults c.args.out.now) c.args.steps.now in
    let mid = seen (g.F.Folder.told c.loop-at.folder) (g.O.Sink.written c.loop-at.out)
    (g.O.Sink.faults c.loop-at.out) c.loop-at.steps in
    let new = seen (g.F.Folder.told c.do_first.new.folder) (g.O.Sink.written c.do_first.new.out)
    (g.O.Sink.faults c.do_first.new.out) c.do_first.new.steps in
    let first = c.loop-at.invariant.does start here in
    stop_of c.in-Err.stop.why (moves_by c.args.scope c.args.job.now) c.args.job.now
    (c.loop-at.at + c.in-Err.stop.at) start old new blank
    (first_fails c.args.scope c.in-Err.stop.why c.args.job.now c.loop-at.at c.in-Err.stop.at start
    c.loop-at.session old mid new first
    (subst (λ (list : List Step). FailsAt c.in-Err.stop.why
    (moves_by c.args.scope list) list c.in-Err.stop.at first.part.then mid new)
    (rest_of c.args.job.now c.loop-at.at)
    (c.in-Err.ensures.stopped first.part.then
    first.part.stands)))

pub returns-clause-done : goal.returns-clause-done
returns-clause-done g c start here blank =
    all_done c.args.scope c.args.job.now c.loop-at.at start c.loop-at.session _ _
    (omega arith) blank (c.loop-at.invariant.does start here)
