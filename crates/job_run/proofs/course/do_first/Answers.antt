use Rattle.std.proofs.Common.{Option, arith, refl, rules, subst, sym, take}
use Rattle.geo_outside.specs.Files.{Told}
use Rattle.job_run.specs.Moves.{together}
use Rattle.job_run.specs.Parts.{DoesPart, FailsAt}
use Rattle.job_run.specs.Seen.{seen}
use Rattle.job_run.proofs.MoveLemmas.{fails_first_alone, fails_together, first_alone_of}
use Rattle.job_run.proofs.MoveLemmas.{first_together, no_feed_first, rooms-split}
use Rattle.job_run.proofs.course.do_first.Goals as goal

pub returns-in-Ok-clause-done : goal.returns-in-Ok-clause-done
returns-in-Ok-clause-done g c world here =
    let old = (seen (g.F.Folder.told c.args.folder.now) (g.O.Sink.written c.args.out.now)
    (g.O.Sink.faults c.args.out.now) c.args.steps.now) in
    first_together c.args.scope c.args.rest.now c.feeds_first-count.result world
    c.set_together.new.session old _
    c.feeds_first-count.ensures.feeds c.feeds_first-count.ensures.few
    c.feeds_first-count.ensures.within c.feeds_first-count.ensures.end
    (subst (λ (told : Option Told). DoesPart
    (together (take c.feeds_first-count.result c.args.rest.now)) world
    c.set_together.new.session old
    (seen told (g.O.Sink.written c.args.out.now)
    (g.O.Sink.faults c.args.out.now) c.args.steps.now))
    (sym c.set_together.ensures.same) (c.in-Ok.ensures.done old world refl here))

pub returns-in-Ok-clause-given : goal.returns-in-Ok-clause-given
returns-in-Ok-clause-given g c =
    let rooms = rooms-split c.args.rest.now c.feeds_first-count.result in
    let given = c.set_together.ensures.given in
    omega (arith, rooms, given)

pub returns-in-Err-clause-stopped : goal.returns-in-Err-clause-stopped
returns-in-Err-clause-stopped g c world here =
    let old = (seen (g.F.Folder.told c.args.folder.now) (g.O.Sink.written c.args.out.now)
    (g.O.Sink.faults c.args.out.now) c.args.steps.now) in
    fails_together c.args.scope c.in-Err.stop.why c.args.rest.now c.feeds_first-count.result
    c.in-Err.stop.at world old _
    c.feeds_first-count.ensures.feeds c.feeds_first-count.ensures.few
    c.feeds_first-count.ensures.within c.feeds_first-count.ensures.end
    (subst (λ (told : Option Told). FailsAt c.in-Err.stop.why
    (together (take c.feeds_first-count.result c.args.rest.now))
    (take c.feeds_first-count.result c.args.rest.now) c.in-Err.stop.at world old
    (seen told (g.O.Sink.written c.args.out.now)
    (g.O.Sink.faults c.args.out.now) c.args.steps.now))
    (sym c.set_together.ensures.same) (c.in-Err.ensures.stopped old world refl here))

pub returns-in-Err-clause-none_given : goal.returns-in-Err-clause-none_given
returns-in-Err-clause-none_given g c =
    let rooms = rooms-split c.args.rest.now c.feeds_first-count.result in
    let given = c.set_together.ensures.given in
    omega (arith, rooms, given)

pub returns-in-Ok-do_alone-clause-done : goal.returns-in-Ok-do_alone-clause-done
returns-in-Ok-do_alone-clause-done g c world here =
    let other = no_feed_first c.args.scope c.args.rest.now c.index-rest-0.result c.requires
    (search rules) c.feeds_first-count.result (omega arith) c.feeds_first-count.ensures.end in
    first_alone_of c.args.scope c.args.rest.now c.index-rest-0.result c.requires
    (search rules) world c.do_alone.new.session
    (seen (g.F.Folder.told c.args.folder.now) (g.O.Sink.written c.args.out.now)
    (g.O.Sink.faults c.args.out.now) c.args.steps.now)
    (seen (g.F.Folder.told c.do_alone.new.folder) (g.O.Sink.written c.do_alone.new.out)
    (g.O.Sink.faults c.do_alone.new.out) c.do_alone.new.steps)
    other (c.in-Ok-do_alone.ensures.done world here)

pub returns-in-Err-do_alone-clause-stopped : goal.returns-in-Err-do_alone-clause-stopped
returns-in-Err-do_alone-clause-stopped g c world here =
    let other = no_feed_first c.args.scope c.args.rest.now c.index-rest-0.result c.requires
    (search rules) c.feeds_first-count.result (omega arith) c.feeds_first-count.ensures.end in
    fails_first_alone c.args.scope c.args.rest.now c.index-rest-0.result c.requires
    (search rules) c.in-Err-do_alone.why world
    (seen (g.F.Folder.told c.args.folder.now) (g.O.Sink.written c.args.out.now)
    (g.O.Sink.faults c.args.out.now) c.args.steps.now)
    (seen (g.F.Folder.told c.do_alone.new.folder) (g.O.Sink.written c.do_alone.new.out)
    (g.O.Sink.faults c.do_alone.new.out) c.do_alone.new.steps)
    other (c.in-Err-do_alone.ensures.stopped world here)
