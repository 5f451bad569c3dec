-- What a last move does, from what its own function does.
use Rattle.std.proofs.Common.{[], inr, refl, subst}
use Rattle.geo_terms.specs.Precedence.{reasons_at}
use Rattle.explained.specs.Explanation.{explanation}
use Rattle.update_session.specs.State.{State}
use Rattle.job_run.specs.declared.stop.Cause.TheVariants.{NoFeed, TooLarge}
use Rattle.job_run.specs.Seen.{Prints, seen}
use Rattle.job_run.specs.Stops.{Tail}
use Rattle.job_run.specs.World.{World}
use Rattle.job_run.proofs.ActLemmas.{for_both, for_err, for_ok}
use Rattle.geofeed_cmd.proofs.CheckLemmas.{unpaid}
use Rattle.geofeed_cmd.proofs.FeedLemmas.{for_any}
use Rattle.geofeed_cmd.proofs.LastLemmas.{does_shown, fails_shown, not_put, reads_nothing}
use Rattle.geofeed_cmd.proofs.LastLemmas.{reads_unput}
use Rattle.geofeed_cmd.proofs.last.make_last.Goals as goal

pub returns-in-Explain-clause-done : goal.returns-in-Explain-clause-done
returns-in-Explain-clause-done g c =
    rw c.in-Explain.is
    (λ world here.
    let O = g.O.Sink in
    let at = c.in-Explain.at.0 in
    let told = g.F.Folder.told c.args.folder.now in
    let old = seen told (O.written c.args.out.now) (O.faults c.args.out.now) c.args.steps.now in
    let new = seen told (O.written c.print_why.new.out) (O.faults c.print_why.new.out)
    c.args.steps.now in
    for_ok c.print_why.result _ _ c.print_why.ensures.printed
    (λ printed.
    does_shown (λ (w : World). explanation at (reasons_at w.session.state.sources at)) world
    c.args.session.now old new here refl
    (subst (λ (s : State). Prints old.written new.written
    (explanation at (reasons_at s.sources at))) here.stands.state printed)))

pub returns-in-Explain-clause-failed : goal.returns-in-Explain-clause-failed
returns-in-Explain-clause-failed g c =
    rw c.in-Explain.is
    (λ world here.
    let O = g.O.Sink in
    let at = c.in-Explain.at.0 in
    let told = g.F.Folder.told c.args.folder.now in
    let old = seen told (O.written c.args.out.now) (O.faults c.args.out.now) c.args.steps.now in
    let new = seen told (O.written c.print_why.new.out) (O.faults c.print_why.new.out)
    c.args.steps.now in
    for_both c.print_why.result _ _ _ c.print_why.ensures.causes c.print_why.ensures.tail
    (λ why causes tail.
    fails_shown (λ (w : World). explanation at (reasons_at w.session.state.sources at)) world
    c.args.session.now old new here refl why causes
    (subst (λ (s : State). Tail why [] (explanation at (reasons_at s.sources at)) old.written
    new.written) here.stands.state tail)))

pub returns-in-Explain-clause-paid : goal.returns-in-Explain-clause-paid
returns-in-Explain-clause-paid g c =
    rw c.in-Explain.is (λ world here. unpaid [] world c.args.steps.now)

pub returns-in-Explain-clause-reads_nothing : goal.returns-in-Explain-clause-reads_nothing
returns-in-Explain-clause-reads_nothing g c =
    for_err c.print_why.result _ _ c.print_why.ensures.causes
    (λ why causes. reads_unput NoFeed (λ is. cc) (λ is. cc) why (inr causes))

pub returns-in-Explain-clause-put_failed : goal.returns-in-Explain-clause-put_failed
returns-in-Explain-clause-put_failed g c =
    λ is. absurd (not_put NoFeed c.print_why.result
    (for_err c.print_why.result _ _ c.print_why.ensures.causes (λ why causes. inr causes)) is)

pub returns-in-Explain-clause-unput : goal.returns-in-Explain-clause-unput
returns-in-Explain-clause-unput g c =
    λ name none. (
      refl,
      not_put NoFeed c.print_why.result
          (for_err c.print_why.result _ _ c.print_why.ensures.causes (λ why causes. inr causes)),
    )

pub returns-in-Publish-clause-done : goal.returns-in-Publish-clause-done
returns-in-Publish-clause-done g c = rw c.in-Publish.is c.write_feed.ensures.done

pub returns-in-Publish-clause-failed : goal.returns-in-Publish-clause-failed
returns-in-Publish-clause-failed g c = rw c.in-Publish.is c.write_feed.ensures.failed

pub returns-in-Publish-clause-paid : goal.returns-in-Publish-clause-paid
returns-in-Publish-clause-paid g c = rw c.in-Publish.is c.write_feed.ensures.paid

pub returns-in-Publish-clause-reads_nothing : goal.returns-in-Publish-clause-reads_nothing
returns-in-Publish-clause-reads_nothing g c =
    for_err c.write_feed.result _ _ c.write_feed.ensures.causes
    (reads_nothing TooLarge (λ is. cc) (λ is. cc))

pub returns-in-Publish-clause-unput : goal.returns-in-Publish-clause-unput
returns-in-Publish-clause-unput g c = rw c.in-Publish.is (λ name none. absurd (cc))

pub returns-in-Publish-clause-still : goal.returns-in-Publish-clause-still
returns-in-Publish-clause-still g c = rw c.in-Publish.is (λ name none. absurd (cc))

pub returns-in-Check-clause-done : goal.returns-in-Check-clause-done
returns-in-Check-clause-done g c =
    rw c.in-Check.is (λ world here.
    c.print_verdicts.ensures.done (g.F.Folder.told c.args.folder.now) c.args.steps.now world here)

pub returns-in-Check-clause-failed : goal.returns-in-Check-clause-failed
returns-in-Check-clause-failed g c =
    rw c.in-Check.is (λ world here.
    c.print_verdicts.ensures.failed (g.F.Folder.told c.args.folder.now) c.args.steps.now world here)

pub returns-in-Check-clause-paid : goal.returns-in-Check-clause-paid
returns-in-Check-clause-paid g c =
    rw c.in-Check.is (λ world here. unpaid c.in-Check.url.now world c.args.steps.now)

pub returns-in-Check-clause-reads_nothing : goal.returns-in-Check-clause-reads_nothing
returns-in-Check-clause-reads_nothing g c =
    for_err c.print_verdicts.result _ _ c.print_verdicts.ensures.causes
    (reads_unput NoFeed (λ is. cc) (λ is. cc))

pub returns-in-Check-clause-put_failed : goal.returns-in-Check-clause-put_failed
returns-in-Check-clause-put_failed g c =
    λ is. absurd (not_put NoFeed c.print_verdicts.result c.print_verdicts.ensures.causes is)

pub returns-in-Check-clause-unput : goal.returns-in-Check-clause-unput
returns-in-Check-clause-unput g c =
    λ name none. (refl, not_put NoFeed c.print_verdicts.result c.print_verdicts.ensures.causes)

pub returns-in-Census-clause-done : goal.returns-in-Census-clause-done
returns-in-Census-clause-done g c =
    rw c.in-Census.is (λ world here.
    c.print_counts.ensures.done (g.F.Folder.told c.args.folder.now) world here)

pub returns-in-Census-clause-failed : goal.returns-in-Census-clause-failed
returns-in-Census-clause-failed g c =
    rw c.in-Census.is (λ world here.
    c.print_counts.ensures.failed (g.F.Folder.told c.args.folder.now) world here)

pub returns-in-Census-clause-paid : goal.returns-in-Census-clause-paid
returns-in-Census-clause-paid g c =
    rw c.in-Census.is (λ world here.
    c.print_counts.ensures.paid (g.F.Folder.told c.args.folder.now) world here)

pub returns-in-Census-clause-reads_nothing : goal.returns-in-Census-clause-reads_nothing
returns-in-Census-clause-reads_nothing g c =
    for_err c.print_counts.result _ _ c.print_counts.ensures.causes
    (reads_unput TooLarge (λ is. cc) (λ is. cc))

pub returns-in-Census-clause-put_failed : goal.returns-in-Census-clause-put_failed
returns-in-Census-clause-put_failed g c =
    λ is. absurd (not_put TooLarge c.print_counts.result c.print_counts.ensures.causes is)

pub returns-in-Census-clause-unput : goal.returns-in-Census-clause-unput
returns-in-Census-clause-unput g c =
    λ name none. (refl, not_put TooLarge c.print_counts.result c.print_counts.ensures.causes)

pub returns-in-Census-clause-still : goal.returns-in-Census-clause-still
returns-in-Census-clause-still g c = rw c.in-Census.is (λ name none. absurd (cc))

pub returns-in-Publish-clause-leaves : goal.returns-in-Publish-clause-leaves
returns-in-Publish-clause-leaves g c = rw c.in-Publish.is c.write_feed.ensures.published

pub returns-in-Explain-clause-leaves : goal.returns-in-Explain-clause-leaves
returns-in-Explain-clause-leaves g c =
    rw c.in-Explain.is (λ then told clean. for_any c.print_why.result _ tt)

pub returns-in-Check-clause-leaves : goal.returns-in-Check-clause-leaves
returns-in-Check-clause-leaves g c =
    rw c.in-Check.is (λ then told clean. for_any c.print_verdicts.result _ tt)

pub returns-in-Census-clause-leaves : goal.returns-in-Census-clause-leaves
returns-in-Census-clause-leaves g c =
    rw c.in-Census.is (λ then told clean. for_any c.print_counts.result _ tt)
