-- What the writing of a feed leaves, and why it stops.
use Rattle.std.proofs.Common.{◌∙◌, Err, ap, refl, subst, sym}
use Rattle.published.specs.FeedText.{printed_line}
use Rattle.published.specs.Shortest.{IsShortestFeed}
use Rattle.job_run.specs.Seen.{seen}
use Rattle.job_run.proofs.ActLemmas.{for_both, for_ok}
use Rattle.geofeed_cmd.proofs.FeedLemmas.{for_any, holds_feed}
use Rattle.geofeed_cmd.proofs.FeedMoves.{does_feed, fails_early, fails_print, fails_put}
use Rattle.geofeed_cmd.proofs.FeedMoves.{paid_feed}
use Rattle.geofeed_cmd.proofs.commands.write_feed.write_feed.Goals as goal

pub returns-in-Ok-put-clause-done : goal.returns-in-Ok-put-clause-done
returns-in-Ok-put-clause-done g c world here =
    for_ok c.print.result _ _ c.print.ensures.printed
    (does_feed c.standing_stays.ensures world c.args.block c.args.name.now c.args.session.now
    (seen (g.F.Folder.told c.args.folder.now) (g.O.Sink.written c.args.out.now)
    (g.O.Sink.faults c.args.out.now) c.args.steps.now)
    (seen (g.F.Folder.told c.put.new.folder) (g.O.Sink.written c.print.new.out)
    (g.O.Sink.faults c.print.new.out) c.feed_of.new.steps)
    here c.as_slice.result.now c.as_str.result.now (c.as_slice.ensures.value ∙ c.in-Ok.ensures.text)
    (c.as_str.ensures ∙ c.in-Ok-printed_line.ensures
    ∙ ap (printed_line c.args.name.now) c.in-Ok.ensures.lines)
    c.feed_of.new.session c.in-Ok-put.ensures.ok c.feed_of.ensures.grown c.in-Ok.ensures.done)

pub returns-in-Ok-put-clause-published : goal.returns-in-Ok-put-clause-published
returns-in-Ok-put-clause-published g c then told clean =
    let bytes = c.as_slice.result.now in
    let feed = subst (IsShortestFeed c.args.session.now.state.sources c.args.block)
    (sym c.as_slice.ensures.value) (c.in-Ok.ensures.shortest clean) in
    for_any c.print.result _
    (holds_feed c.args.session.now.state.sources c.args.block c.args.name.now bytes then
    (g.F.Folder.told c.put.new.folder) (c.in-Ok-put.ensures.ok then told) feed)

pub returns-in-Ok-put-clause-failed : goal.returns-in-Ok-put-clause-failed
returns-in-Ok-put-clause-failed g c world here =
    for_both c.print.result _ _ _ c.print.ensures.causes c.print.ensures.tail
    (λ why causes tail. fails_print c.standing_stays.ensures world c.args.block c.args.name.now
    c.args.session.now
    (seen (g.F.Folder.told c.args.folder.now) (g.O.Sink.written c.args.out.now)
    (g.O.Sink.faults c.args.out.now) c.args.steps.now)
    (seen (g.F.Folder.told c.put.new.folder) (g.O.Sink.written c.print.new.out)
    (g.O.Sink.faults c.print.new.out) c.feed_of.new.steps)
    here c.as_slice.result.now c.as_str.result.now (c.as_slice.ensures.value ∙ c.in-Ok.ensures.text)
    (c.as_str.ensures ∙ c.in-Ok-printed_line.ensures
    ∙ ap (printed_line c.args.name.now) c.in-Ok.ensures.lines)
    why c.in-Ok-put.ensures.ok causes tail)

pub returns-clause-failed : goal.returns-clause-failed
returns-clause-failed g c world here =
    fails_put c.standing_stays.ensures world c.args.block c.args.name.now c.args.session.now
    (seen (g.F.Folder.told c.args.folder.now) (g.O.Sink.written c.args.out.now)
    (g.O.Sink.faults c.args.out.now) c.args.steps.now)
    (seen (g.F.Folder.told c.put.new.folder) (g.O.Sink.written c.args.out.now)
    (g.O.Sink.faults c.args.out.now) c.feed_of.new.steps)
    here c.as_slice.result.now _ (c.as_slice.ensures.value ∙ c.in-Ok.ensures.text)
    (c.in-Ok-printed_line.ensures ∙ ap (printed_line c.args.name.now) c.in-Ok.ensures.lines)
    c.in-Err-put.why refl c.in-Err-put.ensures.causes (λ w told failed.
    c.in-Err-put.ensures.spoilt w told (cc)) (λ out. c.in-Err-put.ensures.memory (cc))

pub returns-in-Err-clause-failed : goal.returns-in-Err-clause-failed
returns-in-Err-clause-failed g c world here =
    fails_early c.standing_stays.ensures world c.args.block c.args.name.now c.args.session.now
    (seen (g.F.Folder.told c.args.folder.now) (g.O.Sink.written c.args.out.now)
    (g.O.Sink.faults c.args.out.now) c.args.steps.now)
    (seen (g.F.Folder.told c.args.folder.now) (g.O.Sink.written c.args.out.now)
    (g.O.Sink.faults c.args.out.now) c.feed_of.new.steps)
    here c.in-Err.why refl refl c.in-Err.ensures.causes
    (λ large. c.in-Err.ensures.too_large (ap Err large))

pub returns-in-Err-clause-paid : goal.returns-in-Err-clause-paid
returns-in-Err-clause-paid g c world here =
    paid_feed c.standing_stays.ensures world c.args.block c.args.name.now c.args.session.now
    (seen (g.F.Folder.told c.args.folder.now) (g.O.Sink.written c.args.out.now)
    (g.O.Sink.faults c.args.out.now) c.args.steps.now)
    (seen (g.F.Folder.told c.args.folder.now) (g.O.Sink.written c.args.out.now)
    (g.O.Sink.faults c.args.out.now) c.feed_of.new.steps)
    here c.args.steps.now c.feed_of.new.steps c.feed_of.ensures.spent

pub returns-in-Err-printed_line-clause-paid : goal.returns-in-Err-printed_line-clause-paid
returns-in-Err-printed_line-clause-paid g c world here =
    paid_feed c.standing_stays.ensures world c.args.block c.args.name.now c.args.session.now
    (seen (g.F.Folder.told c.args.folder.now) (g.O.Sink.written c.args.out.now)
    (g.O.Sink.faults c.args.out.now) c.args.steps.now)
    (seen (g.F.Folder.told c.args.folder.now) (g.O.Sink.written c.args.out.now)
    (g.O.Sink.faults c.args.out.now) c.feed_of.new.steps)
    here c.args.steps.now c.feed_of.new.steps c.feed_of.ensures.spent

pub returns-in-Ok-put-clause-paid : goal.returns-in-Ok-put-clause-paid
returns-in-Ok-put-clause-paid g c world here =
    paid_feed c.standing_stays.ensures world c.args.block c.args.name.now c.args.session.now
    (seen (g.F.Folder.told c.args.folder.now) (g.O.Sink.written c.args.out.now)
    (g.O.Sink.faults c.args.out.now) c.args.steps.now)
    (seen (g.F.Folder.told c.args.folder.now) (g.O.Sink.written c.args.out.now)
    (g.O.Sink.faults c.args.out.now) c.feed_of.new.steps)
    here c.args.steps.now c.feed_of.new.steps c.feed_of.ensures.spent

pub returns-clause-paid : goal.returns-clause-paid
returns-clause-paid g c world here =
    paid_feed c.standing_stays.ensures world c.args.block c.args.name.now c.args.session.now
    (seen (g.F.Folder.told c.args.folder.now) (g.O.Sink.written c.args.out.now)
    (g.O.Sink.faults c.args.out.now) c.args.steps.now)
    (seen (g.F.Folder.told c.args.folder.now) (g.O.Sink.written c.args.out.now)
    (g.O.Sink.faults c.args.out.now) c.feed_of.new.steps)
    here c.args.steps.now c.feed_of.new.steps c.feed_of.ensures.spent
