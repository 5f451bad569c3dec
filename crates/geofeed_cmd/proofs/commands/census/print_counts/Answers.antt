-- What the print of the counts does, from what the building of their tree did.
use Rattle.std.proofs.Common.{◌∙◌, Err, ap, refl}
use Rattle.job_run.specs.Seen.{seen}
use Rattle.job_run.proofs.ActLemmas.{for_both, for_ok}
use Rattle.geofeed_cmd.proofs.CensusLemmas.{does_count, fails_counted, fails_uncounted, paid_count}
use Rattle.geofeed_cmd.proofs.commands.census.print_counts.Goals as goal

pub returns-clause-done : goal.returns-clause-done
returns-clause-done g c told world here =
    for_ok c.print.result _ _ c.print.ensures.printed
    (does_count c.standing_stays.ensures world c.args.session.now
    (seen told (g.O.Sink.written c.args.out.now) (g.O.Sink.faults c.args.out.now) c.args.steps.now)
    (seen told (g.O.Sink.written c.print.new.out) (g.O.Sink.faults c.print.new.out)
    c.counts_of.new.steps)
    here refl c.as_str.result.now (c.as_str.ensures ∙ c.in-Ok.ensures.text)
    c.counts_of.new.session c.counts_of.ensures.grown c.in-Ok.ensures.done)

pub returns-clause-failed : goal.returns-clause-failed
returns-clause-failed g c told world here =
    for_both c.print.result _ _ _ c.print.ensures.causes c.print.ensures.tail
    (λ why causes tail. fails_counted c.standing_stays.ensures world c.args.session.now
    (seen told (g.O.Sink.written c.args.out.now) (g.O.Sink.faults c.args.out.now) c.args.steps.now)
    (seen told (g.O.Sink.written c.print.new.out) (g.O.Sink.faults c.print.new.out)
    c.counts_of.new.steps)
    here refl c.as_str.result.now (c.as_str.ensures ∙ c.in-Ok.ensures.text) why causes tail)

pub returns-in-Err-clause-failed : goal.returns-in-Err-clause-failed
returns-in-Err-clause-failed g c told world here =
    fails_uncounted c.standing_stays.ensures world c.args.session.now
    (seen told (g.O.Sink.written c.args.out.now) (g.O.Sink.faults c.args.out.now) c.args.steps.now)
    (seen told (g.O.Sink.written c.args.out.now) (g.O.Sink.faults c.args.out.now)
    c.counts_of.new.steps)
    here refl c.in-Err.why refl c.in-Err.ensures.causes
    (λ large. c.in-Err.ensures.too_large (ap Err large))

pub returns-in-Err-clause-paid : goal.returns-in-Err-clause-paid
returns-in-Err-clause-paid g c told world here =
    paid_count c.standing_stays.ensures world c.args.session.now
    (seen told (g.O.Sink.written c.args.out.now) (g.O.Sink.faults c.args.out.now) c.args.steps.now)
    (seen told (g.O.Sink.written c.args.out.now) (g.O.Sink.faults c.args.out.now)
    c.counts_of.new.steps)
    here refl c.counts_of.ensures.spent

pub returns-clause-paid : goal.returns-clause-paid
returns-clause-paid g c told world here =
    paid_count c.standing_stays.ensures world c.args.session.now
    (seen told (g.O.Sink.written c.args.out.now) (g.O.Sink.faults c.args.out.now) c.args.steps.now)
    (seen told (g.O.Sink.written c.args.out.now) (g.O.Sink.faults c.args.out.now)
    c.counts_of.new.steps)
    here refl c.counts_of.ensures.spent
