-- The answer of a job from what its steps left.
use Rattle.std.proofs.Common.{arith}
use Rattle.geo_outside.specs.Count.{Rose}
use Rattle.job_run.specs.Moves.{moves_of}
use Rattle.geofeed_cmd.proofs.AnswerLemmas.{comes_done, comes_stop}
use Rattle.geofeed_cmd.proofs.whole.do_whole.Goals as goal

pub returns-in-Ok-clause-comes : goal.returns-in-Ok-clause-comes
returns-in-Ok-clause-comes g c =
    λ first command start plan here blank unspent.
    comes_done command first
    (moves_of c.args.list.now) start _ _ c.do_steps.new.session plan unspent
    (c.in-Ok.ensures.done start here blank)

pub returns-in-Err-clause-comes : goal.returns-in-Err-clause-comes
returns-in-Err-clause-comes g c =
    λ first command start plan here blank unspent.
    let moves = moves_of c.args.list.now in
    let stop = c.in-Err.ensures.stopped start here blank in
    let later = c.stop_in.ensures.faults in
    comes_stop command first c.stop_in.result c.args.list.now moves moves start _ _ _ _ plan unspent
    (λ count move world there. there)
    c.in-Err.stop.why c.in-Err.stop.at stop
    (c.stop_in.ensures.stopped stop.step stop.named) c.do_steps.ensures.faults _ _
    c.in-Err.ensures.put_failed
    (λ sink. let rose : Rose (g.O.Sink.faults c.args.out.now) (g.O.Sink.faults c.do_steps.new.out) =
    c.in-Err.ensures.sink_failed sink in omega arith)
