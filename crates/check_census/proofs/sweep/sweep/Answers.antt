-- One point more.
use Rattle.check_census.specs.Sweep.{swept}
use Rattle.check_census.proofs.SweepLemmas.{sweep_step}
use Rattle.check_census.proofs.sweep.sweep.Goals as goal

pub loop-point-preserved : goal.loop-point-preserved
loop-point-preserved c =
    sweep_step c.args.sources.now c.args.url.now c.args.lines.now c.args.points.now
    c.loop-point.point-index c.loop-point.firsts.items c.mark.new.firsts.items
    c.heard_line-heard.result
    (swept c.args.sources.now c.args.url.now c.args.lines.now c.args.points.now)
    c.loop-point-test.true
    c.heard_line-heard.ensures c.mark.ensures c.loop-point.invariant
