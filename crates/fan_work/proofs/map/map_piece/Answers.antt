-- One result more, for one item more.
use Rattle.std.proofs.Common.{rules}
use Rattle.fan_work.proofs.Zipped.{AllZip-pushed}
use Rattle.fan_work.proofs.map.map_piece.Goals as goal
use Rattle.std.proofs.Common.{arith}
use Rattle.std.proofs.lemmas.Grind.{common_steps}

pub loop-item-preserved : goal.loop-item-preserved
loop-item-preserved g c =
    AllZip-pushed (g.W.Work.related c.args.work.now) c.args.items.now c.loop-item.results.items
    c.push.new.self.items c.loop-item.item-index c.item-item.result c.in_ok-done.field-0
    (search rules) (search rules) c.loop-item.invariant (search rules) (search rules)

pub returns-clause-entered : goal.returns-clause-entered
returns-clause-entered g c = grind (arith, common_steps) steps 1000000
