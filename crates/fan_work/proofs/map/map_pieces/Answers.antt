-- All pieces are a stretch: the results are those of its items, and its pieces entered.
use Rattle.std.proofs.Common.{length, arith}
use Rattle.std.proofs.lemmas.Result.{IfOk-weaker}
use Rattle.fan_work.proofs.Starts.{start-zero, start-all}
use Rattle.fan_work.proofs.Zipped.{map-from_only}
use Rattle.fan_work.proofs.map.map_pieces.Goals as goal

pub map_some-requires-after_bounds : goal.map_some-requires-after_bounds
map_some-requires-after_bounds g c κs within =
    let some = c.requires.some in
    let first = start-zero c.args.pieces (length c.args.items.now) some in
    let last = start-all c.args.pieces (length c.args.items.now) some in
    record { some = some; within = omega arith; held = omega arith }

pub returns-clause-one_thread : goal.returns-clause-one_thread
returns-clause-one_thread g c f only =
    IfOk-weaker c.map_some.result _ _ (λ v zipped. map-from_only (g.W.Work.related c.args.work.now)
    f only c.args.items.now v.items zipped) c.map_some.ensures.related
