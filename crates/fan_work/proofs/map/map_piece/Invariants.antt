-- The results so far are related to the items that were passed.
use Rattle.std.proofs.Common.{take}
use Rattle.std.specs.List.{AllZip}
use Rattle.fan_work.proofs.map.map_piece.Given as goal

abbrev pub invariant-loop-item : goal.invariant-loop-item
invariant-loop-item g l =
    AllZip (g.W.Work.related l.work) (take l.item-index l.items) l.results.items
