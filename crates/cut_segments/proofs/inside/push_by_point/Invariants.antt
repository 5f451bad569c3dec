use Rattle.std.proofs.Common.{take}
use Rattle.cut_segments.proofs.InsideLemmas.{AreFound}
use Rattle.cut_segments.proofs.inside.push_by_point.Given as goal

abbrev pub invariant-loop-point : goal.invariant-loop-point
invariant-loop-point l =
    AreFound l.fn.found.items (take l.point-index l.points) l.ranges l.found.items
