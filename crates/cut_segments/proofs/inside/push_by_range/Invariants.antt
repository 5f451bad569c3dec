use Rattle.std.proofs.Common.{take}
use Rattle.cut_segments.proofs.InsideLemmas.{AreFound}
use Rattle.cut_segments.proofs.inside.push_by_range.Given as goal

abbrev pub invariant-loop-range : goal.invariant-loop-range
invariant-loop-range l =
    AreFound l.fn.found.items l.points (take l.range-index l.ranges) l.found.items
