use Rattle.std.proofs.Common.{take}
use Rattle.geo_addr.specs.Ranges.{AreCuts}
use Rattle.split_core.proofs.points.edges_within.Given as goal

abbrev pub invariant-loop-range : goal.invariant-loop-range
invariant-loop-range l = AreCuts (take l.range-index l.ranges) l.within l.points.items
