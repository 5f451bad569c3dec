use Rattle.std.proofs.Common.{◌≡◌, drop, length}
use Rattle.check_census.specs.Sweep.{sweep, swept}
use Rattle.check_census.proofs.sweep.sweep.Given as goal

abbrev pub invariant-loop-point : goal.invariant-loop-point
invariant-loop-point l = (length l.firsts.items ≡ length l.lines)
    × (sweep l.sources l.url l.lines l.firsts.items
    (drop l.point-index l.points) ≡ swept l.sources l.url l.lines l.points)
