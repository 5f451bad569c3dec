-- A half has fewer pieces than the whole, and a half is begun in a closure.
use Rattle.std.proofs.Common.{◌+◌, ◌-◌, ◌*◌}
use Rattle.fan_work.proofs.map.+fn-map_some-join+arg2+fn-map_some-join+arg3+map_some.Given as goal

abbrev pub decreases-join+arg2 : goal.decreases-join+arg2
decreases-join+arg2 g l = 2 * (l.left_stretch.to - l.left_stretch.from) + 1

abbrev pub decreases-join+arg3 : goal.decreases-join+arg3
decreases-join+arg3 g l = 2 * (l.right_stretch.to - l.right_stretch.from) + 1

abbrev pub decreases-map_some : goal.decreases-map_some
decreases-map_some g l = 2 * (l.stretch.to - l.stretch.from)
