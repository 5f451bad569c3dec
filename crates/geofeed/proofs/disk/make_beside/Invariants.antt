use Rattle.std.proofs.Common.{◌≡◌}
use Rattle.geofeed.proofs.disk.make_beside.Given as goal

-- a name that is taken changes nothing
abbrev pub invariant-loop-number : goal.invariant-loop-number
invariant-loop-number g l = g.D.Disk.calls l.disk ≡ g.D.Disk.calls l.initial.disk
