use Rattle.std.proofs.Common.{◌≡◌, ◌≤◌, length, drop, None}
use Rattle.mmdb_file.specs.Marker.{last_marker as last_marker_of}
use Rattle.mmdb_file.proofs.marker.last_marker.Given as goal

abbrev pub invariant-loop-offset : goal.invariant-loop-offset
invariant-loop-offset l = (l.offset ≤ length l.bytes)
    × (last_marker_of (drop l.offset l.bytes) ≡ None)

abbrev pub decreases-loop-offset : goal.decreases-loop-offset
decreases-loop-offset l = l.offset
