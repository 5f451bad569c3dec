use Rattle.std.proofs.Common.{◌≡◌, length}
use Rattle.geo_addr.specs.Lines.{trimmed_start}
use Rattle.geo_addr.proofs.line.trim_start.Given as goal

abbrev pub invariant-loop-left : goal.invariant-loop-left
invariant-loop-left l = trimmed_start l.left ≡ trimmed_start l.text

abbrev pub decreases-loop-left : goal.decreases-loop-left
decreases-loop-left l = length l.left
