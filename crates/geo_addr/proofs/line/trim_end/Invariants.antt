use Rattle.std.proofs.Common.{◌≡◌, length}
use Rattle.geo_addr.specs.Lines.{trimmed_end}
use Rattle.geo_addr.proofs.line.trim_end.Given as goal

abbrev pub invariant-loop-left : goal.invariant-loop-left
invariant-loop-left l = trimmed_end l.left ≡ trimmed_end l.text

abbrev pub decreases-loop-left : goal.decreases-loop-left
decreases-loop-left l = length l.left
