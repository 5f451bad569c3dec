use Rattle.std.proofs.Common.{◌≡◌, fold, length}
use Rattle.rpsl_reader.specs.Reading.{newer}
use Rattle.rpsl_reader.proofs.pending.newest_of.Given as goal

abbrev pub invariant-loop-left : goal.invariant-loop-left
invariant-loop-left l = fold newer l.newest l.left ≡ fold newer l.byte l.bytes

abbrev pub decreases-loop-left : goal.decreases-loop-left
decreases-loop-left l = length l.left
