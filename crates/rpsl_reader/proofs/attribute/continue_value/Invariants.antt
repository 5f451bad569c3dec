use Rattle.std.proofs.Common.{◌≡◌, length}
use Rattle.rpsl_reader.specs.Attributes.{continued}
use Rattle.rpsl_reader.proofs.attribute.continue_value.Given as goal

abbrev pub invariant-loop-left : goal.invariant-loop-left
invariant-loop-left l = continued l.value l.left ≡ continued l.initial.value l.lines

abbrev pub decreases-loop-left : goal.decreases-loop-left
decreases-loop-left l = length l.left
