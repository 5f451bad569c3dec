use Rattle.std.proofs.Common.{length}
use Rattle.precedence.proofs.ChunkLemmas.{AreBegins}
use Rattle.precedence.proofs.chunks.begins_of.Given as goal

abbrev pub invariant-loop-ground : goal.invariant-loop-ground
invariant-loop-ground l = AreBegins l.touched l.begins.items l.left

-- each turn takes one ground
abbrev pub decreases-loop-ground : goal.decreases-loop-ground
decreases-loop-ground l = length l.left
