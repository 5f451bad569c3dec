use Rattle.std.proofs.Common.{length}
use Rattle.cut_segments.proofs.JoinedLemmas.{IsJoined}
use Rattle.cut_segments.proofs.joined.joined.Given as goal

abbrev pub invariant-loop-next : goal.invariant-loop-next
invariant-loop-next l = IsJoined l.grounds l.chunk l.kept.items l.rest.items l.growing l.left

-- each turn takes one ground
abbrev pub decreases-loop-next : goal.decreases-loop-next
decreases-loop-next l = length l.left
