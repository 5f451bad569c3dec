use Rattle.std.proofs.Common.{◌≡◌, length}
use Rattle.feed_refs.specs.Kinds.{holds_word}
use Rattle.feed_refs.proofs.kinds.holds_word.Given as goal

abbrev pub invariant-loop-left : goal.invariant-loop-left
invariant-loop-left l = holds_word l.word l.left ≡ holds_word l.word l.text

abbrev pub decreases-loop-left : goal.decreases-loop-left
decreases-loop-left l = length l.left
