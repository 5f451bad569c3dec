use Rattle.std.proofs.Common.{◌≡◌, length}
use Rattle.geo_terms.specs.PlaceForm.{same_text}
use Rattle.geo_terms.proofs.same.same_few.Given as goal

abbrev pub invariant-loop-left : goal.invariant-loop-left
invariant-loop-left l = same_text l.left l.right ≡ same_text l.x l.y

abbrev pub decreases-loop-left : goal.decreases-loop-left
decreases-loop-left l = length l.left
