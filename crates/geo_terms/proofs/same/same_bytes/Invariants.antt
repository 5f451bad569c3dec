use Rattle.std.proofs.Common.{◌≡◌, length}
use Rattle.geo_terms.proofs.SameLemmas.{AreBytes}
use Rattle.geo_terms.specs.PlaceForm.{same_text}
use Rattle.geo_terms.proofs.same.same_bytes.Given as goal

abbrev pub invariant-loop-one : goal.invariant-loop-one
invariant-loop-one l =
    (same_text l.left l.right ≡ same_text l.x l.y) × AreBytes l.left × AreBytes l.right

abbrev pub decreases-loop-one : goal.decreases-loop-one
decreases-loop-one l = length l.left
