use Rattle.std.proofs.Common.{◌≡◌, length, map}
use Rattle.std.specs.Char.{to_ascii_lowercase}
use Rattle.geo_terms.specs.PlaceForm.{same_text}
use Rattle.rpsl_reader.proofs.selection.is_lower.Given as goal

abbrev pub invariant-loop-left : goal.invariant-loop-left
invariant-loop-left l =
    same_text (map to_ascii_lowercase l.left) l.right
    ≡ same_text (map to_ascii_lowercase l.name) l.text

abbrev pub decreases-loop-left : goal.decreases-loop-left
decreases-loop-left l = length l.left
