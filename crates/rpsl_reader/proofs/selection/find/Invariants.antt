use Rattle.std.proofs.Common.{◌≡◌, length, map}
use Rattle.std.specs.Char.{to_ascii_lowercase}
use Rattle.rpsl_reader.specs.Selections.{is_among}
use Rattle.rpsl_reader.proofs.selection.find.Given as goal

abbrev pub invariant-loop-left : goal.invariant-loop-left
invariant-loop-left l =
    is_among (map to_ascii_lowercase l.name) l.left
    ≡ is_among (map to_ascii_lowercase l.name) l.texts

abbrev pub decreases-loop-left : goal.decreases-loop-left
decreases-loop-left l = length l.left
