use Rattle.std.proofs.Common.{◌≡◌, ◌+◌, drop, length}
use Rattle.check_census.specs.Verdicts.{before}
use Rattle.check_census.proofs.judging.count_before.Given as goal

abbrev pub invariant-loop-note : goal.invariant-loop-note
invariant-loop-note l = (l.count ≡ l.note-index)
    × (length (before l.line l.notes) ≡ l.count + length
    (before l.line (drop l.note-index l.notes)))
