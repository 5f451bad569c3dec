use Rattle.std.proofs.Common.{◌≡◌, ◌++◌, take, map}
use Rattle.check_census.specs.Verdicts.{note_verdict}
use Rattle.check_census.proofs.judging.push_notes.Given as goal

abbrev pub invariant-loop-note : goal.invariant-loop-note
invariant-loop-note l = l.verdicts.items ≡ l.fn.verdicts.items
    ++ map note_verdict (take l.note-index l.notes)
