use Rattle.std.proofs.Common.{◌≡◌, ◌++◌, drop}
use Rattle.geo_terms.specs.Report.{named}
use Rattle.precedence.proofs.notes.push_notes.Given as goal

-- the notes that are left follow what was made
abbrev pub invariant-loop-note : goal.invariant-loop-note
invariant-loop-note l =
    l.notes.items ++ named l.origin (drop l.note-index l.more)
    ≡ l.fn.notes.items ++ named l.origin l.more
