-- The lines that are left make of the draft what all lines make of the empty one.
use Rattle.std.proofs.Common.{◌≡◌}
use Rattle.geo_addr.specs.Lines.{numbered_lines}
use Rattle.job_lines.specs.Drafts.{no_lines}
use Rattle.job_lines.specs.Job.{draft_from}
use Rattle.job_lines.proofs.draft.Draft.of.Given as goal

abbrev pub invariant-loop-line : goal.invariant-loop-line
invariant-loop-line l =
    (goal.iterator-loop-line).can_next l.line-iterator
    × (goal.iterator-loop-line).is_finite l.line-iterator
    × (draft_from l.line-iterator l.draft ≡ draft_from (numbered_lines l.bytes) no_lines)
