-- The parts that are left decide, and each of them is a part of the word.
use Rattle.std.proofs.Common.{◌≡◌, ℕ, true, List, length}
use Rattle.std.specs.List.{list_all}
use Rattle.geo_addr.specs.Lines.{pieces}
use Rattle.job_lines.specs.Names.{is_part}
use Rattle.job_lines.specs.Faults.{has_part}
use Rattle.job_lines.proofs.names.parts_fault.Given as goal

abbrev pub invariant-parts : goal.invariant-parts
invariant-parts l =
    (list_all is_part (pieces 47 l.word) ≡ list_all is_part (pieces 47 l.left))
    × ((part : List ℕ) → has_part part l.left ≡ true → has_part part l.word ≡ true)

abbrev pub decreases-parts : goal.decreases-parts
decreases-parts l = length l.left
