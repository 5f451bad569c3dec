-- The parts so far and what is left have all the lines.
use Rattle.std.proofs.Common.{◌≡◌, ◌+◌, ◌++◌, ◌≤◌, All, length}
use Rattle.std.specs.List.{flat_map}
use Rattle.geo_addr.specs.Lines.{numbered_lines}
use Rattle.line_parts.specs.Parts.{AreCut, EndsBehind, behind, lines_in}
use Rattle.line_parts.proofs.cut.cut_part.Given as goal

abbrev pub invariant-loop-left : goal.invariant-loop-left
invariant-loop-left l = record {
  lines : flat_map lines_in l.parts.items ++ behind l.before (numbered_lines l.left)
      ≡ lines_in l.lines;
  cut : AreCut l.size l.lines.text.now l.parts.items l.left;
  short : All (λ p. EndsBehind l.size p.text.now) l.parts.items;
  within : l.before + length l.left ≤ l.lines.before + length l.lines.text.now;
}

abbrev pub decreases-loop-left : goal.decreases-loop-left
decreases-loop-left l = length l.left
