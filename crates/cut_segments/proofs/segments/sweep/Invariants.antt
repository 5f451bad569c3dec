use Rattle.std.proofs.Common.{◌≡◌, ◌+◌, ◌++◌, length}
use Rattle.std.specs.List.{All}
use Rattle.geo_addr.specs.Ranges.{IsRange}
use Rattle.cut_segments.specs.Marks.{merged, past_of, sweep}
use Rattle.cut_segments.proofs.segments.sweep.Given as goal

-- what is left to sweep follows what was found
abbrev pub invariant-loop-mark : goal.invariant-loop-mark
invariant-loop-mark l =
    (sweep 0 (merged l.fn.grounds l.fn.points)
    ≡ l.pieces.items ++ sweep (past_of l.reach) (merged l.grounds l.points))
    × All IsRange l.pieces.items

abbrev pub decreases-loop-mark : goal.decreases-loop-mark
decreases-loop-mark l = length l.grounds + length l.points
