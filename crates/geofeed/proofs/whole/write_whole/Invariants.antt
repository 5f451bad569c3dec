use Rattle.std.proofs.Common.{◌≡◌, List, ℕ, ◌++◌, length}
use Rattle.std.specs.Io.KnownBytes.{Appends}
use Rattle.geofeed.proofs.whole.write_whole.Given as goal

-- what was taken of the piece stands in the writer
abbrev pub invariant-loop-rest : goal.invariant-loop-rest
invariant-loop-rest g l =
    (taken : List ℕ) × (l.piece ≡ taken ++ l.rest)
    × Appends (g.W.Write.contents l.initial.out) (g.W.Write.contents l.out) taken

abbrev pub decreases-loop-rest : goal.decreases-loop-rest
decreases-loop-rest g l = length l.rest
