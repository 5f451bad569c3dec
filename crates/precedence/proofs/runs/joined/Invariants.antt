use Rattle.std.proofs.Common.{ℕ, ◌+◌, ◌↔◌, ◌⊎◌, Contains, length}
use Rattle.precedence.specs.Runs.{points_of}
use Rattle.precedence.proofs.runs.joined.Given as goal

-- each point is taken, or left in a run
abbrev pub invariant-loop-points : goal.invariant-loop-points
invariant-loop-points l =
    (c : ℕ) → (Contains l.points.items c ⊎ Contains (points_of l.left.items) c)
    ↔ Contains (points_of l.fn.runs.items) c

abbrev pub decreases-loop-points : goal.decreases-loop-points
decreases-loop-points l = length (points_of l.left.items) + length l.left.items
