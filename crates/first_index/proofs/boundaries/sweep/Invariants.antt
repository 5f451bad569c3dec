use Rattle.std.proofs.Common.{◌≡◌, ◌++◌, [], drop}
use Rattle.first_index.specs.Edges.{sweep}
use Rattle.first_index.proofs.boundaries.sweep.Given as goal

-- what is left to sweep follows what was found
abbrev pub invariant-loop-edge : goal.invariant-loop-edge
invariant-loop-edge l =
    sweep [] l.edges ≡ l.boundaries.items ++ sweep l.ranks.keys (drop l.edge-index l.edges)
