use Rattle.std.proofs.Common.{◌≡◌, ◌++◌, take, drop}
use Rattle.std.specs.List.{All}
use Rattle.geo_addr.specs.Ranges.{IsRange}
use Rattle.first_index.specs.Edges.{edges_from}
use Rattle.first_index.proofs.boundaries.edges_of.Given as goal

-- the edges of the ranges that are left follow what was found
abbrev pub invariant-loop-rank : goal.invariant-loop-rank
invariant-loop-rank l = record {
  found : edges_from 0 l.ranges ≡ l.edges.items ++ edges_from l.rank (drop l.rank l.ranges);
  ranges : All IsRange (take l.rank l.ranges);
}
