use Rattle.std.proofs.Common.{◌≡◌, map, take}
use Rattle.std.specs.List.{All}
use Rattle.first_index.proofs.index.ranges_of.Given as goal

abbrev pub invariant-loop-statement : goal.invariant-loop-statement
invariant-loop-statement g l = record {
  ranges : l.ranges.items
      ≡ map (λ x. g.S.Statement.range x.1.now) (take l.statement-index l.ranked);
  kept : All (λ x. g.S.Statement.kept x.1.now) (take l.statement-index l.ranked);
}
