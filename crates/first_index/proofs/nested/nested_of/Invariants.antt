use Rattle.std.proofs.Common.{take}
use Rattle.std.specs.List.{All}
use Rattle.first_index.specs.Nested.{ArePassed}
use Rattle.first_index.proofs.nested.nested_of.Given as goal

-- the statements so far are passed up to where the last of their grounds begins
abbrev pub invariant-loop-statement : goal.invariant-loop-statement
invariant-loop-statement g l = record {
  passed : ArePassed (λ x y. g.S.Statement.order x.now y.now) (λ x. g.S.Statement.range x.now)
      (take l.statement-index l.indexed) l.low l.index l.opened.items;
  kept : All (λ x. g.S.Statement.kept x.1.now) (take l.statement-index l.indexed);
}
