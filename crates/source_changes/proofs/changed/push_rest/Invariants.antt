use Rattle.std.proofs.Common.{◌≡◌, ◌++◌, map, take}
use Rattle.source_changes.specs.Touched.{ground_of}
use Rattle.source_changes.proofs.changed.push_rest.Given as goal

abbrev pub invariant-loop-statement : goal.invariant-loop-statement
invariant-loop-statement g l =
    l.grounds ≡ l.fn.grounds ++ map (λ x. ground_of (g.S.Statement.range x.now))
    (take l.statement-index l.statements)
