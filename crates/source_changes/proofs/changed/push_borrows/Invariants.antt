use Rattle.std.proofs.Common.{◌≡◌, ◌++◌, map, take}
use Rattle.source_changes.proofs.changed.push_borrows.Given as goal

abbrev pub invariant-loop-statement : goal.invariant-loop-statement
invariant-loop-statement g l =
    map (λ s. s.now) l.borrows.items
    ≡ map (λ s. s.now) l.fn.borrows.items ++ take l.statement-index l.statements
