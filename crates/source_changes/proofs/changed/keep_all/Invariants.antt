use Rattle.std.proofs.Common.{take}
use Rattle.std.specs.List.{All}
use Rattle.source_changes.proofs.changed.keep_all.Given as goal

abbrev pub invariant-loop-statement : goal.invariant-loop-statement
invariant-loop-statement g l = All g.S.Statement.kept (take l.statement-index l.statements)
