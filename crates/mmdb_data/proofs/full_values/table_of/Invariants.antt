use Rattle.std.proofs.Common.{take}
use Rattle.mmdb_data.specs.FullValues.{IsTable}
use Rattle.mmdb_data.proofs.full_values.table_of.Given as goal

abbrev pub invariant-loop-number : goal.invariant-loop-number
invariant-loop-number l = record { table : IsTable (take l.number l.list) l.table }
