use Rattle.mmdb_data.proofs.Table.{table_next}
use Rattle.mmdb_data.proofs.full_values.table_of.Goals as goal

pub loop-number-preserved : goal.loop-number-preserved
loop-number-preserved c = record {
  table =
      table_next c.args.list.now c.loop-number.number c.entry-at.result.0.now
      c.entry-at.result.1 c.loop-number.table c.note.new.table c.entry-at.ensures
      c.requires.new c.loop-number.invariant.table c.in_ok-note.ensures.put;
}
