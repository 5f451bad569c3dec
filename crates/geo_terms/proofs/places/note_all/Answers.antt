-- The table leads to one place more after each step.
use Rattle.std.proofs.Common.{arith}
use Rattle.geo_terms.proofs.TableLemmas.{table_next}
use Rattle.geo_terms.proofs.places.note_all.Goals as goal

pub loop-at-preserved : goal.loop-at-preserved
loop-at-preserved c = record {
  table =
      table_next c.args.list.now c.loop-at.at c.index-list-at.result c.loop-at.slots.items
      c.note.new.slots.items c.loop-at.others c.note.new.others c.loop-at-test.true
      c.index-list-at.is c.requires.distinct c.loop-at.invariant.table c.in_ok-note.ensures.put;
  some = omega (arith, c.in_ok-note.ensures.len, c.loop-at.invariant.some);
}
