-- Nothing was fed yet.
use Rattle.nro_stats.proofs.ReadingLemmas.{begun, held_none}
use Rattle.nro_stats.proofs.reader.StatsReader.new.Goals as goal

pub returns : goal.returns
returns c =
    begun c.args.slot.now c.in_ok-slot.slot c.in_ok-all.all.rows.items c.in_ok-all.all.notes.items
    c.new.result.items c.in_ok-slot.ensures c.in_ok-all.ensures.rows c.in_ok-all.ensures.notes
    c.new.ensures.items

pub invariant_of-result : goal.invariant_of-result
invariant_of-result c =
    held_none c.in_ok-slot.slot c.in_ok-all.all.rows.items c.in_ok-all.all.notes.items
    c.new.result.items c.in_ok-all.ensures.rows c.in_ok-all.ensures.notes c.new.ensures.items
