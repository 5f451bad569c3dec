-- The number goes to the first free slot, or the place to the others.
use Rattle.std.proofs.Common.{rules}
use Rattle.geo_terms.proofs.TableLemmas.{other_put, put_first, put_second, put_beside}
use Rattle.geo_terms.proofs.places.note.Goals as goal

pub returns-then-index-eq0-clause-put : goal.returns-then-index-eq0-clause-put
returns-then-index-eq0-clause-put c =
    put_first c.args.slots.now.items c.args.others.now c.args.number c.args.place.now
    c.slot_of-slot.result c.index.result.now (search rules) (search rules) c.index.ensures
    c.if-index-eq0.true

pub returns-then-index-eq0-2-clause-put : goal.returns-then-index-eq0-2-clause-put
returns-then-index-eq0-2-clause-put c =
    put_second c.args.slots.now.items c.args.others.now c.args.number c.args.place.now
    c.slot_of-slot.result c.index.result.now (search rules) (search rules) c.index.ensures
    c.if-index-eq0.false c.index-2.result.now c.index-2.ensures c.if-index-eq0-2.true

pub returns-clause-put : goal.returns-clause-put
returns-clause-put c =
    put_beside c.args.slots.now.items c.args.others.now c.args.number c.args.place.now
    c.slot_of-slot.result c.index.result.now (search rules) (search rules) c.index.ensures
    c.if-index-eq0.false c.index-2.result.now c.index-2.ensures c.if-index-eq0-2.false
    c.insert.new.self
    (other_put c.args.place.now c.args.number c.args.others.now c.insert.new.self (search rules))
