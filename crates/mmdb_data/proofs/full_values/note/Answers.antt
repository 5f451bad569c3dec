use Rattle.std.proofs.Common.{◌≡◌, ◌+◌, ◌<◌, length, refl, rules}
use Rattle.mmdb_data.specs.declared.full_values.Table.{Table}
use Rattle.mmdb_data.specs.FullValues.{mixed, mixed_again, slot_by}
use Rattle.mmdb_data.proofs.Table.{other_put, put_beside}
use Rattle.mmdb_data.proofs.full_values.note.Goals as goal

pub returns-clause-put : goal.returns-clause-put
returns-clause-put c =
    let old = c.args.table.now in
    let new : Table =
    record { slots = old.slots; ranks = old.ranks; others = c.insert-2.new.self } in
    let x = c.args.spelled.now in
    let at = c.slot_by-slot.result in
    let slot : at ≡ slot_by (mixed x) (length old.slots.items) = search rules in
    let fits : at + 1 < length old.slots.items = search rules in
    let rank : c.mixed_again-rank.result ≡ mixed_again x = search rules in
    put_beside old new c.args.number x c.args.at at c.index.result.now slot fits c.index.ensures
    c.if-index-eq0.false c.index-2.result.now c.index-2.ensures c.if-index-eq0-2.false
    c.mixed_again-rank.result c.at_rank.result rank c.at_rank.ensures refl
    c.if-at_rank-eq0.false refl
    (other_put x c.in_ok-key.key c.args.at old.others c.insert-2.new.self c.in_ok-key.ensures.items
    (search rules))
