use Rattle.std.proofs.Common.{◌<◌, ◌+◌, ◌^◌, length, arith}
use Rattle.trie_core.proofs.FoundLemmas.{AreFound-zeros, push_read, stands_from_read}
use Rattle.trie_core.proofs.pairs.note_number.Goals as goal

pub put-requires-clause-found : goal.put-requires-clause-found
put-requires-clause-found c = rw (c.as_slice.ensures.value)
    (AreFound-zeros c.args.pairs.now c.args.firsts.now.items c.args.others.now.slots.items
    c.args.others.now.crowded c.requires.found c.make_room.new.list.items _
    c.in_ok-make_room.ensures.zeros)

pub put-requires-clause-taken : goal.put-requires-clause-taken
put-requires-clause-taken c = rw (c.as_slice.ensures.value)
    (stands_from_read c.make_room.new.list.items c.later-at.result c.index.result.now c.args.pair
    c.later-at.ensures.slot c.in_ok-make_room.ensures.within c.index.ensures
    c.if-index-eq0.false)

pub returns-then-index-eq0-clause-noted : goal.returns-then-index-eq0-clause-noted
returns-then-index-eq0-clause-noted c =
    let longer = c.make_room.new.list.items in
    let zeros = AreFound-zeros c.args.pairs.now c.args.firsts.now.items
    c.args.others.now.slots.items c.args.others.now.crowded c.requires.found longer _
    c.in_ok-make_room.ensures.zeros in
    let few : length c.args.pairs.now + 1 < 2 ^ 32 =
    omega (arith, c.requires.few, c.requires.number) in
    push_read c.args.pairs.now longer c.args.others.now.slots.items c.args.others.now.crowded zeros
    c.args.pair c.requires.new few c.later-at.result c.index.result.now c.args.number
    c.later-at.ensures.slot c.in_ok-make_room.ensures.within c.index.ensures c.if-index-eq0.true
    c.requires.number
