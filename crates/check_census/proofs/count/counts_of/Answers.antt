-- One place more.
use Rattle.std.proofs.Common.{arith}
use Rattle.check_census.proofs.CountLemmas.{counts_begin, counts_step, order_so_far, room_v4}
use Rattle.check_census.proofs.CountLemmas.{room_v6}
use Rattle.check_census.proofs.count.counts_of.Goals as goal

pub loop-number-init : goal.loop-number-init
loop-number-init c = counts_begin c.args.places.now c.args.v4.now c.args.v6.now
    c.new-counts.result.items c.new-counts.ensures.items

pub add_place-requires-clause-order : goal.add_place-requires-clause-order
add_place-requires-clause-order c =
    order_so_far c.args.places.now c.args.v4.now c.args.v6.now c.loop-number.number
    c.loop-number.counts.items c.loop-number.invariant

pub add_place-requires-clause-room_v4 : goal.add_place-requires-clause-room_v4
add_place-requires-clause-room_v4 c country =
    room_v4 country c.args.places.now c.args.v4.now c.args.v6.now c.loop-number.number _
    c.loop-number.counts.items c.loop-number.invariant c.loop-number-test.true c.requires.few_v4

pub add_place-requires-clause-room_v6 : goal.add_place-requires-clause-room_v6
add_place-requires-clause-room_v6 c country =
    let lt = c.loop-number-test.true in
    let same = c.requires.alike in
    room_v6 country c.args.places.now c.args.v4.now c.args.v6.now c.loop-number.number _
    c.loop-number.counts.items c.loop-number.invariant (omega arith) c.requires.few_v6

pub loop-number-preserved : goal.loop-number-preserved
loop-number-preserved c =
    counts_step c.args.places.now c.args.v4.now c.args.v6.now c.loop-number.number
    c.loop-number.counts.items c.add_place.new.counts.items _ c.loop-number.invariant
    c.get.ensures c.in_ok-add_place.ensures
