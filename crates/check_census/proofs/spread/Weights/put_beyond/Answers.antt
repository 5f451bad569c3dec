-- One more zero: the other half is put.
use Rattle.std.proofs.Common.{◌≡◌, ◌+◌, ◌-◌, ◌*◌, ◌%◌, ◌^◌, true, false, length, refl, sym, ap}
use Rattle.std.proofs.Common.{subst, ◌∙◌, arith}
use Rattle.trie_core.specs.Graft.{half}
use Rattle.trie_core.specs.Store.{meaning}
use Rattle.check_census.specs.Spread.{AreWeights, IsPlain, every, sum_of}
use Rattle.check_census.specs.Tally.{low_part, tally, tally_beyond}
use Rattle.check_census.proofs.PassLemmas.{even_shifted, halved_room, low_half, low_part-end}
use Rattle.check_census.proofs.PassLemmas.{low_part-step, room_left, shifted, tally_beyond-end}
use Rattle.check_census.proofs.PassLemmas.{tally_beyond-step}
use Rattle.check_census.proofs.spread.Weights.put_beyond.Goals as goal

pub loop-depth-init : goal.loop-depth-init
loop-depth-init c = record {
  of = c.requires.of;
  low = c.len-nodes.ensures.sound.low c.args.rec c.requires.of;
  weights = c.requires.weights;
  put = λ test plain. (let none = c.requires.none test in omega arith);
  room = let none = c.requires.none every in omega arith;
  rest = refl;
}

pub put-requires-clause-even : goal.put-requires-clause-even
put-requires-clause-even c =
    even_shifted (meaning c.args.store.now c.loop-depth.rec)
    (meaning c.args.store.now c.halves-low.result.1) c.loop-depth.depth c.loop-depth-test.true
    c.halves-low.ensures.high c.loop-depth.invariant.low

pub put-requires-clause-room : goal.put-requires-clause-room
put-requires-clause-room c = room_left c.loop-depth.depth
    (sum_of every c.args.store.now c.loop-depth.self) c.loop-depth-test.true
    c.loop-depth.invariant.room

pub loop-depth-preserved : goal.loop-depth-preserved
loop-depth-preserved c =
    let pairs = c.args.store.now in
    let d = c.loop-depth.depth in
    let lt = c.loop-depth-test.true in
    let inv = c.loop-depth.invariant in
    let slots : length c.loop-depth.self.ended.items ≡ length c.args.self.now.ended.items =
    inv.weights.slots_are in
    let size = shifted d lt in
    record {
      of = c.halves-low.ensures.low_of;
      low = let at = low_half false (meaning pairs c.loop-depth.rec)
          (meaning pairs c.halves-low.result.0) d lt c.halves-low.ensures.low inv.low in
          omega arith;
      weights = subst (λ n. AreWeights pairs n c.put.new.self) slots c.put.ensures.weights;
      put = λ test plain.
          (let gain = c.put.ensures.gains test (subst (λ n. IsPlain n test) (sym slots) plain) in
          let weight : tally test ((1 * 2 ^ (127 - d)) % 2 ^ 128)
          (meaning pairs c.halves-low.result.1) ≡ tally test (2 ^ (127 - d))
          (half true (meaning pairs c.loop-depth.rec)) =
          ap (λ w. tally test w (meaning pairs c.halves-low.result.1)) size
          ∙ ap (tally test (2 ^ (127 - d))) c.halves-low.ensures.high in
          let step = tally_beyond-step test (meaning pairs c.loop-depth.rec) d lt in
          let down : tally_beyond test 32 (96 - (d + 1))
          (meaning pairs c.halves-low.result.0) ≡ tally_beyond test 32 (96 - (d + 1))
          (half false (meaning pairs c.loop-depth.rec)) =
          ap (tally_beyond test 32 (96 - (d + 1))) c.halves-low.ensures.low in
          let so_far = inv.put test plain in
          omega arith);
      room =
          let total = c.put.ensures.total in
          let halved = halved_room d (sum_of every pairs c.loop-depth.self) lt inv.room in
          omega arith;
      rest = ap (low_part (96 - (d + 1))) c.halves-low.ensures.low
          ∙ sym (low_part-step (meaning pairs c.loop-depth.rec) d lt) ∙ inv.rest;
    }

pub returns-clause-beyond : goal.returns-clause-beyond
returns-clause-beyond c test plain =
    let done = c.loop-depth-test.false in
    let end = tally_beyond-end test (meaning c.args.store.now c.loop-depth.rec)
    (96 - c.loop-depth.depth) (omega arith) in
    let all = c.loop-depth.invariant.put test plain in
    omega arith

pub returns-clause-low : goal.returns-clause-low
returns-clause-low c =
    let done = c.loop-depth-test.false in
    sym (low_part-end (meaning c.args.store.now c.loop-depth.rec) (96 - c.loop-depth.depth)
    (omega arith)) ∙ c.loop-depth.invariant.rest
