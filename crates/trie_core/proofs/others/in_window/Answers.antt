use Rattle.std.proofs.Common.{◌≡◌, suc, ◌+◌, ◌-◌, length, refl, sym, subst, arith, rules}
use Rattle.trie_core.specs.Pairs.{Stands, first_slot}
use Rattle.trie_core.proofs.WindowLemmas.{Stands-next, Stands-free, Stands-rest}
use Rattle.trie_core.proofs.others.in_window.Goals as goal

pub returns-in-Missing-clause-missing : goal.returns-in-Missing-clause-missing
returns-in-Missing-clause-missing c = λ told k rest at stands.
    let slots = c.args.slots.now in
    let start = c.slot_of-start.result in
    let slot : start ≡ first_slot c.args.pair (length slots) = search rules in
    let left : start + 8 - c.loop-at.at ≡ suc (start + 7 - c.loop-at.at) =
    omega (arith, c.loop-at-test.true) in
    Stands-free slots c.loop-at.at (start + 8 - c.loop-at.at) (start + 7 - c.loop-at.at) rest k left
    (c.in-Missing.ensures.missing refl)
    (c.loop-at.invariant k rest at (subst (λ s. Stands slots s 8 rest k) (sym slot) stands))

pub loop-at-preserved : goal.loop-at-preserved
loop-at-preserved c = λ k rest at stands.
    let start = c.slot_of-start.result in
    let left : start + 8 - c.loop-at.at ≡ suc (start + 8 - (c.loop-at.at + 1)) =
    omega (arith, c.loop-at-test.true) in
    Stands-next c.args.slots.now c.loop-at.at (start + 8 - c.loop-at.at)
    (start + 8 - (c.loop-at.at + 1)) rest k left (c.in-Unknown.ensures.unknown refl k at)
    (c.loop-at.invariant k rest at stands)

pub returns-clause-unknown : goal.returns-clause-unknown
returns-clause-unknown c = λ told k rest at stands.
    let slots = c.args.slots.now in
    let start = c.slot_of-start.result in
    let slot : start ≡ first_slot c.args.pair (length slots) = search rules in
    let left : start + 8 - c.loop-at.at ≡ 0 = omega (arith, c.loop-at-test.false) in
    Stands-rest slots c.loop-at.at (start + 8 - c.loop-at.at) rest k left
    (c.loop-at.invariant k rest at (subst (λ s. Stands slots s 8 rest k) (sym slot) stands))
