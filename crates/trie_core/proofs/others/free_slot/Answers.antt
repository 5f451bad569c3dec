use Rattle.std.proofs.Common.{◌≡◌, suc, ◌+◌, ◌-◌, ◌<◌, length, slice_get, set, Some, ap, ◌∙◌, arith}
use Rattle.std.proofs.lemmas.Option.{slice_get-get_or}
use Rattle.trie_core.proofs.WindowLemmas.{Keeps-set, Stands-set, Stands-behind, Stands-none}
use Rattle.trie_core.proofs.others.free_slot.Goals as goal

pub returns-then-slots-at-eq0 : goal.returns-then-slots-at-eq0
returns-then-slots-at-eq0 c =
    let slots = c.args.slots.now in
    let at = c.loop-at.at in
    let within : at < length slots = omega (arith, c.loop-at-test.true, c.requires) in
    let free : slice_get slots at ≡ Some 0 =
    slice_get-get_or slots at 0 within ∙ ap Some c.if-slots-at-eq0.true in
    let left : c.args.start + 8 - at ≡ suc (c.args.start + 7 - at) =
    omega (arith, c.loop-at-test.true) in (
      free,
      λ k rest. c.loop-at.invariant (set slots at (suc k)) rest k (Keeps-set slots at k free)
          (Stands-set slots at (c.args.start + 8 - at) (c.args.start + 7 - at) k rest left within),
    )

pub loop-at-preserved : goal.loop-at-preserved
loop-at-preserved c = λ slots' rest k kept stands.
    let slots = c.args.slots.now in
    let at = c.loop-at.at in
    let within : at < length slots = omega (arith, c.loop-at-test.true, c.requires) in
    let left : c.args.start + 8 - at ≡ suc (c.args.start + 8 - (at + 1)) =
    omega (arith, c.loop-at-test.true) in
    c.loop-at.invariant slots' rest k kept (Stands-behind slots slots' at (c.args.start + 8 - at)
    (c.args.start + 8 - (at + 1)) rest k left within c.if-slots-at-eq0.false kept stands)

pub returns : goal.returns
returns c = λ k.
    let slots = c.args.slots.now in
    let at = c.loop-at.at in
    let left : c.args.start + 8 - at ≡ 0 = omega (arith, c.loop-at-test.false) in
    c.loop-at.invariant slots (Some k) k (λ b v is. is)
    (Stands-none slots at (c.args.start + 8 - at) k left)
