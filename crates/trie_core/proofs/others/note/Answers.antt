use Rattle.std.proofs.Common.{◌≡◌, ℕ, List, suc, slice_get, set, length, Option, Some, subst}
use Rattle.std.proofs.Common.{rules}
use Rattle.trie_core.specs.Pairs.{Stands, first_slot, crowded_at}
use Rattle.trie_core.proofs.FoundLemmas.{IsPut-slot}
use Rattle.trie_core.proofs.others.note.Goals as goal

pub returns-in-Some-clause-put : goal.returns-in-Some-clause-put
returns-in-Some-clause-put c =
    let slots = c.args.slots.now.items in
    let at = c.in-Some.at in
    let start = c.slot_of-start.result in
    let slot : start ≡ first_slot c.args.pair (length slots) = search rules in
    let found = subst (λ (xs : List ℕ). (slice_get xs at ≡ Some 0)
    × ((k : ℕ) (rest : Option ℕ) → Stands (set xs at (suc k)) start 8 rest k))
    c.as_slice.ensures.value c.in-Some.ensures in
    IsPut-slot slots c.args.crowded.now c.args.pair c.args.number at found.0
    (subst (λ s. Stands (set slots at (suc c.args.number)) s 8
    (crowded_at c.args.crowded.now c.args.pair) c.args.number) slot
    (found.1 c.args.number (crowded_at c.args.crowded.now c.args.pair)))
