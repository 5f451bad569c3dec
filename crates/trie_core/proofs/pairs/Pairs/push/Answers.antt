use Rattle.std.proofs.Common.{List, Contains, sym, subst, arith}
use Rattle.trie_core.specs.declared.node.Pair.{Pair}
use Rattle.trie_core.proofs.pairs.Pairs.push.Goals as goal

pub note_number-requires-clause-number : goal.note_number-requires-clause-number
note_number-requires-clause-number c =
    rw (c.as_slice-pairs.ensures.value, c.in_ok-reserve.ensures.items)
    (omega (arith, c.len-number.ensures))

pub note_number-requires-clause-found : goal.note_number-requires-clause-found
note_number-requires-clause-found c =
    rw (c.as_slice-pairs.ensures.value, c.in_ok-reserve.ensures.items) c.self.invariant

pub note_number-requires-clause-new : goal.note_number-requires-clause-new
note_number-requires-clause-new c =
    rw (c.as_slice-pairs.ensures.value, c.in_ok-reserve.ensures.items)
    (subst (λ (ps : List Pair). Contains ps c.args.pair → ⊥) (sym c.self.view_is) c.requires.new)

pub invariant_of-self-2 : goal.invariant_of-self-2
invariant_of-self-2 c =
    rw (c.push_reserved.ensures.items)
    (rw c.as_slice-pairs.ensures.value at c.in_ok-note_number.ensures.noted)
