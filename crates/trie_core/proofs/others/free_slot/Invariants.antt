use Rattle.std.proofs.Common.{ℕ, ◌+◌, ◌-◌, List, Option}
use Rattle.trie_core.specs.Pairs.{Stands, Keeps}
use Rattle.trie_core.proofs.others.free_slot.Given as goal

abbrev pub invariant-loop-at : goal.invariant-loop-at
invariant-loop-at l =
    (slots' : List ℕ) (rest : Option ℕ) (k : ℕ) → Keeps l.slots slots'
    → Stands slots' l.at (l.start + 8 - l.at) rest k → Stands slots' l.start 8 rest k
