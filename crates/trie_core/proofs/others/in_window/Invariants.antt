use Rattle.std.proofs.Common.{◌≡◌, ℕ, ◌+◌, ◌-◌, Option, Some, slice_get}
use Rattle.trie_core.specs.Pairs.{Stands}
use Rattle.trie_core.proofs.others.in_window.Given as goal

abbrev pub invariant-loop-at : goal.invariant-loop-at
invariant-loop-at l =
    (k : ℕ) (rest : Option ℕ) → slice_get l.pairs k ≡ Some l.pair
    → Stands l.slots l.start 8 rest k → Stands l.slots l.at (l.start + 8 - l.at) rest k
