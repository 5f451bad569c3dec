use Rattle.std.proofs.Common.{◌≡◌, ℕ, ◌^◌, ◌<◌, ◌≤◌}
use Rattle.std.specs.Prelude.{Some}
use Rattle.trie_core.specs.Store.{IsRootOf, leaf_at}
use Rattle.test_file.proofs.tests.files.painted.Given as goal

abbrev pub invariant-loop-first : goal.invariant-loop-first
invariant-loop-first g l = record {
  of : IsRootOf l.store l.root;
  low : (a k : ℕ) → a < 2 ^ 128 → leaf_at l.store l.root a ≡ Some k → k ≤ l.fn.leaf;
}
