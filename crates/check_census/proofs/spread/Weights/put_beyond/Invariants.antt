-- What was put and what is still to be put is all; the record is that of the zeros so far.
use Rattle.std.proofs.Common.{◌≡◌, ℕ, ◌+◌, ◌-◌, ◌^◌, ◌≤◌, Bool, length}
use Rattle.trie_core.specs.Tree.{height}
use Rattle.trie_core.specs.Store.{meaning, IsOf}
use Rattle.check_census.specs.Spread.{AreWeights, IsPlain, every, sum_of}
use Rattle.check_census.specs.Tally.{low_part, tally_beyond}
use Rattle.check_census.proofs.spread.Weights.put_beyond.Given as goal

abbrev pub invariant-loop-depth : goal.invariant-loop-depth
invariant-loop-depth l = record {
  of : IsOf l.store l.rec;
  low : height (meaning l.store l.rec) ≤ 128 - l.depth;
  weights : AreWeights l.store (length l.fn.self.ended.items) l.self;
  put : (test : ℕ → Bool) → IsPlain (length l.fn.self.ended.items) test
      → sum_of test l.store l.self + tally_beyond test 32 (96 - l.depth)
      (meaning l.store l.rec) ≡ tally_beyond test 32 96 (meaning l.store l.fn.rec);
  room : sum_of every l.store l.self + 2 ^ (128 - l.depth) ≡ 2 ^ 128;
  rest : low_part (96 - l.depth) (meaning l.store l.rec) ≡ low_part 96 (meaning l.store l.fn.rec);
}
