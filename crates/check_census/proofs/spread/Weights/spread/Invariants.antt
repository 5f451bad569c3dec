-- The first so many nodes may hold back addresses still; what is heard of each test stays.
use Rattle.std.proofs.Common.{◌≡◌, ℕ, ◌≤◌, Bool, length, get_or}
use Rattle.check_census.specs.Spread.{AreWeights, IsPlain, sum_of}
use Rattle.check_census.proofs.spread.Weights.spread.Given as goal

abbrev pub invariant-loop-number : goal.invariant-loop-number
invariant-loop-number l = record {
  within : l.number ≤ length l.store;
  weights : AreWeights l.store (length l.fn.self.ended.items) l.self;
  same : (test : ℕ → Bool) → IsPlain (length l.fn.self.ended.items) test
      → sum_of test l.store l.self ≡ sum_of test l.store l.fn.self;
  gone : (k : ℕ) → l.number ≤ k → get_or l.self.waiting.items k 0 ≡ 0;
}

abbrev pub decreases-loop-number : goal.decreases-loop-number
decreases-loop-number l = l.number
