-- Addresses on their way from the nodes of a store to its leaves.
use Rattle.std.specs.Prelude.{◌≡◌, ℕ, ◌+◌, ◌^◌, ◌<◌, ◌≤◌, Bool, true, if◌then◌else◌, List, length}
use Rattle.std.specs.Prelude.{slice_index}
use Rattle.trie_core.specs.declared.node.Pair.{Pair}
use Rattle.trie_core.specs.declared.node.Rec.TheVariants.{Node}
use Rattle.trie_core.specs.Tree.{Tree, height}
use Rattle.trie_core.specs.Store.{meaning}
use Rattle.check_census.specs.Tally.{sum_upto, tally, IsEven}
use Rattle.check_census.specs.declared.spread.Weights.{Weights}

-- the tree of the node with this number
abbrev pub node_at : List Pair → ℕ → Tree ℕ
node_at pairs k = meaning pairs (Node (record { 0 = k }))

-- how many addresses that wait at the first n nodes will end at leaves that pass
abbrev pub waiting_for : (ℕ → Bool) → List Pair → List ℕ → ℕ → ℕ
waiting_for test pairs waiting n =
    sum_upto (λ k. tally test (slice_index waiting k) (node_at pairs k)) n

-- how many addresses have ended at the first n slots, where the slot passes
abbrev pub ended_at : (ℕ → Bool) → List ℕ → ℕ → ℕ
ended_at test xs n = sum_upto (λ k. if test k then slice_index xs k else 0) n

-- all that waits or has ended
abbrev pub sum_of : (ℕ → Bool) → List Pair → Weights → ℕ
sum_of test pairs w = waiting_for test pairs w.waiting.items
    (length pairs) + ended_at test w.ended.items (length w.ended.items)

-- leaves with no slot of their own end in slot 0, so a test is to tell them alike
abbrev pub IsPlain : ℕ → (ℕ → Bool) → Type 0
IsPlain slots test = (k : ℕ) → slots ≤ k → test k ≡ test 0

abbrev pub every : ℕ → Bool
every k = true

-- what holds of weights for a store
pub record AreWeights (pairs : List Pair) (slots : ℕ) (w : Weights) : Type 0 where
  pub nodes : length w.waiting.items ≡ length pairs
  pub slots_are : length w.ended.items ≡ slots
  pub some : 0 < slots
  pub even : (k : ℕ) → k < length pairs
      → IsEven (height (node_at pairs k)) (slice_index w.waiting.items k)
  pub few : sum_of every pairs w < 2 ^ 128

-- the later weights give each test this much more than the earlier ones
abbrev pub GainsTally : List Pair → ℕ → Weights → Weights → ((ℕ → Bool) → ℕ) → Type 0
GainsTally pairs slots old new gain = (test : ℕ → Bool) → IsPlain slots test
    → sum_of test pairs new ≡ sum_of test pairs old + gain test
