-- Weights at the beginning, and as they go on to the halves of a tree.
use Rattle.std.proofs.Common.{◌≡◌, ℕ, suc, ◌+◌, ◌-◌, ◌*◌, ◌/◌, ◌%◌, ◌^◌, ◌<◌, ◌≤◌, max, Bool, true}
use Rattle.std.proofs.Common.{false, List, length, get_or, sym, ap, subst, ◌∙◌, arith}
use Rattle.std.proofs.lemmas.Nat.{one_shl, pow_pos}
use Rattle.std.proofs.Math.Nat.{two-pow-succ}
use Rattle.trie_core.specs.declared.node.NodeId.{NodeId}
use Rattle.trie_core.specs.declared.node.Pair.{Pair}
use Rattle.trie_core.specs.declared.node.Rec.TheVariants.{Node}
use Rattle.trie_core.specs.Graft.{half}
use Rattle.trie_core.specs.Store.{meaning}
use Rattle.trie_core.specs.Tree.{Tree, node, height}
use Rattle.check_census.specs.Spread.{AreWeights, ended_at, every, node_at, sum_of}
use Rattle.check_census.specs.Tally.{IsEven, low_part, tally, tally_beyond}
use Rattle.check_census.specs.declared.spread.Weights.{Weights}
use Rattle.check_census.proofs.SpreadLemmas.{ended_at-zero, waiting_for-zero}
use Rattle.check_census.proofs.TallyLemmas.{IsEven-half, IsEven-lower, IsEven-power, height-half}

pub sums_begin : (pairs : List Pair) (w : Weights) → ((k : ℕ) → get_or w.waiting.items k 0 ≡ 0)
    → ((k : ℕ) → get_or w.ended.items k 0 ≡ 0) → (test : ℕ → Bool) → sum_of test pairs w ≡ 0
sums_begin pairs w none_waits none_ended test =
    let a = waiting_for-zero test pairs w.waiting.items (length pairs) none_waits in
    let b = ended_at-zero test w.ended.items (length w.ended.items) none_ended in
    omega arith

pub weights_begin : (pairs : List Pair) (slots : ℕ) (w : Weights)
    → length w.waiting.items ≡ length pairs → length w.ended.items ≡ slots → 0 < slots
    → ((k : ℕ) → get_or w.waiting.items k 0 ≡ 0) → ((k : ℕ) → get_or w.ended.items k 0 ≡ 0)
    → AreWeights pairs slots w
weights_begin pairs slots w nodes slots_are some none_waits none_ended = record {
  nodes = nodes;
  slots_are = slots_are;
  some = some;
  even = λ k lt. (0, none_waits k ∙ omega arith);
  few = let none = sums_begin pairs w none_waits none_ended every in omega arith;
}

-- at the end nothing waits
pub all_ended : (pairs : List Pair) (w : Weights) (number : ℕ) → number ≤ 0
    → ((k : ℕ) → number ≤ k → get_or w.waiting.items k 0 ≡ 0) → (test : ℕ → Bool)
    → ended_at test w.ended.items (length w.ended.items) ≡ sum_of test pairs w
all_ended pairs w number last gone test =
    let none = waiting_for-zero test pairs w.waiting.items (length pairs)
    (λ k. gone k (omega arith)) in
    omega arith

-- the halves of a weight can be halved at the children
pub even_left : (t l r : Tree ℕ) (w : ℕ) → t ≡ node l r → IsEven (height t) w
    → IsEven (height l) (w / 2)
even_left t l r w is even =
    let at : IsEven (suc (max (height l) (height r))) w =
    subst (λ u. IsEven (height u) w) is even in
    IsEven-lower (height l) (max (height l) (height r)) (w / 2) (omega arith)
    (IsEven-half (max (height l) (height r)) w at)

pub even_right : (t l r : Tree ℕ) (w : ℕ) → t ≡ node l r → IsEven (height t) w
    → IsEven (height r) (w / 2)
even_right t l r w is even =
    let at : IsEven (suc (max (height l) (height r))) w =
    subst (λ u. IsEven (height u) w) is even in
    IsEven-lower (height r) (max (height l) (height r)) (w / 2) (omega arith)
    (IsEven-half (max (height l) (height r)) w at)

-- the tree of a node's number
pub node_is : (pairs : List Pair) (id : NodeId) (k : ℕ) → id.0 ≡ k
    → node_at pairs k ≡ meaning pairs (Node id)
node_is pairs id k is = sym (ap (node_at pairs) is)

-- a step down the zeros
pub tally_beyond-step : (test : ℕ → Bool) (t : Tree ℕ) (d : ℕ) → d < 96
    → tally_beyond test 32 (96 - d) t ≡ tally_beyond test 32 (96 - (d + 1))
    (half false t) + tally test (2 ^ (127 - d)) (half true t)
unfolding tally_beyond
tally_beyond-step test t d lt =
    let next : 96 - d ≡ suc (96 - (d + 1)) = omega arith in
    let bits : 32 + (96 - (d + 1)) ≡ 127 - d = omega arith in
    ap (λ k. tally_beyond test 32 k t) next
    ∙ ap (λ e. tally_beyond test 32 (96 - (d + 1)) (half false t) + tally test (2 ^ e)
    (half true t)) bits

pub low_part-step : (t : Tree ℕ) (d : ℕ) → d < 96
    → low_part (96 - d) t ≡ low_part (96 - (d + 1)) (half false t)
unfolding low_part
low_part-step t d lt = let next : 96 - d ≡ suc (96 - (d + 1)) = omega arith in
    ap (λ k. low_part k t) next

pub tally_beyond-end : (test : ℕ → Bool) (t : Tree ℕ) (k : ℕ) → k ≡ 0 → tally_beyond test 32 k t ≡ 0
unfolding tally_beyond
tally_beyond-end test t k is = ap (λ j. tally_beyond test 32 j t) is

pub low_part-end : (t : Tree ℕ) (k : ℕ) → k ≡ 0 → low_part k t ≡ t
unfolding low_part
low_part-end t k is = ap (λ j. low_part j t) is

-- the weight that comes to the other half, as the code has it
pub shifted : (d : ℕ) → d < 96 → (1 * 2 ^ (127 - d)) % 2 ^ 128 ≡ 2 ^ (127 - d)
shifted d lt = one_shl (127 - d) 128 (omega arith)

pub low_half : (b : Bool) (t u : Tree ℕ) (d : ℕ) → d < 96 → u ≡ half b t → height t ≤ 128 - d
    → height u ≤ 127 - d
low_half b t u d lt is low =
    let at = height-half b t (127 - d) (omega arith) in
    let same = ap height is in
    omega arith

pub even_shifted : (t u : Tree ℕ) (d : ℕ) → d < 96 → u ≡ half true t → height t ≤ 128 - d
    → IsEven (height u) ((1 * 2 ^ (127 - d)) % 2 ^ 128)
even_shifted t u d lt is low =
    subst (λ w. IsEven (height u) w) (sym (shifted d lt))
    (IsEven-power (height u) (127 - d) (low_half true t u d lt is low))

pub halved_room : (d sum : ℕ) → d < 96 → sum + 2 ^ (128 - d) ≡ 2 ^ 128
    → (sum + 2 ^ (127 - d)) + 2 ^ (128 - (d + 1)) ≡ 2 ^ 128
halved_room d sum lt all =
    let next : 128 - d ≡ suc (127 - d) = omega arith in
    let double : 2 ^ (128 - d) ≡ 2 ^ (127 - d) + 2 ^ (127 - d) =
    ap (λ e. 2 ^ e) next ∙ two-pow-succ (127 - d) in
    let same : 128 - (d + 1) ≡ 127 - d = omega arith in
    let size : 2 ^ (128 - (d + 1)) ≡ 2 ^ (127 - d) = ap (λ e. 2 ^ e) same in
    omega arith

pub room_left : (d sum : ℕ) → d < 96 → sum + 2 ^ (128 - d) ≡ 2 ^ 128
    → sum + (1 * 2 ^ (127 - d)) % 2 ^ 128 < 2 ^ 128
room_left d sum lt all =
    let next : 128 - d ≡ suc (127 - d) = omega arith in
    let double : 2 ^ (128 - d) ≡ 2 ^ (127 - d) + 2 ^ (127 - d) =
    ap (λ e. 2 ^ e) next ∙ two-pow-succ (127 - d) in
    let some = pow_pos (127 - d) in
    let is = shifted d lt in
    omega arith
