-- How many addresses come to the leaves of a tree that pass a test.
use Rattle.std.specs.Prelude.{◌≡◌, ℕ, zero, suc, ◌+◌, ◌*◌, ◌/◌, ◌^◌, Bool, false, true}
use Rattle.std.specs.Prelude.{if◌then◌else◌, Option, Some, None}
use Rattle.trie_core.specs.Tree.{Tree, leaf, node}
use Rattle.trie_core.specs.Graft.{half}

-- the sum of what the first n numbers give
unfoldable pub sum_upto : (ℕ → ℕ) → ℕ → ℕ
sum_upto f zero = 0
sum_upto f (suc n) = sum_upto f n + f n

-- how many of the first n numbers pass a test
unfoldable pub count_below : (ℕ → Bool) → ℕ → ℕ
count_below test zero = 0
count_below test (suc n) = count_below test n + (if test n then 1 else 0)

-- whether a leaf that was found passes a test
abbrev pub passes : (ℕ → Bool) → Option ℕ → Bool
passes test None = false
passes test (Some x) = test x

-- of w addresses that come to a tree half go each way; how many end at leaves that pass
abbrev pub tally : (ℕ → Bool) → ℕ → Tree ℕ → ℕ
tally test w (leaf x) = if test x then w else 0
tally test w (node l r) = tally test (w / 2) l + tally test (w / 2) r

-- so many addresses can be halved at each node of a tree of this height
abbrev pub IsEven : ℕ → ℕ → Type 0
IsEven height w = (share : ℕ) × (w ≡ 2 ^ height * share)

-- the tree of the addresses that begin with so many zeros
unfoldable pub low_part : ℕ → Tree ℕ → Tree ℕ
low_part zero t = t
low_part (suc k) t = low_part k (half false t)

-- the addresses of a tree of n + k bits that do not begin with k zeros: how many end at leaves that
-- pass
unfoldable pub tally_beyond : (ℕ → Bool) → ℕ → ℕ → Tree ℕ → ℕ
tally_beyond test n zero t = 0
tally_beyond test n (suc k) t =
    tally_beyond test n k (half false t) + tally test (2 ^ (n + k)) (half true t)
