-- The tree under a block, by the bits of its prefix.
use Rattle.std.proofs.Common.{◌≡◌, ℕ, zero, suc, ◌+◌, ◌-◌, ◌*◌, ◌/◌, ◌%◌, ◌^◌, ◌<◌, ◌≤◌, ◌==◌, Bool}
use Rattle.std.proofs.Common.{true, false, List, [], ◌∷◌, ◌++◌, length, refl}
use Rattle.std.proofs.Common.{sym, ap, ◌∙◌, arith}
use Rattle.std.specs.Int.{bit_at}
use Rattle.std.specs.Prelude.{bit_and}
use Rattle.std.proofs.lemmas.Nat.{pow-add, pow_pos, div-mul-add}
use Rattle.std.proofs.Math.Nat.{div-div-eq-div-mul}
use Rattle.std.proofs.lemmas.Nat.Bits.{shr_and_one}
use Rattle.geo_addr.specs.Bits.{bits_of}
use Rattle.geo_addr.specs.Ranges.{Prefix, IsBlock, IsWithin, range_of_block}
use Rattle.geo_addr.proofs.BitsLemmas.{length-bits_of}
use Rattle.trie_core.specs.Tree.{Tree, leaf, node, height, look}
use Rattle.least_nodes.specs.Layout.{below}
use Rattle.publish_least.specs.Choice.{prefix_bits, part_of}
use Rattle.publish_least.proofs.Whole.{IsNth-of_block, block_number}

-- the bits of a number are those of its high part and those of its low part
pub bits_of-cut : (k n m a : ℕ) → m ≡ k + n → bits_of m a ≡ bits_of k (a / 2 ^ n) ++ bits_of n a
unfolding bits_of
bits_of-cut zero n m a is = let same : m ≡ n = omega arith in ap (λ i. bits_of i a) same
bits_of-cut (suc k) n zero a is = absurd (omega arith)
bits_of-cut (suc k) n (suc m) a is =
    let rest : m ≡ n + k = omega arith in
    let power : 2 ^ m ≡ 2 ^ n * 2 ^ k = ap (λ e. 2 ^ e) rest ∙ pow-add 2 n k in
    let bit : bit_at a m ≡ bit_at (a / 2 ^ n) k =
    ap (λ p. a / p % 2) power ∙ ap (λ x. x % 2) (sym (div-div-eq-div-mul a (2 ^ n) (2 ^ k))) in
    ap (λ x. (x == 1) ∷ bits_of m a) bit
    ∙ ap (λ w. (bit_at (a / 2 ^ n) k == 1) ∷ w) (bits_of-cut k n m a (omega arith))

-- the way through a tree goes on from where it has come to
pub look-below : (t : Tree ℕ) (p w : List Bool) → look t (p ++ w) ≡ look (below t p) w
look-below t [] w = refl
look-below (leaf x) (b ∷ p) w = refl
look-below (node l r) (false ∷ p) w = look-below l p w
look-below (node l r) (true ∷ p) w = look-below r p w

pub below-leaf : (x : ℕ) (w : List Bool) → below (leaf x) w ≡ leaf x
below-leaf x [] = refl
below-leaf x (b ∷ w) = refl

pub below-append : (t : Tree ℕ) (p w : List Bool) → below t (p ++ w) ≡ below (below t p) w
below-append t [] w = refl
below-append (leaf x) (b ∷ p) w = sym (below-leaf x w)
below-append (node l r) (false ∷ p) w = below-append l p w
below-append (node l r) (true ∷ p) w = below-append r p w

pub height-below : (t : Tree ℕ) (w : List Bool) (n : ℕ) → height t ≤ n
    → height (below t w) ≤ n - length w
height-below t [] n low = omega arith
height-below (leaf x) (b ∷ w) n low = omega arith
height-below (node l r) (false ∷ w) n low =
    let rest = height-below l w (n - 1) (omega arith) in omega arith
height-below (node l r) (true ∷ w) n low =
    let rest = height-below r w (n - 1) (omega arith) in omega arith

div-one : (n : ℕ) → n / 2 ^ 0 ≡ n
div-one n = omega arith

-- the last bit of a number
last_bit : (n : ℕ) → bits_of 1 n ≡ (n % 2 == 1) ∷ []
unfolding bits_of
last_bit n = ap (λ x. (x % 2 == 1) ∷ []) (div-one n)

-- no bits lead nowhere
pub below-start : (t : Tree ℕ) (a : ℕ) → below t (bits_of 0 a) ≡ t
unfolding bits_of
below-start t a = refl

pub below-of_leaf : (t : Tree ℕ) (x : ℕ) (w : List Bool) → t ≡ leaf x → t ≡ below t w
below-of_leaf t x w is = is ∙ sym (below-leaf x w) ∙ ap (λ s. below s w) (sym is)

-- one bit of a prefix more
pub below-step : (t : Tree ℕ) (first depth : ℕ)
    → depth < 128 → below t (bits_of (depth + 1) (first / 2 ^ (128 - (depth + 1)))) ≡ below
    (below t (bits_of depth (first / 2 ^ (128 - depth)))) ((bit_at first (127 - depth) == 1) ∷ [])
below-step t first depth within =
    let m : ℕ = first / 2 ^ (128 - (depth + 1)) in
    let exponent : 128 - (depth + 1) ≡ 127 - depth = omega arith in
    let sum : (127 - depth) + 1 ≡ 128 - depth = omega arith in
    let size : 2 ^ (128 - depth) ≡ 2 ^ (127 - depth) * 2 ^ 1 =
    ap (λ e. 2 ^ e) (sym sum) ∙ pow-add 2 (127 - depth) 1 in
    let high : m / 2 ^ 1 ≡ first / 2 ^ (128 - depth) = ap (λ e. first / 2 ^ e / 2 ^ 1) exponent
    ∙ div-div-eq-div-mul first (2 ^ (127 - depth)) (2 ^ 1) ∙ ap (λ p. first / p) (sym size) in
    let last : bits_of 1 m ≡ (bit_at first (127 - depth) == 1) ∷ [] =
    last_bit m ∙ ap (λ e. (first / 2 ^ e % 2 == 1) ∷ []) exponent in
    ap (below t)
    (bits_of-cut depth 1 (depth + 1) m refl ∙ ap (λ x. bits_of depth x ++ bits_of 1 m) high
    ∙ ap (λ w. bits_of depth (first / 2 ^ (128 - depth)) ++ w) last)
    ∙ below-append t (bits_of depth (first / 2 ^ (128 - depth)))
    ((bit_at first (127 - depth) == 1) ∷ [])

-- the same step as the loop has it
pub below-child : (t s u : Tree ℕ) (first depth : ℕ)
    → depth < 128 → s ≡ below t (bits_of depth (first / 2 ^ (128 - depth)))
    → u ≡ below s ((bit_and (first / 2 ^ (127 - depth)) 1 == 1) ∷ [])
    → u ≡ below t (bits_of (depth + 1) (first / 2 ^ (128 - (depth + 1))))
below-child t s u first depth within here child =
    child ∙ ap (λ x. below s ((x == 1) ∷ [])) (shr_and_one first (127 - depth))
    ∙ ap (λ v. below v ((bit_at first (127 - depth) == 1) ∷ [])) here
    ∙ sym (below-step t first depth within)

-- how high the tree is after so many bits
pub low-after : (t s : Tree ℕ) (a depth len : ℕ) → height t ≤ 128
    → s ≡ below t (bits_of depth a) → depth ≡ len → height s ≤ 128 - len
low-after t s a depth len low is all =
    let h = height-below t (bits_of depth a) 128 low in
    let long = length-bits_of depth a in
    let same = ap height is in
    omega arith

-- the leaf of an address of a block is that of the tree under the block
pub look-part : (t : Tree ℕ) (b : Prefix) → IsBlock b → (a : ℕ) → IsWithin (range_of_block b) a
    → look t (bits_of 128 a) ≡ look (part_of t b) (bits_of (128 - b.len) a)
look-part t b block a is =
    let n : ℕ = 128 - b.len in
    let nth = IsNth-of_block b block in
    let at = nth.at in
    let fits = block.length_fits in
    let some = pow_pos (128 - b.len) in
    let low = is.0 in
    let high = is.1 in
    let r : ℕ = a - b.first in
    let whole : a ≡ block_number b * 2 ^ (128 - b.len) + r = omega arith in
    let number : a / 2 ^ (128 - b.len) ≡ b.first / 2 ^ (128 - b.len) =
    ap (λ x. x / 2 ^ (128 - b.len)) whole
    ∙ div-mul-add (block_number b) (2 ^ (128 - b.len)) r (omega arith) in
    ap (look t) (bits_of-cut b.len (128 - b.len) 128 a (omega arith)
    ∙ ap (λ x. bits_of b.len x ++ bits_of (128 - b.len) a) number)
    ∙ look-below t (prefix_bits b) (bits_of (128 - b.len) a)

pub height-part : (t : Tree ℕ) (b : Prefix) → height t ≤ 128 → height (part_of t b) ≤ 128 - b.len
height-part t b low =
    let h = height-below t (prefix_bits b) 128 low in
    let long = length-bits_of b.len (b.first / 2 ^ (128 - b.len)) in
    omega arith
