-- Lemmas on the tree below a way, and on a tree that is put at its end.
use Rattle.std.proofs.Common.{◌≡◌, ◌≢◌, ℕ, zero, suc, ◌+◌, ◌-◌, ◌*◌, ◌/◌, ◌%◌, ◌^◌, ◌<◌, ◌≤◌}
use Rattle.std.proofs.Common.{◌==◌, bit_and, Bool, true, false, List, [], ◌∷◌, ◌++◌}
use Rattle.std.proofs.Common.{length, take, refl, sym, ◌∙◌, ap, ap₂, subst, arith}
use Rattle.std.proofs.Common.{nat_eq}
use Rattle.std.proofs.Math.Nat.{div-div-eq-div-mul, div-lt_iff_lt-mul}
use Rattle.std.proofs.Math.Nat.{mul_comm}
use Rattle.std.proofs.Math.Seq.{take-append_seam}
use Rattle.std.proofs.lemmas.Nat.{pow-add}
use Rattle.std.specs.Int.{bit_at}
use Rattle.std.proofs.lemmas.Nat.Bits.{bit_at-lt, shr_and_one}
use Rattle.geo_addr.specs.Bits.{bits_of, number_of}
use Rattle.geo_addr.specs.Ranges.{Prefix, IsBlock, IsWithin, range_of_block}
use Rattle.geo_addr.proofs.BitsLemmas.{length-bits_of, number_of-bits_of, pow-positive}
use Rattle.trie_core.specs.Tree.{Tree, leaf, node, height, look, join}
use Rattle.trie_core.specs.Laws.{IsEquality}
use Rattle.trie_core.specs.Graft.{way_of, half, sub, graft, DoPart, BelowAnswers, GraftAnswers}
use Rattle.trie_core.specs.Graft.{CopyAnswersAlike}
use Rattle.trie_core.proofs.TreeLemmas.{look-join, height-join}

-- ---- trees

module _ {A : Type 0} where
  -- a bit leads to its half
  pub look-half : (t : Tree A) (b : Bool) (w : List Bool) → look (half b t) w ≡ look t (b ∷ w)
  look-half (leaf a) b w = refl
  look-half (node l r) false w = refl
  look-half (node l r) true w = refl

  pub height-half : (b : Bool) (t : Tree A) (n : ℕ) → height t ≤ suc n → height (half b t) ≤ n
  height-half b (leaf a) n low = omega arith
  height-half false (node l r) n low = omega arith
  height-half true (node l r) n low = omega arith

  pub look-sub : (t : Tree A) (way w : List Bool) → look (sub t way) w ≡ look t (way ++ w)
  look-sub t [] w = refl
  look-sub t (b ∷ way) w = look-sub (half b t) way w ∙ look-half t b (way ++ w)

  pub height-sub : (t : Tree A) (way : List Bool) (n : ℕ) → height t ≤ length way + n
      → height (sub t way) ≤ n
  height-sub t [] n low = omega arith
  height-sub t (b ∷ way) n low =
      height-sub (half b t) way n (height-half b t (length way + n) (omega arith))

  -- a leaf answers along every list, and so does a whole tree along a
  -- list that is as long as it is high
  pub look-more : (t : Tree A) (w more : List Bool) → height t ≤ length w
      → look t (w ++ more) ≡ look t w
  look-more (leaf a) w more low = refl
  look-more (node l r) [] more low = absurd (omega arith)
  look-more (node l r) (false ∷ w) more low = look-more l w more (omega arith)
  look-more (node l r) (true ∷ w) more low = look-more r w more (omega arith)

  module _ (eq : A → A → Bool) (equality : IsEquality eq) where
    -- behind the way of the graft its tree answers
    pub look-graft_inside : (t s : Tree A) (way w : List Bool)
        → look (graft eq t way s) (way ++ w) ≡ look s w
    look-graft_inside t s [] w = refl
    look-graft_inside t s (false ∷ way) w =
        look-join eq equality (graft eq (half false t) way s) (half true t) false (way ++ w)
        ∙ look-graft_inside (half false t) s way w
    look-graft_inside t s (true ∷ way) w =
        look-join eq equality (half false t) (graft eq (half true t) way s) true (way ++ w)
        ∙ look-graft_inside (half true t) s way w

    -- and elsewhere the old tree
    pub look-graft_elsewhere : (t s : Tree A) (way w : List Bool) → DoPart way w
        → look (graft eq t way s) w ≡ look t w
    look-graft_elsewhere t s [] w parts = absurd parts
    look-graft_elsewhere t s (b ∷ way) [] parts = absurd parts
    look-graft_elsewhere t s (false ∷ way) (false ∷ w) parts =
        look-join eq equality (graft eq (half false t) way s) (half true t) false w
        ∙ look-graft_elsewhere (half false t) s way w parts ∙ look-half t false w
    look-graft_elsewhere t s (true ∷ way) (true ∷ w) parts =
        look-join eq equality (half false t) (graft eq (half true t) way s) true w
        ∙ look-graft_elsewhere (half true t) s way w parts ∙ look-half t true w
    look-graft_elsewhere t s (false ∷ way) (true ∷ w) parts =
        look-join eq equality (graft eq (half false t) way s) (half true t) true w
        ∙ look-half t true w
    look-graft_elsewhere t s (true ∷ way) (false ∷ w) parts =
        look-join eq equality (half false t) (graft eq (half true t) way s) false w
        ∙ look-half t false w

    pub height-graft : (t s : Tree A) (way : List Bool) (n : ℕ) → height t ≤ length way + n
        → height s ≤ n → height (graft eq t way s) ≤ length way + n
    height-graft t s [] n low s-low = omega arith
    height-graft t s (false ∷ way) n low s-low =
        omega (
          arith,
          height-join eq equality (graft eq (half false t) way s) (half true t),
          height-graft (half false t) s way n
              (height-half false t (length way + n) (omega arith)) s-low,
          height-half true t (length way + n) (omega arith),
        )
    height-graft t s (true ∷ way) n low s-low =
        omega (
          arith,
          height-join eq equality (half false t) (graft eq (half true t) way s),
          height-graft (half true t) s way n
              (height-half true t (length way + n) (omega arith)) s-low,
          height-half false t (length way + n) (omega arith),
        )

-- ---- ways that part

-- ways that part do so whatever follows them
pub DoPart-append : (v w more : List Bool) → DoPart v w → DoPart v (w ++ more)
DoPart-append [] w more parts = absurd parts
DoPart-append (b ∷ v) [] more parts = absurd parts
DoPart-append (false ∷ v) (false ∷ w) more parts = DoPart-append v w more parts
DoPart-append (true ∷ v) (true ∷ w) more parts = DoPart-append v w more parts
DoPart-append (false ∷ v) (true ∷ w) more parts = tt
DoPart-append (true ∷ v) (false ∷ w) more parts = tt

-- different lists of one length part
pub DoPart-from_unlike : (v w : List Bool) → length v ≡ length w → v ≢ w → DoPart v w
DoPart-from_unlike [] [] long unlike = absurd (unlike refl)
DoPart-from_unlike [] (c ∷ w) long unlike = absurd (omega arith)
DoPart-from_unlike (b ∷ v) [] long unlike = absurd (omega arith)
DoPart-from_unlike (false ∷ v) (false ∷ w) long unlike =
    DoPart-from_unlike v w (omega arith) (λ same. unlike (ap (λ x. false ∷ x) same))
DoPart-from_unlike (true ∷ v) (true ∷ w) long unlike =
    DoPart-from_unlike v w (omega arith) (λ same. unlike (ap (λ x. true ∷ x) same))
DoPart-from_unlike (false ∷ v) (true ∷ w) long unlike = tt
DoPart-from_unlike (true ∷ v) (false ∷ w) long unlike = tt

-- ---- the laws

pub BelowAnswers-holds : (A : Type 0) → BelowAnswers A
BelowAnswers-holds A = look-sub

pub GraftAnswers-holds : (A : Type 0) → GraftAnswers A
GraftAnswers-holds A eq equality t s way w =
    (look-graft_inside eq equality t s way w, look-graft_elsewhere eq equality t s way w)

pub CopyAnswersAlike-holds : (A : Type 0) → CopyAnswersAlike A
CopyAnswersAlike-holds A eq equality t from to w parts =
    look-graft_inside eq equality t (sub t from) to w ∙ look-sub t from w
    ∙ sym
    (look-graft_elsewhere eq equality t (sub t from) to (from ++ w) (DoPart-append to from w parts))

-- ---- the bits of a block

-- the higher bits of a number and then its lower ones
pub bits_of-append : (m n a : ℕ) → bits_of (m + n) a ≡ bits_of m (a / 2 ^ n) ++ bits_of n a
unfolding bits_of
bits_of-append zero n a = ap (λ k. bits_of k a) (omega arith)
bits_of-append (suc m) n a =
    let more : suc m + n ≡ suc (m + n) = omega arith in
    let landed : a / 2 ^ n / 2 ^ m ≡ a / 2 ^ (m + n) =
    div-div-eq-div-mul a (2 ^ n) (2 ^ m)
    ∙ ap (λ x. a / x) (mul_comm (2 ^ n) (2 ^ m) ∙ sym (pow-add 2 m n)) in
    let bit : bit_at a (m + n) ≡ bit_at (a / 2 ^ n) m = ap (λ x. x % 2) (sym landed) in
    ap (λ k. bits_of k a) more ∙ ap₂ (λ b w. (b == 1) ∷ w) bit (bits_of-append m n a)

-- the way of a block is the bits of its number among the blocks of its length
way_of-bits : (m n a : ℕ) → take m (bits_of (m + n) a) ≡ bits_of m (a / 2 ^ n)
way_of-bits m n a =
    let high : List Bool = bits_of m (a / 2 ^ n) in
    ap (take m) (bits_of-append m n a)
    ∙ ap (λ k. take k (high ++ bits_of n a)) (sym (length-bits_of m (a / 2 ^ n)))
    ∙ take-append_seam high (bits_of n a)

-- a number that lies as many multiples of k up as another one does
same_multiple : (k f a : ℕ) → 0 < k → f % k ≡ 0 → f ≤ a → a < f + k → a / k ≡ f / k
same_multiple k f a some aligned from to = grind arith

module _ (block : Prefix) (is : IsBlock block) where
  all_bits : block.len + (128 - block.len) ≡ 128
  all_bits = omega (arith, is.length_fits)

  way_of-is : way_of block ≡ bits_of block.len (block.first / 2 ^ (128 - block.len))
  way_of-is =
      ap (λ k. take block.len (bits_of k block.first)) (sym all_bits)
      ∙ way_of-bits block.len (128 - block.len) block.first

  bits_of-is : (a : ℕ)
      → bits_of 128 a ≡ bits_of block.len (a / 2 ^ (128 - block.len)) ++ bits_of (128 - block.len) a
  bits_of-is a = ap (λ k. bits_of k a) (sym all_bits) ∙ bits_of-append block.len (128 - block.len) a

  pub length-way_of : length (way_of block) ≡ block.len
  length-way_of =
      ap length way_of-is ∙ length-bits_of block.len (block.first / 2 ^ (128 - block.len))

  -- the bits of an address of the block begin with its way
  pub bits_of-inside : (a : ℕ) → IsWithin (range_of_block block) a
      → bits_of 128 a ≡ way_of block ++ bits_of (128 - block.len) a
  bits_of-inside a within =
      let positive : 0 < 2 ^ (128 - block.len) = pow-positive (128 - block.len) in
      let same : a / 2 ^ (128 - block.len) ≡ block.first / 2 ^ (128 - block.len) =
      same_multiple (2 ^ (128 - block.len)) block.first a positive is.aligned within.0
      (omega (arith, within.1)) in
      bits_of-is a ∙ ap (λ x. bits_of block.len x ++ bits_of (128 - block.len) a) same
      ∙ ap (λ w. w ++ bits_of (128 - block.len) a) (sym way_of-is)

  -- the bits of any other address part from it
  pub bits_of-outside : (a : ℕ) → a < 2 ^ 128
      → (IsWithin (range_of_block block) a → ⊥) → DoPart (way_of block) (bits_of 128 a)
  bits_of-outside a below outside =
      let positive : 0 < 2 ^ (128 - block.len) = pow-positive (128 - block.len) in
      let power : 2 ^ 128 ≡ 2 ^ block.len * 2 ^ (128 - block.len) =
      ap (λ k. 2 ^ k) (sym all_bits) ∙ pow-add 2 block.len (128 - block.len) in
      let a-few : a / 2 ^ (128 - block.len) < 2 ^ block.len =
      (div-lt_iff_lt-mul positive).1 (subst (λ x. a < x) power below) in
      let first-few : block.first / 2 ^ (128 - block.len) < 2 ^ block.len =
      (div-lt_iff_lt-mul positive).1 (subst (λ x. block.first < x) power is.within) in
      let own : List Bool = bits_of block.len (block.first / 2 ^ (128 - block.len)) in
      let other : List Bool = bits_of block.len (a / 2 ^ (128 - block.len)) in
      let unlike : own ≢ other = λ same.
      let numbers : block.first / 2 ^ (128 - block.len) ≡ a / 2 ^ (128 - block.len) =
      sym (number_of-bits_of block.len _ first-few) ∙ ap number_of same
      ∙ number_of-bits_of block.len _ a-few in
      outside
      (within_from_same (2 ^ (128 - block.len)) block.first a positive is.aligned numbers) in
      let long : length own ≡ length other =
      length-bits_of block.len _ ∙ sym (length-bits_of block.len _) in
      subst (λ v. DoPart v (bits_of 128 a)) (sym way_of-is)
      (subst (DoPart own) (sym (bits_of-is a)) (DoPart-append own other
      (bits_of (128 - block.len) a) (DoPart-from_unlike own other long unlike)))
    where
      within_from_same : (k f a : ℕ) → 0 < k → f % k ≡ 0 → f / k ≡ a / k
          → (f ≤ a) × (a ≤ f + (k - 1))
      within_from_same k f a some aligned same =
          let up : f ≡ k * (f / k) = omega arith in
          let low : k * (a / k) ≤ a = omega arith in
          let high : a < k * (a / k) + k = omega arith in
          let here : k * (f / k) ≡ k * (a / k) = ap (λ x. k * x) same in
          (omega arith, omega arith)

-- ---- one step of a way

-- the way down to the lowest bits begins with the highest bit
way_step : (n below a : ℕ) → below ≤ n
    → take (suc n - below) (bits_of (suc n) a) ≡ (bit_at a n == 1) ∷ take (n - below) (bits_of n a)
unfolding bits_of
way_step n below a some =
    let e : suc n - below ≡ suc (n - below) = omega arith in
    ap (λ k. take k ((bit_at a n == 1) ∷ bits_of n a)) e

-- where that bit is 0
pub way-zero : (bits below a : ℕ) → below < bits → bit_and (a / 2 ^ (bits - 1)) 1 ≡ 0
    → take (bits - below) (bits_of bits a) ≡ false ∷ take (bits - 1 - below) (bits_of (bits - 1) a)
way-zero zero below a some zero-bit = absurd (omega arith)
way-zero (suc n) below a some zero-bit =
    let here : suc n - 1 ≡ n = omega arith in
    let bit : bit_at a n ≡ 0 =
    sym (shr_and_one a n) ∙ subst (λ k. bit_and (a / 2 ^ k) 1 ≡ 0) here zero-bit in
    way_step n below a (omega arith)
    ∙ ap₂ (λ b k. (b == 1) ∷ take (k - below) (bits_of k a)) bit (sym here)

-- and where it is 1
pub way-one : (bits below a : ℕ) → below < bits → bit_and (a / 2 ^ (bits - 1)) 1 ≢ 0
    → take (bits - below) (bits_of bits a) ≡ true ∷ take (bits - 1 - below) (bits_of (bits - 1) a)
way-one zero below a some other-bit = absurd (omega arith)
way-one (suc n) below a some other-bit =
    let here : suc n - 1 ≡ n = omega arith in
    let other : bit_at a n ≢ 0 =
    λ is. other-bit (subst (λ k. bit_and (a / 2 ^ k) 1 ≡ 0) (sym here) (shr_and_one a n ∙ is)) in
    let bit : bit_at a n ≡ 1 = omega (arith, bit_at-lt a n, other) in
    way_step n below a (omega arith)
    ∙ ap₂ (λ b k. (b == 1) ∷ take (k - below) (bits_of k a)) bit (sym here)

-- the tree below a way lies below the first half
pub sub-zero : (t l : Tree ℕ) (bits below a : ℕ) → below < bits → bit_and (a / 2 ^ (bits - 1)) 1 ≡ 0
    → l ≡ half false t
    → sub l (take (bits - 1 - below) (bits_of (bits - 1) a))
    ≡ sub t (take (bits - below) (bits_of bits a))
sub-zero t l bits below a some zero-bit l-is =
    ap (λ u. sub u (take (bits - 1 - below) (bits_of (bits - 1) a))) l-is
    ∙ sym (ap (sub t) (way-zero bits below a some zero-bit))

pub sub-one : (t r : Tree ℕ) (bits below a : ℕ) → below < bits → bit_and (a / 2 ^ (bits - 1)) 1 ≢ 0
    → r ≡ half true t
    → sub r (take (bits - 1 - below) (bits_of (bits - 1) a))
    ≡ sub t (take (bits - below) (bits_of bits a))
sub-one t r bits below a some other-bit r-is =
    ap (λ u. sub u (take (bits - 1 - below) (bits_of (bits - 1) a))) r-is
    ∙ sym (ap (sub t) (way-one bits below a some other-bit))

-- a graft is the join of the half that has it and of the other half
pub graft-zero : (t s l r l' r' : Tree ℕ) (bits below a : ℕ) → below ≤ bits → bits ≢ below
    → bit_and (a / 2 ^ (bits - 1)) 1 ≡ 0 → l ≡ half false t → r ≡ half true t
    → l' ≡ graft nat_eq l (take (bits - 1 - below) (bits_of (bits - 1) a)) s → r' ≡ r
    → join nat_eq l' r' ≡ graft nat_eq t (take (bits - below) (bits_of bits a)) s
graft-zero t s l r l' r' bits below a le other zero-bit l-is r-is grafted kept =
    ap₂ (join nat_eq)
    (grafted ∙ ap (λ u. graft nat_eq u (take (bits - 1 - below) (bits_of (bits - 1) a)) s) l-is)
    (kept ∙ r-is)
    ∙ sym (ap (λ w. graft nat_eq t w s) (way-zero bits below a (omega arith) zero-bit))

pub graft-one : (t s l r l' r' : Tree ℕ) (bits below a : ℕ) → below ≤ bits → bits ≢ below
    → bit_and (a / 2 ^ (bits - 1)) 1 ≢ 0 → l ≡ half false t → r ≡ half true t
    → r' ≡ graft nat_eq r (take (bits - 1 - below) (bits_of (bits - 1) a)) s → l' ≡ l
    → join nat_eq l' r' ≡ graft nat_eq t (take (bits - below) (bits_of bits a)) s
graft-one t s l r l' r' bits below a le other other-bit l-is r-is grafted kept =
    ap₂ (join nat_eq) (kept ∙ l-is)
    (grafted ∙ ap (λ u. graft nat_eq u (take (bits - 1 - below) (bits_of (bits - 1) a)) s) r-is)
    ∙ sym (ap (λ w. graft nat_eq t w s) (way-one bits below a (omega arith) other-bit))
