-- Vectors of bytes, lane by lane, and the bytes of names that are told by them.
use Rattle.std.proofs.Common.{◌≡◌, ℕ, ◌<◌, ◌≤◌, ◌%◌, ◌^◌, true, false, cond, not, eqb}
use Rattle.std.proofs.Common.{ltb, List, length, get_or, map, replicate, sym, ap, ◌∙◌}
use Rattle.std.proofs.Common.{arith, w8, zero-add}
use lib.Count.{count_trailing_zeros}
use Rattle.std.proofs.lemmas.Bool.Decides.{nat_tests}
use Rattle.std.proofs.lemmas.List.Sums.{fails_before_first, position_or_len_is}
use Rattle.std.proofs.lemmas.List.Sums.{prefix_len-le-length}
use Rattle.std.proofs.lemmas.Simd.{bitmask_splat, get_or-chunk, get_or-replicate, get_or-sel_l}
use Rattle.std.proofs.lemmas.Simd.{get_or-zip2, leading_from_mask_l, length-sel_l, length-zip2}
use Rattle.std.proofs.lemmas.Simd.{trailing_mask_l}
use Rattle.std.specs.List.{position_or_len}
use Rattle.std.specs.Simd.Lanes.{chunk, mask_l, sel_l, top, zip2}
use Rattle.rpsl_reader.specs.Attributes.{is_name_byte}

-- a choice by the comparison of two vectors
pub chosen_long : (a b xs ys : List ℕ) (n : ℕ) → length a ≡ n → length b ≡ n → length xs ≡ n
    → length ys ≡ n → length (sel_l (zip2 ltb a b) xs ys) ≡ n
chosen_long a b xs ys n p q r s =
    let long : length (zip2 ltb a b) ≡ n = length-zip2 ltb a b (p ∙ sym q) ∙ p in
    length-sel_l (zip2 ltb a b) xs ys (long ∙ sym r) (long ∙ sym s) ∙ long

pub chosen : (a b xs ys : List ℕ) (n k : ℕ) → length a ≡ n → length b ≡ n → length xs ≡ n
    → length ys ≡ n → k < n
    → get_or (sel_l (zip2 ltb a b) xs ys) k 0
    ≡ cond (ltb (get_or a k 0) (get_or b k 0)) (get_or xs k 0) (get_or ys k 0)
chosen a b xs ys n k p q r s l =
    let long : length (zip2 ltb a b) ≡ n = length-zip2 ltb a b (p ∙ sym q) ∙ p in
    get_or-sel_l (zip2 ltb a b) xs ys k 0 (omega arith) (omega arith) (omega arith)
    ∙ ap (λ t. cond t (get_or xs k 0) (get_or ys k 0))
    (get_or-zip2 ltb a b k 0 0 false (omega arith) (omega arith))

-- a choice where one of the sides is a byte, and another
pub between : (b low high o below above z : ℕ) (lows highs : ℕ) → lows ≡ low → highs ≡ high
    → z ≡ 0 → above ≡ cond (ltb highs b) o z → below ≡ cond (ltb b lows) o above
    → below ≡ cond (ltb b low) o (cond (ltb high b) o 0)
between b low high o below above z lows highs p q r e f =
    f ∙ (λ i. cond (ltb b (p i)) o (e i)) ∙ (λ i. cond (ltb b low) o (cond (ltb (q i) b) o (r i)))

-- lanes before the first that is not zero are zeros
pub zero_before : (xs : List ℕ) (k : ℕ) → k < position_or_len (λ x. not (eqb x 0)) xs
    → get_or xs k 0 ≡ 0
zero_before xs k l =
    let e : not (eqb (get_or xs k 0) 0) ≡ false =
    fails_before_first (λ x. not (eqb x 0)) xs k 0 l in
    grind (arith, nat_tests)

-- the mask of the lanes that are not zero
pub mask_of : (xs : List ℕ) → length xs ≡ 16
    → mask_l (map (top 7) (zip2 (λ a b. cond (not (eqb a b)) 255 0) xs (replicate 16 0))) % 2 ^ 64
    ≡ mask_l (map (λ x. not (eqb x 0)) xs)
mask_of xs long = bitmask_splat w8 (λ a b. not (eqb a b)) xs 16 0 long (omega arith)

-- it is empty where all lanes are zeros
pub zero_all : (xs : List ℕ) (mask k : ℕ) → length xs ≡ 16
    → mask ≡ mask_l (map (λ x. not (eqb x 0)) xs) → mask ≡ 0 → k < 16 → get_or xs k 0 ≡ 0
zero_all xs mask k long is none l =
    zero_before xs k
    (omega (arith, leading_from_mask_l (λ x. not (eqb x 0)) xs (sym is ∙ none), long))

-- and else its lowest bit is the first lane that is not
pub lowest_is : (xs : List ℕ) (mask : ℕ) → length xs ≡ 16
    → mask ≡ mask_l (map (λ x. not (eqb x 0)) xs) → (mask ≡ 0 → ⊥)
    → count_trailing_zeros 64 mask ≡ position_or_len (λ x. not (eqb x 0)) xs
lowest_is xs mask long is some =
    ap (count_trailing_zeros 64) is
    ∙ trailing_mask_l (λ x. not (eqb x 0)) 64 xs (omega (arith, long)) (omega (arith, is, some))

pub lowest_within : (xs : List ℕ) (mask : ℕ) → length xs ≡ 16
    → mask ≡ mask_l (map (λ x. not (eqb x 0)) xs) → (mask ≡ 0 → ⊥)
    → count_trailing_zeros 64 mask ≤ 16
lowest_within xs mask long is some =
    omega (
      arith,
      lowest_is xs mask long is some,
      long,
      prefix_len-le-length (λ x. not (not (eqb x 0))) xs,
    )

pub lowest_after : (xs : List ℕ) (mask k : ℕ) → length xs ≡ 16
    → mask ≡ mask_l (map (λ x. not (eqb x 0)) xs) → (mask ≡ 0 → ⊥)
    → k < count_trailing_zeros 64 mask → get_or xs k 0 ≡ 0
lowest_after xs mask k long is some l =
    zero_before xs k (omega (arith, lowest_is xs mask long is some, l))

-- what is no small letter only where it is a digit or a hyphen stands in a name
pub plain_is_named : (b first second third most : ℕ) → most ≡ 255
    → first ≡ cond (ltb b 97) most (cond (ltb 122 b) most 0)
    → second ≡ cond (ltb b 48) first (cond (ltb 57 b) first 0)
    → third ≡ cond (ltb b 45) second (cond (ltb 45 b) second 0) → third ≡ 0
    → is_name_byte b ≡ true
plain_is_named b first second third most m e f g z = grind (arith, nat_tests)

-- the same at a lane of the first bytes of a line
pub plain_at : (line : List ℕ) (k : ℕ) (first second third : List ℕ) → 16 ≤ length line → k < 16
    → (k < 16 → get_or first k 0 ≡ cond (ltb (get_or (chunk 0 16 line) k 0) 97)
    (get_or (replicate 16 255) k 0) (cond (ltb 122 (get_or (chunk 0 16 line) k 0))
    (get_or (replicate 16 255) k 0) 0))
    → (k < 16 → get_or second k 0 ≡ cond (ltb (get_or (chunk 0 16 line) k 0) 48)
    (get_or first k 0) (cond (ltb 57 (get_or (chunk 0 16 line) k 0)) (get_or first k 0) 0))
    → (k < 16 → get_or third k 0 ≡ cond (ltb (get_or (chunk 0 16 line) k 0) 45)
    (get_or second k 0) (cond (ltb 45 (get_or (chunk 0 16 line) k 0)) (get_or second k 0) 0))
    → get_or third k 0 ≡ 0 → is_name_byte (get_or line k 0) ≡ true
plain_at line k first second third long l e f g z =
    ap (λ i. is_name_byte (get_or line i 0)) (sym (zero-add k))
    ∙ ap is_name_byte (sym (get_or-chunk 0 16 line k 0 l))
    ∙ plain_is_named (get_or (chunk 0 16 line) k 0) (get_or first k 0) (get_or second k 0)
    (get_or third k 0) (get_or (replicate 16 255) k 0) (get_or-replicate 16 k 255 0 l) (e l) (f l)
    (g l) z

-- bytes of a name up to a colon are all of the name
pub ends_at_colon : (line : List ℕ) (n : ℕ) → n < length line
    → ((k : ℕ) → k < n → is_name_byte (get_or line k 0) ≡ true) → get_or line n 0 ≡ 58
    → n ≡ position_or_len (λ b. not (is_name_byte b)) line
ends_at_colon line n inside named colon =
    sym (position_or_len_is (λ b. not (is_name_byte b)) line n 0 (omega arith)
    (λ k l. ap not (named k l)) (λ l. ap (λ b. not (is_name_byte b)) colon))
