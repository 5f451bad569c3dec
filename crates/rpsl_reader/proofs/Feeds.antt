-- The first line feed of a text, looked for among 32 bytes at once, and among 64.
use Rattle.std.proofs.Common.{◌≡◌, ◌≢◌, ℕ, ◌+◌, ◌-◌, ◌<◌, ◌≤◌, true, false, not, eqb, List, length}
use Rattle.std.proofs.Common.{drop, get_or, inl, inr, map, sym, ap, ◌∙◌, arith, zero-add}
use lib.Count.{count_trailing_zeros}
use Rattle.std.proofs.lemmas.Bool.{cases_lt}
use Rattle.std.proofs.lemmas.Bool.Decides.{nat_tests}
use Rattle.std.proofs.lemmas.List.{get_or-drop}
use Rattle.std.proofs.lemmas.List.Sums.{fails_before_first, passes_at_first, prefix_len-le-length}
use Rattle.std.proofs.lemmas.Simd.{get_or-chunk, leading_from_mask_l, length-chunk}
use Rattle.std.proofs.lemmas.Simd.{trailing_mask_l}
use Rattle.std.specs.List.{position_or_len}
use Rattle.std.specs.Simd.Lanes.{chunk, mask_l}

-- a lane is a byte of the text
lane_is : (text : List ℕ) (k : ℕ) → k < 32 → get_or (chunk 0 32 text) k 0 ≡ get_or text k 0
lane_is text k l = get_or-chunk 0 32 text k 0 l ∙ ap (λ i. get_or text i 0) (zero-add k)

-- no byte before the first feed is one
before_feed : (text : List ℕ) (k : ℕ) → k < position_or_len (λ b. eqb b 10) (chunk 0 32 text)
    → k < 32 → get_or text k 0 ≢ 10
before_feed text k before l is =
    let test : eqb (get_or (chunk 0 32 text) k 0) 10 ≡ false =
    fails_before_first (λ b. eqb b 10) (chunk 0 32 text) k 0 before in
    let same : get_or (chunk 0 32 text) k 0 ≡ get_or text k 0 = lane_is text k l in
    grind (arith, nat_tests)

-- where no bit is set, no byte is a feed
pub no_feed : (text : List ℕ) (mask k : ℕ) → 32 ≤ length text
    → mask ≡ mask_l (map (λ b. eqb b 10) (chunk 0 32 text)) → mask ≡ 0 → k < 32
    → get_or text k 0 ≢ 10
no_feed text mask k long is none l =
    before_feed text k
    (omega (
      arith,
      leading_from_mask_l (λ b. eqb b 10) (chunk 0 32 text) (sym is ∙ none),
      length-chunk 0 32 text (omega arith),
    )) l

-- and else the lowest bit is that of the first one
lowest_is : (text : List ℕ) (mask : ℕ) → 32 ≤ length text
    → mask ≡ mask_l (map (λ b. eqb b 10) (chunk 0 32 text)) → (mask ≡ 0 → ⊥)
    → count_trailing_zeros 64 mask ≡ position_or_len (λ b. eqb b 10) (chunk 0 32 text)
lowest_is text mask long is some =
    ap (count_trailing_zeros 64) is
    ∙ trailing_mask_l (λ b. eqb b 10) 64 (chunk 0 32 text)
    (omega (arith, length-chunk 0 32 text (omega arith))) (omega (arith, is, some))

pub lowest_within : (text : List ℕ) (mask : ℕ) → 32 ≤ length text
    → mask ≡ mask_l (map (λ b. eqb b 10) (chunk 0 32 text)) → (mask ≡ 0 → ⊥)
    → count_trailing_zeros 64 mask ≤ 32
lowest_within text mask long is some = omega (
  arith,
  lowest_is text mask long is some,
  length-chunk 0 32 text (omega arith),
  prefix_len-le-length (λ b. not (eqb b 10)) (chunk 0 32 text),
)

pub none_before : (text : List ℕ) (mask k : ℕ) → 32 ≤ length text
    → mask ≡ mask_l (map (λ b. eqb b 10) (chunk 0 32 text)) → (mask ≡ 0 → ⊥)
    → k < count_trailing_zeros 64 mask → get_or text k 0 ≢ 10
none_before text mask k long is some l =
    before_feed text k (omega (arith, lowest_is text mask long is some))
    (omega (
      arith,
      lowest_is text mask long is some,
      length-chunk 0 32 text (omega arith),
      prefix_len-le-length (λ b. not (eqb b 10)) (chunk 0 32 text),
    ))

pub feed_there : (text : List ℕ) (mask : ℕ) → 32 ≤ length text
    → mask ≡ mask_l (map (λ b. eqb b 10) (chunk 0 32 text)) → (mask ≡ 0 → ⊥)
    → count_trailing_zeros 64 mask < 32 → get_or text (count_trailing_zeros 64 mask) 0 ≡ 10
feed_there text mask long is some inside =
    let at : count_trailing_zeros 64 mask
    ≡ position_or_len (λ b. eqb b 10) (chunk 0 32 text) = lowest_is text mask long is some in
    let test : eqb (get_or (chunk 0 32 text)
    (position_or_len (λ b. eqb b 10) (chunk 0 32 text)) 0) 10 ≡ true =
    passes_at_first (λ b. eqb b 10) (chunk 0 32 text) 0
    (omega (arith, at, length-chunk 0 32 text (omega arith))) in
    let there : eqb (get_or (chunk 0 32 text) (count_trailing_zeros 64 mask) 0) 10 ≡ true =
    ap (λ i. eqb (get_or (chunk 0 32 text) i 0) 10) at ∙ test in
    let same : get_or (chunk 0 32 text) (count_trailing_zeros 64 mask) 0
    ≡ get_or text (count_trailing_zeros 64 mask) 0 =
    lane_is text (count_trailing_zeros 64 mask) inside in
    grind (arith, nat_tests)

-- the bytes behind the first 32 are looked at likewise
pub none_far : (text behind : List ℕ) (near far k : ℕ) → behind ≡ drop 32 text → 32 ≤ near
    → ((i : ℕ) → i < near → get_or text i 0 ≢ 10) → ((i : ℕ) → i < far → get_or behind i 0 ≢ 10)
    → k < 32 + far → get_or text k 0 ≢ 10
none_far text behind near far k is past first next l =
    elim (cases_lt k 32) [
      | inl inside ↦ first k (omega arith)
      | inr outside ↦
          let back : 32 + (k - 32) ≡ k = omega arith in
          let there : get_or behind (k - 32) 0 ≡ get_or text k 0 =
          ap (λ t. get_or t (k - 32) 0) is ∙ get_or-drop 32 text (k - 32) 0
          ∙ ap (λ i. get_or text i 0) back in
          λ e. next (k - 32) (omega arith) (there ∙ e)
    ]

pub feed_far : (text behind : List ℕ) (far : ℕ) → behind ≡ drop 32 text
    → (far < 32 → get_or behind far 0 ≡ 10) → 32 + far < 64 → get_or text (32 + far) 0 ≡ 10
feed_far text behind far is there l =
    sym (get_or-drop 32 text far 0) ∙ ap (λ t. get_or t far 0) (sym is) ∙ there (omega arith)
