-- The halves of a block are blocks.
use Rattle.std.proofs.Common.{◌≡◌, ℕ, suc, ◌+◌, ◌-◌, ◌*◌, ◌%◌, ◌^◌, ◌<◌, sym, ap}
use Rattle.std.proofs.Common.{◌∙◌, arith}
use Rattle.std.proofs.lemmas.Nat.{one_shl, pow_pos}
use Rattle.std.proofs.Math.Nat.{two-pow-succ, add-mod_right, zero-mod}
use Rattle.std.proofs.Math.Pow.{mod-mod-pow}
use Rattle.geo_addr.specs.Ranges.{Prefix, IsBlock}
use Rattle.geo_addr.proofs.Blocks.{block_ends_within}

module _ (b : Prefix) (block : IsBlock b) (more : b.len < 128) where
  -- half the size, as the code has it
  pub half_size : (1 * 2 ^ (127 - b.len)) % 2 ^ 128 ≡ 2 ^ (127 - b.len)
  half_size = one_shl (127 - b.len) 128 (omega arith)

  whole_size : 2 ^ (128 - b.len) ≡ 2 ^ (127 - b.len) + 2 ^ (127 - b.len)
  whole_size =
      let next : 128 - b.len ≡ suc (127 - b.len) = omega arith in
      ap (λ e. 2 ^ e) next ∙ two-pow-succ (127 - b.len)

  aligned_lower : b.first % 2 ^ (127 - b.len) ≡ 0
  aligned_lower =
      let split : 1 + (127 - b.len) ≡ 128 - b.len = omega arith in
      sym (mod-mod-pow b.first 1 (127 - b.len))
      ∙ ap (λ e. b.first % 2 ^ e % 2 ^ (127 - b.len)) split
      ∙ ap (λ m. m % 2 ^ (127 - b.len)) block.aligned ∙ zero-mod (2 ^ (127 - b.len))

  -- the upper half begins below 2 ^ 128
  pub middle_within : b.first + 2 ^ (127 - b.len) < 2 ^ 128
  middle_within =
      let end = block_ends_within b.first (128 - b.len) (omega arith) block.within block.aligned in
      let size = whole_size in
      let some = pow_pos (127 - b.len) in
      omega arith

  same_size : 2 ^ (128 - (b.len + 1)) ≡ 2 ^ (127 - b.len)
  same_size = let bits : 128 - (b.len + 1) ≡ 127 - b.len = omega arith in ap (λ e. 2 ^ e) bits

  pub IsBlock-lower : IsBlock (record { first = b.first; len = b.len + 1 })
  IsBlock-lower = record {
    length_fits = omega arith;
    within = block.within;
    aligned = ap (λ p. b.first % p) same_size ∙ aligned_lower;
  }

  pub IsBlock-upper : (middle : ℕ)
      → middle ≡ b.first + 2 ^ (127 - b.len) → IsBlock (record { first = middle; len = b.len + 1 })
  IsBlock-upper middle is = record {
    length_fits = omega arith;
    within = let below = middle_within in omega arith;
    aligned =
        ap (λ p. middle % p) same_size ∙ ap (λ f. f % 2 ^ (127 - b.len)) is
        ∙ add-mod_right b.first (2 ^ (127 - b.len)) ∙ aligned_lower;
  }
