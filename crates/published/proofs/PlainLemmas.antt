-- A block that is plain by its length or its first address is plain by its addresses.
use Rattle.std.proofs.Common.{inl, inr, ◌≡◌, ℕ, ◌+◌, ◌-◌, ◌*◌, ◌%◌, ◌^◌, ◌<◌, ◌≤◌, true, false}
use Rattle.std.proofs.Common.{◌||◌, nat_le, ap, ◌∙◌, arith}
use Rattle.std.proofs.lemmas.Bool.{cases_lt, lt-leb}
use Rattle.std.proofs.lemmas.Bool.Decides.{nat_tests}
use Rattle.std.proofs.lemmas.Nat.{pow-add, pow_pos}
use Rattle.geo_addr.specs.Ranges.{IsBlock, Prefix}
use Rattle.geo_addr.proofs.Blocks.{multiple_ends}
use Rattle.job_lines.specs.Commands.{is_plain}
use Rattle.publish_least.specs.Lines.{IsPlain}

-- a block that begins below 2 ^ 32 and is no larger ends there at the latest
v4_block_ends : (first k : ℕ) → k ≤ 32 → first < 2 ^ 32 → first % 2 ^ k ≡ 0 → first + 2 ^ k ≤ 2 ^ 32
v4_block_ends first k fits below aligned =
    let exponent : 32 ≡ (32 - k) + k = omega arith in
    let whole : 2 ^ 32 ≡ 2 ^ (32 - k) * 2 ^ k = ap (λ e. 2 ^ e) exponent ∙ pow-add 2 (32 - k) k in
    let start : first < 2 ^ (32 - k) * 2 ^ k = omega arith in
    omega (arith, multiple_ends first (2 ^ k) (2 ^ (32 - k)) (pow_pos k) start aligned)

long_enough : (len : ℕ) (first : ℕ) → (nat_le 96 len || nat_le (2 ^ 32) first) ≡ true
    → first < 2 ^ 32 → 96 ≤ len
long_enough len first plain low =
    let not : nat_le (2 ^ 32) first ≡ false = lt-leb (2 ^ 32) first low in
    grind (arith, nat_tests)

pub plain_from : (b : Prefix) → IsBlock b → is_plain b ≡ true → IsPlain b
plain_from b block plain = elim (cases_lt b.first (2 ^ 32)) [
  | inl low ↦
      let long = long_enough b.len b.first plain low in
      let ends = v4_block_ends b.first (128 - b.len) (omega arith) low block.aligned in
      let some = pow_pos (128 - b.len) in
      inl (omega (arith, ends, some))
  | inr high ↦ inr high
]
