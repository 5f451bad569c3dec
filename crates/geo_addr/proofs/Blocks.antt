-- Lemmas on aligned blocks.
use Rattle.std.proofs.Common.{◌≡◌, ℕ, ◌+◌, ◌-◌, ◌*◌, ◌/◌, ◌%◌, ◌^◌, ◌<◌, ◌≤◌, arith, ap, subst, sym}
use Rattle.std.proofs.Common.{◌∙◌}
use Rattle.std.proofs.lemmas.Nat.{pow-add, pow_pos}
use Rattle.std.proofs.Math.Nat.{mul-le-mul_right, div-lt_iff_lt-mul}

-- a multiple of p that lies below n * p ends at n * p at the latest, where p numbers begin at it
pub multiple_ends : (first p n : ℕ) → 0 < p → first < n * p → first % p ≡ 0 → first + p ≤ n * p
multiple_ends first p n some below aligned =
    let before : first / p < n = (div-lt_iff_lt-mul some).1 below in
    let next : (first / p + 1) * p ≤ n * p = mul-le-mul_right p (omega arith) in
    omega (arith, next)

-- a block that begins below 2 ^ 128 ends there at the latest
pub block_ends_within : (first k : ℕ) → k ≤ 128 → first < 2 ^ 128 → first % 2 ^ k ≡ 0
    → first + (2 ^ k - 1) < 2 ^ 128
block_ends_within first k fits below aligned =
    let exponent : (128 - k) + k ≡ 128 = omega arith in
    let whole : 2 ^ 128 ≡ 2 ^ (128 - k) * 2 ^ k =
    sym (ap (λ e. 2 ^ e) exponent) ∙ pow-add 2 (128 - k) k in
    let start : first < 2 ^ (128 - k) * 2 ^ k = subst (λ n. first < n) whole below in
    let end : first + 2 ^ k ≤ 2 ^ (128 - k) * 2 ^ k =
    multiple_ends first (2 ^ k) (2 ^ (128 - k)) (pow_pos k) start aligned in
    let end' : first + 2 ^ k ≤ 2 ^ 128 = subst (λ n. first + 2 ^ k ≤ n) (sym whole) end in
    omega (arith, pow_pos k)
