-- Multiples of powers of two.
use Rattle.std.proofs.Common.{◌≡◌, ℕ, ◌+◌, ◌-◌, ◌*◌, ◌/◌, ◌%◌, ◌^◌, ◌<◌, ◌≤◌, inl, inr, arith, sym}
use Rattle.std.proofs.Common.{ap, ◌∙◌}
use Rattle.std.proofs.Math.Nat.{mul-le-mul_left, mod-add-div, add-mod_right, zero-mod}
use Rattle.std.proofs.lemmas.Bool.{cases_lt}
use Rattle.std.proofs.Math.Pow.{mod-mod-pow}

-- products of p that differ are p apart
multiple_step : (p m n a b : ℕ) → p * m ≡ a → p * n ≡ b → a < b → a + p ≤ b
multiple_step p m n a b is_a is_b below =
    elim (cases_lt m n) [
      | inl less ↦ omega (arith, is_a, is_b, mul-le-mul_left p less)
      | inr more ↦ omega (arith, is_a, is_b, mul-le-mul_left p more)
    ]

-- of two multiples of p the lower one ends at the higher one at the latest
pub multiple_apart : (p a b : ℕ) → a % p ≡ 0 → b % p ≡ 0 → a < b → a + p ≤ b
multiple_apart p a b first second below =
    let whole_a : p * (a / p) ≡ a = omega (arith, mod-add-div a p) in
    let whole_b : p * (b / p) ≡ b = omega (arith, mod-add-div b p) in
    multiple_step p (a / p) (b / p) a b whole_a whole_b below

-- a multiple of a power of two is one of each lower power
pub multiple_lower : (n j k : ℕ) → k ≤ j → n % 2 ^ j ≡ 0 → n % 2 ^ k ≡ 0
multiple_lower n j k less whole =
    let split : (j - k) + k ≡ j = omega arith in
    sym (mod-mod-pow n (j - k) k) ∙ ap (λ e. n % 2 ^ e % 2 ^ k) split ∙ ap (λ m. m % 2 ^ k) whole
    ∙ zero-mod (2 ^ k)

-- the next multiple
pub multiple_next : (n p : ℕ) → n % p ≡ 0 → (n + p) % p ≡ 0
multiple_next n p whole = add-mod_right n p ∙ whole
