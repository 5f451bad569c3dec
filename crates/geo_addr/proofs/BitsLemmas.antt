-- Lemmas on the bits of an address: how the list begins in each half of a block,
-- and that it says which address it is.
use Rattle.std.proofs.Common.{◌≡◌, ℕ, zero, suc, ◌+◌, ◌-◌, ◌*◌, ◌/◌, ◌%◌, ◌^◌, ◌<◌, inl, inr, Bool}
use Rattle.std.proofs.Common.{true, false, List, [], ◌∷◌, length, refl, ◌∙◌, ap, subst, arith}
use Rattle.std.specs.Int.{bit_at}
use Rattle.std.proofs.lemmas.Bool.{cases_lt}
use Rattle.std.proofs.Math.Nat.{two-pow-succ, add-div_left, pow-suc, mul_assoc, add-mul-div_left}
use Rattle.std.proofs.Math.Nat.{add-mul-mod_self_left, div-eq_of_lt}
use Rattle.geo_addr.specs.Bits.{bits_of, number_of, OneListOfBits}

-- a list of bits is as long as is asked
pub length-bits_of : (n a : ℕ) → length (bits_of n a) ≡ n
unfolding bits_of
length-bits_of zero a = refl
length-bits_of (suc n) a = omega (arith, length-bits_of n a)

-- 2 to a number is not 0
pub pow-positive : (n : ℕ) → 0 < 2 ^ n
pow-positive zero = omega arith
pow-positive (suc n) = omega (arith, two-pow-succ n, pow-positive n)

-- a multiple of 2 ^ (n + 1) leaves bit n as it is
pub bit_at-add_multiple : (n a k : ℕ) → bit_at (a + 2 ^ suc n * k) n ≡ bit_at a n
bit_at-add_multiple n a k =
    let power : 2 ^ suc n * k ≡ 2 ^ n * (2 * k) = rw (pow-suc, mul_assoc) refl in
    rw power (ap (λ x. x % 2) (add-mul-div_left a (2 * k) (pow-positive n))
    ∙ add-mul-mod_self_left (a / 2 ^ n) 2 k)

-- and so all lower bits
pub bits_of-add_multiple : (n a k : ℕ) → bits_of n (a + 2 ^ n * k) ≡ bits_of n a
unfolding bits_of
bits_of-add_multiple zero a k = refl
bits_of-add_multiple (suc n) a k =
    let power : 2 ^ suc n * k ≡ 2 ^ n * (2 * k) = rw (pow-suc, mul_assoc) refl in
    let rest : bits_of n (a + 2 ^ suc n * k) ≡ bits_of n a =
    rw power (bits_of-add_multiple n a (2 * k)) in
    rw (bit_at-add_multiple n a k, rest) refl

-- the list of the lower half of a block begins with 0
pub bits_of-lower : (n a : ℕ) → a < 2 ^ n → bits_of (suc n) a ≡ false ∷ bits_of n a
unfolding bits_of
bits_of-lower n a h =
    let high : a / 2 ^ n ≡ 0 = div-eq_of_lt h in
    rw high refl

-- the list of the upper half of a block begins with 1
pub bits_of-upper : (n a : ℕ) → a < 2 ^ n → bits_of (suc n) (2 ^ n + a) ≡ true ∷ bits_of n a
unfolding bits_of
bits_of-upper n a h =
    let high : (2 ^ n + a) / 2 ^ n ≡ 1 =
    let below : a / 2 ^ n ≡ 0 = div-eq_of_lt h in omega (arith, add-div_left a (pow-positive n)) in
    let rest : bits_of n (2 ^ n + a) ≡ bits_of n a =
    ap (bits_of n) (grind arith) ∙ bits_of-add_multiple n a 1 in
    rw (high, rest) refl

-- the number of a list of n bits is below 2 ^ n
pub number_of-lt : (w : List Bool) → number_of w < 2 ^ length w
number_of-lt [] = omega arith
number_of-lt (false ∷ w) = omega (arith, number_of-lt w, two-pow-succ (length w))
number_of-lt (true ∷ w) = omega (arith, number_of-lt w, two-pow-succ (length w))

-- the bits of the number of a list are the list
pub bits_of-number_of : (w : List Bool) → bits_of (length w) (number_of w) ≡ w
unfolding bits_of
bits_of-number_of [] = refl
bits_of-number_of (false ∷ w) =
    bits_of-lower (length w) (number_of w) (number_of-lt w)
    ∙ ap (λ v. false ∷ v) (bits_of-number_of w)
bits_of-number_of (true ∷ w) =
    bits_of-upper (length w) (number_of w) (number_of-lt w)
    ∙ ap (λ v. true ∷ v) (bits_of-number_of w)

-- the number of the bits of a number below 2 ^ n is the number
pub number_of-bits_of : (n a : ℕ) → a < 2 ^ n → number_of (bits_of n a) ≡ a
unfolding bits_of
number_of-bits_of zero a h = omega arith
number_of-bits_of (suc n) a h =
    elim (cases_lt a (2 ^ n)) [
      | inl low ↦ ap number_of (bits_of-lower n a low) ∙ number_of-bits_of n a low
      | inr high ↦
          let r : ℕ = a - 2 ^ n in
          let is : a ≡ 2 ^ n + r = omega arith in
          let less : r < 2 ^ n = omega (arith, two-pow-succ n) in
          let same : number_of (bits_of (suc n) a)
          ≡ 2 ^ length (bits_of n r) + number_of (bits_of n r) =
          ap (λ b. number_of (bits_of (suc n) b)) is ∙ ap number_of (bits_of-upper n r less) in
          let power : 2 ^ length (bits_of n r) ≡ 2 ^ n = ap (λ x. 2 ^ x) (length-bits_of n r) in
          omega (arith, same, power, number_of-bits_of n r less, is)
    ]

-- each address has one list of bits, and each list one address
pub OneListOfBits-each : (n : ℕ) → OneListOfBits n
OneListOfBits-each n = record {
  long = length-bits_of n;
  back = number_of-bits_of n;
  below = λ w long. subst (λ m. number_of w < 2 ^ m) long (number_of-lt w);
  again = λ w long. subst (λ m. bits_of m (number_of w) ≡ w) long (bits_of-number_of w);
}
