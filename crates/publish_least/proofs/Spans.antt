-- Blocks of a block, as numbers: which half they lie in, and which addresses they have.
use Rattle.std.proofs.Common.{◌≡◌, inl, inr, ℕ, suc, ◌+◌, ◌-◌, ◌*◌, ◌%◌, ◌^◌, ◌<◌, ◌≤◌, Bool, true}
use Rattle.std.proofs.Common.{false, ◌&&◌, refl, sym, ap, subst, ◌∙◌, arith}
use Rattle.std.specs.Prelude.{nat_le}
use Rattle.std.proofs.lemmas.Bool.{cases_lt, le-leb}
use Rattle.std.proofs.lemmas.Bool.Decides.{leb_tells}
use Rattle.std.proofs.lemmas.Nat.{pow-add, pow_pos}
use Rattle.std.proofs.Math.Nat.{two-pow-succ, mul_assoc, mul-mod_left}
use Rattle.geo_addr.specs.Ranges.{Prefix}
use Rattle.geo_addr.proofs.Blocks.{multiple_ends}

-- a block has an address, as plain numbers
abbrev pub spans : Prefix → ℕ → Bool
spans b a = nat_le b.first a && nat_le a (b.first + (2 ^ (128 - b.len) - 1))

pub nat_le-false : (a b : ℕ) → b < a → nat_le a b ≡ false
nat_le-false a b less =
    elim (leb_tells a b) [ inl told ↦ absurd (let h = told.1 in omega arith) | inr told ↦ told.0 ]

pub spans-true : (b : Prefix) (a : ℕ) → b.first ≤ a
    → a ≤ b.first + (2 ^ (128 - b.len) - 1) → spans b a ≡ true
spans-true b a from to =
    ap (λ x. x && nat_le a (b.first + (2 ^ (128 - b.len) - 1))) (le-leb b.first a from)
    ∙ le-leb a (b.first + (2 ^ (128 - b.len) - 1)) to

pub spans-false_before : (b : Prefix) (a : ℕ) → a < b.first → spans b a ≡ false
spans-false_before b a before =
    ap (λ x. x && nat_le a (b.first + (2 ^ (128 - b.len) - 1))) (nat_le-false b.first a before)

and_false : (x : Bool) → (x && false) ≡ false
and_false true = refl
and_false false = refl

pub spans-false_behind : (b : Prefix) (a : ℕ) → b.first + (2 ^ (128 - b.len) - 1) < a
    → spans b a ≡ false
spans-false_behind b a behind =
    ap (λ x. nat_le b.first a && x) (nat_le-false a (b.first + (2 ^ (128 - b.len) - 1)) behind)
    ∙ and_false (nat_le b.first a)

-- the halves of the q-th block of 2 ^ (n + 1) addresses
pub doubled : (n q : ℕ) → (2 * q) * 2 ^ n ≡ q * 2 ^ suc n
doubled n q = let power : 2 ^ suc n ≡ 2 ^ n + 2 ^ n = two-pow-succ n in rw power (omega arith)

pub doubled_more : (n q : ℕ) → (2 * q + 1) * 2 ^ n ≡ q * 2 ^ suc n + 2 ^ n
doubled_more n q = let power : 2 ^ suc n ≡ 2 ^ n + 2 ^ n = two-pow-succ n in rw power (omega arith)

-- an aligned block lies in the q-th block of 2 ^ n addresses
pub record Fits (n q : ℕ) (b : Prefix) : Type 0 where
  pub length : b.len ≤ 128
  pub short : 128 - b.len ≤ n
  pub first : q * 2 ^ n ≤ b.first
  pub last : b.first + 2 ^ (128 - b.len) ≤ q * 2 ^ n + 2 ^ n
  pub aligned : b.first % 2 ^ (128 - b.len) ≡ 0

-- it is the whole block, or lies in a half of it
pub data Side (n q : ℕ) (b : Prefix) : Type 0 where
  whole : 128 - b.len ≡ suc n → b.first ≡ q * 2 ^ suc n → Side n q b
  lower : Fits n (2 * q) b → Side n q b
  upper : Fits n (2 * q + 1) b → Side n q b

-- a multiple of a smaller power of two below the middle ends there at the latest
ends_at_middle : (first s n m : ℕ) → s ≤ n → first % 2 ^ s ≡ 0 → first < m * 2 ^ n
    → first + 2 ^ s ≤ m * 2 ^ n
ends_at_middle first s n m small aligned below =
    let exponent : (n - s) + s ≡ n = omega arith in
    let power : 2 ^ n ≡ 2 ^ (n - s) * 2 ^ s =
    sym (ap (λ e. 2 ^ e) exponent) ∙ pow-add 2 (n - s) s in
    let whole : m * 2 ^ n ≡ (m * 2 ^ (n - s)) * 2 ^ s =
    ap (λ p. m * p) power ∙ sym (mul_assoc m (2 ^ (n - s)) (2 ^ s)) in
    let start : first < (m * 2 ^ (n - s)) * 2 ^ s = subst (λ e. first < e) whole below in
    let end : first + 2 ^ s ≤ (m * 2 ^ (n - s)) * 2 ^ s =
    multiple_ends first (2 ^ s) (m * 2 ^ (n - s)) (pow_pos s) start aligned in
    subst (λ e. first + 2 ^ s ≤ e) (sym whole) end

pub side : (n q : ℕ) (b : Prefix) → Fits (suc n) q b → Side n q b
side n q b fits =
    let low = doubled n q in
    let high = doubled_more n q in
    let power : 2 ^ suc n ≡ 2 ^ n + 2 ^ n = two-pow-succ n in
    let last = fits.last in
    let first = fits.first in
    let short = fits.short in
    elim (cases_lt (128 - b.len) (suc n)) [
      | inl less ↦
          elim (cases_lt b.first ((2 * q + 1) * 2 ^ n)) [
            | inl below ↦
                let end = ends_at_middle b.first (128 - b.len) n (2 * q + 1)
                (omega arith) fits.aligned below in
                lower (record {
                  length = fits.length;
                  short = omega arith;
                  first = omega arith;
                  last = omega arith;
                  aligned = fits.aligned;
                })
            | inr above ↦
                upper (record {
                  length = fits.length;
                  short = omega arith;
                  first = omega arith;
                  last = omega arith;
                  aligned = fits.aligned;
                })
          ]
      | inr all ↦
          let same : 128 - b.len ≡ suc n = omega arith in
          let size : 2 ^ (128 - b.len) ≡ 2 ^ suc n = ap (λ e. 2 ^ e) same in
          whole same (omega arith)
    ]

-- what lies in a half lies in the block
pub Fits-from_lower : (n q : ℕ) (b : Prefix) → Fits n (2 * q) b → Fits (suc n) q b
Fits-from_lower n q b fits =
    let low = doubled n q in
    let power : 2 ^ suc n ≡ 2 ^ n + 2 ^ n = two-pow-succ n in
    let last = fits.last in
    let first = fits.first in
    let short = fits.short in
    record {
      length = fits.length;
      short = omega arith;
      first = omega arith;
      last = omega arith;
      aligned = fits.aligned;
    }

pub Fits-from_upper : (n q : ℕ) (b : Prefix) → Fits n (2 * q + 1) b → Fits (suc n) q b
Fits-from_upper n q b fits =
    let high = doubled_more n q in
    let power : 2 ^ suc n ≡ 2 ^ n + 2 ^ n = two-pow-succ n in
    let last = fits.last in
    let first = fits.first in
    let short = fits.short in
    record {
      length = fits.length;
      short = omega arith;
      first = omega arith;
      last = omega arith;
      aligned = fits.aligned;
    }

-- the block itself
pub Fits-whole : (n q : ℕ) (b : Prefix) → b.len + n ≡ 128 → b.first ≡ q * 2 ^ n → Fits n q b
Fits-whole n q b long at =
    let bits : 128 - b.len ≡ n = omega arith in
    let size : 2 ^ (128 - b.len) ≡ 2 ^ n = ap (λ e. 2 ^ e) bits in
    let aligned : b.first % 2 ^ (128 - b.len) ≡ 0 =
    ap (λ p. b.first % p) size ∙ ap (λ f. f % 2 ^ n) at ∙ mul-mod_left q (2 ^ n) in
    record {
      length = omega arith;
      short = omega arith;
      first = omega arith;
      last = omega arith;
      aligned = aligned;
    }
