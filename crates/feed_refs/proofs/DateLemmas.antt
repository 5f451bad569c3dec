-- The digits of a text that fits a shape, and their value.
use Rattle.std.proofs.Common.{◌≡◌, ℕ, ◌+◌, ◌-◌, ◌*◌, ◌^◌, ◌<◌, ◌≤◌, Bool, true, false, cond, List}
use Rattle.std.proofs.Common.{[], ◌∷◌, length, drop, get_or, filter, arith, ap, refl, ◌∙◌}
use Rattle.std.specs.Prelude.{◌==◌, not, codes}
use Rattle.std.specs.Char.{is_ascii_digit, digit_value}
use Rattle.std.specs.List.{list_all}
use Rattle.std.specs.Str.Parse.{AllDigits, digits_value, digits_value_after}
use Rattle.std.proofs.lemmas.Bool.{and_parts, cond-true, cond-false, eqb-true, not-true}
use Rattle.std.proofs.lemmas.Bool.Decides.{nat_tests}
use Rattle.std.proofs.lemmas.Int.Digits.{digits_value-lt}
use Rattle.std.proofs.lemmas.List.{at_drop_more}
use Rattle.std.proofs.Math.Nat.{pow-le-pow_right}
use Rattle.feed_refs.specs.Dates.{fits, fits_byte}

-- a byte of a shape that stands for a digit
abbrev pub is_d : ℕ → Bool
is_d s = s == 100

-- one, or none
abbrev one_if : Bool → ℕ
one_if b = cond b 1 0

digit_range : (c : ℕ) → is_ascii_digit c ≡ true → (48 ≤ c) × (c ≤ 57)
digit_range c is = (grind (arith, nat_tests), grind (arith, nat_tests))

value_of : (c : ℕ) → is_ascii_digit c ≡ true → digit_value c ≡ c - 48
value_of c is = let r : (48 ≤ c) × (c ≤ 57) = digit_range c is in grind (arith, nat_tests)

all_digits : (text : List ℕ) → AllDigits 10 (filter is_ascii_digit text)
all_digits [] = tt
all_digits (c ∷ cs) =
    let one : (b : Bool) → is_ascii_digit c ≡ b
    → AllDigits 10 (cond b (c ∷ filter is_ascii_digit cs) (filter is_ascii_digit cs)) =
    λ b. elim b as (λ t. is_ascii_digit c ≡ t
    → AllDigits 10 (cond t (c ∷ filter is_ascii_digit cs) (filter is_ascii_digit cs))) [
      | true ↦ λ is. (
        let r : (48 ≤ c) × (c ≤ 57) = digit_range c is in let v : digit_value c ≡ c - 48 =
            value_of c is in
            omega arith,
        all_digits cs,
      )
      | false ↦ λ is. all_digits cs
    ] in
    one (is_ascii_digit c) refl

-- at most 19 digits fit 64 bits
pub total_fits : (text : List ℕ) → length (filter is_ascii_digit text) ≤ 19
    → digits_value 10 (filter is_ascii_digit text) < 2 ^ 64
total_fits text few =
    let small : digits_value 10 (filter is_ascii_digit text)
    < 10 ^ length (filter is_ascii_digit text) =
    digits_value-lt 10 (filter is_ascii_digit text) (all_digits text) in
    let most : 10 ^ length (filter is_ascii_digit text) ≤ 10 ^ 19 =
    pow-le-pow_right {n = 10} (omega arith) {i = length (filter is_ascii_digit text)} {j = 19}
    few in
    omega arith

-- more digits make no smaller number
at_least : (n : ℕ) (ds : List ℕ) → n ≤ digits_value_after 10 n ds
at_least n [] = omega arith
at_least n (d ∷ ds) = omega (arith, at_least (n * 10 + digit_value d) ds)

-- what a value and the digits from an offset on make
abbrev pub value_from : ℕ → List ℕ → ℕ → ℕ
value_from value text i = digits_value_after 10 value (filter is_ascii_digit (drop i text))

pub digit_step : (value : ℕ) (text : List ℕ) (i : ℕ) → i < length text
    → is_ascii_digit (get_or text i 0) ≡ true
    → value_from value text i ≡ value_from (value * 10 + (get_or text i 0 - 48)) text (i + 1)
digit_step value text i within is =
    let c : ℕ = get_or text i 0 in
    let rest : List ℕ = filter is_ascii_digit (drop (i + 1) text) in
    let more : value_from value text i
    ≡ digits_value_after 10 value (cond (is_ascii_digit c) (c ∷ rest) rest) =
    at_drop_more (λ t. digits_value_after 10 value (filter is_ascii_digit t)) text i 0 within in
    let taken : cond (is_ascii_digit c) (c ∷ rest) rest ≡ c ∷ rest =
    cond-true (is_ascii_digit c) (c ∷ rest) rest is in
    more ∙ ap (λ t. digits_value_after 10 value t) taken
    ∙ ap (λ d. digits_value_after 10 (value * 10 + d) rest) (value_of c is)

pub other_step : (value : ℕ) (text : List ℕ) (i : ℕ) → i < length text
    → is_ascii_digit (get_or text i 0) ≡ false
    → value_from value text i ≡ value_from value text (i + 1)
other_step value text i within is =
    let c : ℕ = get_or text i 0 in
    let rest : List ℕ = filter is_ascii_digit (drop (i + 1) text) in
    let more : value_from value text i
    ≡ digits_value_after 10 value (cond (is_ascii_digit c) (c ∷ rest) rest) =
    at_drop_more (λ t. digits_value_after 10 value (filter is_ascii_digit t)) text i 0 within in
    more
    ∙ ap (λ t. digits_value_after 10 value t) (cond-false (is_ascii_digit c) (c ∷ rest) rest is)

-- a value with one more digit fits where the whole does
pub step_fits : (value : ℕ) (text : List ℕ) (i : ℕ) → i < length text
    → is_ascii_digit (get_or text i 0) ≡ true
    → value_from value text i ≡ digits_value 10 (filter is_ascii_digit text)
    → length (filter is_ascii_digit text) ≤ 19 → value * 10 + (get_or text i 0 - 48) < 2 ^ 64
step_fits value text i within is so few =
    let whole : digits_value 10 (filter is_ascii_digit text) < 2 ^ 64 = total_fits text few in
    let step : value_from value text i
    ≡ value_from (value * 10 + (get_or text i 0 - 48)) text (i + 1) =
    digit_step value text i within is in
    let least : value * 10 + (get_or text i 0 - 48)
    ≤ value_from (value * 10 + (get_or text i 0 - 48)) text (i + 1) =
    at_least (value * 10 + (get_or text i 0 - 48)) (filter is_ascii_digit (drop (i + 1) text)) in
    omega arith

-- how many digits one more byte adds
digits_more : (c : ℕ) (cs : List ℕ)
    → length (filter is_ascii_digit (c ∷ cs))
    ≡ one_if (is_ascii_digit c) + length (filter is_ascii_digit cs)
digits_more c cs =
    let one : (b : Bool) → length (cond b (c ∷ filter is_ascii_digit cs) (filter is_ascii_digit cs))
    ≡ one_if b + length (filter is_ascii_digit cs) =
    λ b. elim b as (λ t. length (cond t (c ∷ filter is_ascii_digit cs) (filter is_ascii_digit cs))
    ≡ one_if t + length (filter is_ascii_digit cs)) [ true ↦ omega arith | false ↦ omega arith ] in
    one (is_ascii_digit c)

ds_more : (s : ℕ) (shape : List ℕ)
    → length (filter is_d (s ∷ shape)) ≡ one_if (is_d s) + length (filter is_d shape)
ds_more s shape =
    let one : (b : Bool) → length (cond b (s ∷ filter is_d shape) (filter is_d shape))
    ≡ one_if b + length (filter is_d shape) =
    λ b. elim b as (λ t. length (cond t (s ∷ filter is_d shape) (filter is_d shape))
    ≡ one_if t + length (filter is_d shape)) [ true ↦ omega arith | false ↦ omega arith ] in
    one (is_d s)

-- a byte that fits is a digit exactly where the shape has a `d`,
-- if the shape has no digits of its own
fits_as : (s b : ℕ) → not (is_ascii_digit s) ≡ true → fits_byte s b ≡ true
    → one_if (is_ascii_digit b) ≡ one_if (is_d s)
fits_as s b free e =
    let one : (t : Bool) → (s == 100) ≡ t → cond t (is_ascii_digit b) (b == s) ≡ true
    → one_if (is_ascii_digit b) ≡ one_if t =
    λ t. elim t as (λ u. (s == 100) ≡ u → cond u (is_ascii_digit b) (b == s) ≡ true
    → one_if (is_ascii_digit b) ≡ one_if u) [
      | true ↦ λ is h. ap one_if h
      | false ↦ λ is h. ap (λ x. one_if (is_ascii_digit x)) (eqb-true b s h)
          ∙ ap one_if (not-true (is_ascii_digit s) free)
    ] in
    one (s == 100) refl e

-- a text that fits a shape has a digit for each `d` of the shape, and no other
pub digits_fit : (shape text : List ℕ) → list_all (λ s. not (is_ascii_digit s)) shape ≡ true
    → fits shape text ≡ true → length (filter is_ascii_digit text) ≡ length (filter is_d shape)
digits_fit [] [] free e = refl
digits_fit [] (b ∷ bs) free e = absurd cc
digits_fit (s ∷ shape) [] free e = absurd cc
digits_fit (s ∷ shape) (b ∷ bs) free e =
    let f : (not (is_ascii_digit s) ≡ true)
    × (list_all (λ s. not (is_ascii_digit s)) shape ≡ true) =
    and_parts (not (is_ascii_digit s)) (list_all (λ s. not (is_ascii_digit s)) shape) free in
    let g : (fits_byte s b ≡ true) × (fits shape bs ≡ true) =
    and_parts (fits_byte s b) (fits shape bs) e in
    let one : one_if (is_ascii_digit b) ≡ one_if (is_d s) = fits_as s b f.0 g.0 in
    let more : length (filter is_ascii_digit bs) ≡ length (filter is_d shape) =
    digits_fit shape bs f.1 g.1 in
    omega (arith, digits_more b bs, ds_more s shape)

-- a time has 14 digits
pub few_digits : (text : List ℕ) → fits (codes "dddd-dd-ddTdd:dd:ddZ") text ≡ true
    → length (filter is_ascii_digit text) ≤ 19
few_digits text e =
    let h : length (filter is_ascii_digit text) ≡ 14 =
    digits_fit (codes "dddd-dd-ddTdd:dd:ddZ") text refl e in omega arith
