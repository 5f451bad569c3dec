-- Lemmas on decimal digits.
use Rattle.std.proofs.Common.{◌≡◌, ℕ, ◌+◌, ◌-◌, ◌*◌, ◌^◌, ◌<◌, ◌≤◌, true, false, List, [], ◌∷◌}
use Rattle.std.proofs.Common.{length, take, get_or, arith, add-one, ap, ◌∙◌, IsTrue, nat_le, refl}
use Rattle.std.proofs.Common.{Option, None, Some}
use Rattle.std.specs.Prelude.{MatchOption}
use Rattle.std.specs.Char.{digit_value, is_ascii_digit}
use Rattle.std.specs.List.{list_all}
use Rattle.std.specs.Str.Parse.{digits_value}
use Rattle.std.proofs.lemmas.Bool.{and_left, and_right, lt-leb}
use Rattle.std.proofs.lemmas.Bool.Decides.{nat_tests}
use Rattle.std.proofs.lemmas.Int.Digits.{digits_value_more}
use Rattle.std.proofs.lemmas.List.Sums.{AllPass-from_list_all}
use Rattle.std.proofs.Math.Nat.{pow-le-pow_right, pow-suc}
use Rattle.geo_addr.specs.Decimals.{decimal, has_digits}

digit_range : (c : ℕ) → is_ascii_digit c ≡ true → (48 ≤ c) × (c ≤ 57)
digit_range c is = (grind (arith, nat_tests), grind (arith, nat_tests))

value_of : (c : ℕ) → 48 ≤ c → c ≤ 57 → digit_value c ≡ c - 48
value_of c low high = grind (arith, nat_tests)

-- each byte of a text of digits is a digit
pub digit_at : (xs : List ℕ) (i : ℕ) → IsTrue (list_all is_ascii_digit xs) → i < length xs
    → (48 ≤ get_or xs i 0) × (get_or xs i 0 ≤ 57)
digit_at xs i digits within =
    digit_range (get_or xs i 0) (AllPass-from_list_all is_ascii_digit xs digits i 0 within)

-- one more digit multiplies the value by ten and adds it
pub value_more : (xs : List ℕ) (i : ℕ) → IsTrue (list_all is_ascii_digit xs) → i < length xs →
    digits_value 10 (take (i + 1) xs) ≡ digits_value 10 (take i xs) * 10 + (get_or xs i 0 - 48)
value_more xs i digits within =
    let range : (48 ≤ get_or xs i 0) × (get_or xs i 0 ≤ 57) = digit_at xs i digits within in
    let digit : digit_value (get_or xs i 0) ≡ get_or xs i 0 - 48 =
    value_of (get_or xs i 0) range.0 range.1 in
    digits_value_more 10 xs i within ∙ ap (λ d. digits_value 10 (take i xs) * 10 + d) digit

-- a number of fewer than 38 digits has room for one more
pub room : (value digit i : ℕ) → value < 10 ^ i → digit ≤ 9 → i < 38 → value * 10 + digit < 2 ^ 128
room value digit i small one few =
    let most : 10 ^ i ≤ 10 ^ 37 =
    pow-le-pow_right {n = 10} (omega arith) {i = i} {j = 37} (omega arith) in
    omega arith

pub next_power : (value digit i : ℕ) → value < 10 ^ i → digit ≤ 9
    → value * 10 + digit < 10 ^ (i + 1)
next_power value digit i small one =
    let power : 10 ^ (i + 1) ≡ 10 ^ i * 10 = rw add-one (pow-suc 10 i) in
    omega arith

-- a text of one to three digits, by its length
pub none_empty : (text : List ℕ) → length text < 1 → None ≡ decimal 1 3 text
none_empty [] h = refl
none_empty (b ∷ bs) h = absurd (omega (arith, h))

pub none_long : (text : List ℕ) → 3 < length text → None ≡ decimal 1 3 text
none_long text h =
    let long : has_digits 1 3 text ≡ false =
    and_left _ (list_all is_ascii_digit text)
    (and_right (nat_le 1 (length text)) _ (lt-leb (length text) 3 h)) in
    rw long refl

pub one_short : (text : List ℕ) (read : Option ℕ) → length text ≡ 1
    → MatchOption read (is_ascii_digit (get_or text 0 0) ≡ false)
    (λ value. (is_ascii_digit (get_or text 0 0) ≡ true) × (value ≡ digit_value (get_or text 0 0))
    × (value ≤ 9)) → read ≡ decimal 1 3 text
one_short [] read h is = absurd (omega (arith, h))
one_short (b ∷ []) None h is = rw is refl
one_short (b ∷ []) (Some v) h is =
    rw is.0 (ap Some (let e : v ≡ digits_value 10 (b ∷ []) = omega (arith, is.1) in e))
one_short (a ∷ b ∷ bs) read h is = absurd (omega (arith, h))

pub two_short : (text : List ℕ) (read : Option ℕ) → length text ≡ 2
    → read ≡ decimal 2 2 (get_or text 0 0 ∷ get_or text 1 0 ∷ []) → read ≡ decimal 1 3 text
two_short [] read h is = absurd (omega (arith, h))
two_short (a ∷ []) read h is = absurd (omega (arith, h))
two_short (a ∷ b ∷ []) read h is = is
two_short (a ∷ b ∷ c ∷ bs) read h is = absurd (omega (arith, h))

pub three_short : (text : List ℕ) (read : Option ℕ) → length text ≡ 3
    → read ≡ decimal 3 3 (get_or text 0 0 ∷ get_or text 1 0 ∷ get_or text 2 0 ∷ [])
    → read ≡ decimal 1 3 text
three_short [] read h is = absurd (omega (arith, h))
three_short (a ∷ []) read h is = absurd (omega (arith, h))
three_short (a ∷ b ∷ []) read h is = absurd (omega (arith, h))
three_short (a ∷ b ∷ c ∷ []) read h is = is
three_short (a ∷ b ∷ c ∷ d ∷ bs) read h is = absurd (omega (arith, h))
