-- The number that a group spells.
use Rattle.std.proofs.Common.{◌≡◌, ℕ, ◌+◌, ◌*◌, ◌^◌, ◌<◌, ◌≤◌, true, List, [], ◌∷◌, length, get_or}
use Rattle.std.proofs.Common.{take, refl, sym, ap, ◌∙◌, lit<, length-take-le, arith}
use Rattle.std.specs.List.{list_all}
use Rattle.std.specs.Char.{is_digit, digit_value}
use Rattle.std.specs.Str.Parse.{AllDigits, digits_value}
use Rattle.std.proofs.lemmas.Bool.{lt-ltb, le-leb, and_from}
use Rattle.std.proofs.lemmas.Int.Digits.{digits_value-lt, digits_more, digits_value_more}
use Rattle.std.proofs.Math.Nat.{pow-le-pow_right}
use Rattle.geo_addr.specs.Ipv6Texts.{is_group}

-- the hexadecimal digits that were read, and their number
pub record ReadDigits (digits : List ℕ) (value : ℕ) : Type 0 where
  pub are_digits : AllDigits 16 digits
  pub value_is : value ≡ digits_value 16 digits

-- up to n digits spell a number below 16 ^ n
pub ReadDigits-lt : (digits : List ℕ) (value most : ℕ) → length digits ≤ most
    → ReadDigits digits value → value < 16 ^ most
ReadDigits-lt digits value most few read =
    let below = digits_value-lt 16 digits read.are_digits in
    let bounded : 16 ^ length digits ≤ 16 ^ most = pow-le-pow_right (lit< tt) few in
    omega (arith, read.value_is)

-- before the last of four digits there is room for one more
pub ReadDigits-room : (text : List ℕ) (i value : ℕ) → length text ≤ 4 → i < length text
    → ReadDigits (take i text) value → value < 4096
ReadDigits-room text i value few before read =
    ReadDigits-lt (take i text) value 3 (omega (arith, length-take-le i text (omega arith))) read

-- one more digit
pub ReadDigits-more : (text : List ℕ) (i value digit : ℕ)
    → i < length text → ReadDigits (take i text) value → digit_value (get_or text i 0) < 16
    → digit ≡ digit_value (get_or text i 0) → ReadDigits (take (i + 1) text) (value * 16 + digit)
ReadDigits-more text i value digit l read below is = record {
  are_digits = digits_more 16 text i l read.are_digits below;
  value_is =
      ap (λ d. value * 16 + d) is ∙ ap (λ v. v * 16 + digit_value (get_or text i 0)) read.value_is
      ∙ sym (digits_value_more 16 text i l);
}

all_digits : (text : List ℕ) → AllDigits 16 text → list_all (λ b. is_digit b 16) text ≡ true
all_digits [] h = refl
all_digits (b ∷ bs) h = and_from _ _ (lt-ltb _ _ h.0) (all_digits bs h.1)

-- all the digits were read
pub is_group-read : (text : List ℕ) (value : ℕ) → 0 < length text → length text ≤ 4
    → ReadDigits text value → is_group text ≡ true
unfolding is_group
is_group-read text value some few read =
    and_from _ _ (and_from _ _ (le-leb _ _ some) (le-leb _ _ few)) (all_digits text read.are_digits)
