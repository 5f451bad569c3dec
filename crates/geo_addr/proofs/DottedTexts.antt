-- The text of an IPv4 address reads back as its octets.
use Rattle.std.proofs.Common.{◌≡◌, ℕ, ◌+◌, ◌*◌, ◌/◌, ◌%◌, ◌^◌, ◌<◌, ◌≤◌, true, false, ◌||◌, not}
use Rattle.std.proofs.Common.{nat_lt, eqb, ◌==◌, inl, inr, List, [], ◌∷◌, ◌++◌, length, get_or}
use Rattle.std.proofs.Common.{decimal, Ok, All, refl, sym, ap, ◌∙◌, arith, lit<, append_assoc}
use Rattle.std.specs.Char.{digit_value, is_ascii_digit}
use Rattle.std.specs.List.{list_all}
use Rattle.std.specs.Str.Parse.{AllDigits, digits_value}
use Rattle.std.specs.Net.Text.{dotted_text}
use Rattle.std.proofs.lemmas.Bool.{cases_lt, and_from, or_left, or_right, not_from_false, le-leb}
use Rattle.std.proofs.lemmas.Bool.{lt-ltb, ne_eqb}
use Rattle.std.proofs.lemmas.Bool.Decides.{nat_tests}
use Rattle.std.proofs.lemmas.Fmt.{decimal_is_IsNumeral, decimal_digit, length-decimal-le}
use Rattle.std.proofs.lemmas.Fmt.{first_decimal}
use Rattle.std.proofs.lemmas.List.Splits.{slice_split_at}
use Rattle.geo_addr.specs.Decimals.{has_digits}
use Rattle.geo_addr.specs.Lines.{pieces}
use Rattle.geo_addr.specs.Ipv4Texts.{is_octet, ipv4_in, ipv4_of, octets_number}
use Rattle.geo_addr.specs.Printing.{four_octets, text4}
use Rattle.geo_addr.proofs.PartLemmas.{not_separator}
use Rattle.geo_addr.proofs.V4Lemmas.{AreParts, four_octets as reads_octets}

ascii_digits : (digits : List ℕ) → AllDigits 10 digits → list_all is_ascii_digit digits ≡ true
ascii_digits [] h = refl
ascii_digits (b ∷ bs) h = and_from _ _ (ascii_digit b h.0) (ascii_digits bs h.1)
  where
    ascii_digit : (c : ℕ) → digit_value c < 10 → is_ascii_digit c ≡ true
    ascii_digit c below = grind (arith, nat_tests)

-- a number of up to three digits is printed in one to three digits
pub has_digits-decimal : (n : ℕ) → n < 1000 → has_digits 1 3 (decimal n) ≡ true
has_digits-decimal n small =
    let numeral = decimal_is_IsNumeral n (omega arith) in
    let short : length (decimal n) ≤ 3 =
    length-decimal-le 3 n (lit< tt) (omega arith) (omega arith) in
    and_from _ _ (and_from _ _ (le-leb _ _ numeral.0.0) (le-leb _ _ short))
    (ascii_digits (decimal n) numeral.0.1)

pub digits_value-decimal : (n : ℕ) → n < 1000 → digits_value 10 (decimal n) ≡ n
digits_value-decimal n small = (decimal_is_IsNumeral n (omega arith)).1

no_zero_in_front : (n : ℕ) → n < 256
    → (nat_lt (length (decimal n)) 2 || not (get_or (decimal n) 0 0 == 48)) ≡ true
no_zero_in_front n small =
    elim (cases_lt n 1) [
      | inl zero_alone ↦
          let one : length (decimal n) ≡ 1 = ap length (decimal_digit n (omega arith)) in
          or_left _ _ (lt-ltb (length (decimal n)) 2 (omega arith))
      | inr some ↦
          let above = first_decimal n some (omega arith) in
          or_right _ _ (not_from_false (get_or (decimal n) 0 0 == 48)
          (ne_eqb (get_or (decimal n) 0 0) 48 (λ e. omega (arith, above))))
    ]

-- a number below 256 is printed with no zero in front
is_octet-decimal : (n : ℕ) → n < 256 → is_octet (decimal n) ≡ true
unfolding is_octet
is_octet-decimal n small =
    and_from _ _ (no_zero_in_front n small)
    (le-leb (digits_value 10 (decimal n)) 255 (omega (arith, digits_value-decimal n (omega arith))))

-- a number that is printed has no dot in it
dot_free : (n : ℕ) → n < 256 → All (λ b. eqb b 46 ≡ false) (decimal n)
dot_free n small =
    not_separator is_ascii_digit 46 (decimal n) refl
    (ascii_digits (decimal n) (decimal_is_IsNumeral n (omega arith)).0.1)

dotted_pieces : (a b c d : ℕ) → a < 256 → b < 256 → c < 256 → d < 256
    → pieces 46 (dotted_text a b c d) ≡ decimal a ∷ decimal b ∷ decimal c ∷ pieces 46 (decimal d)
dotted_pieces a b c d fit_a fit_b fit_c fit_d =
    let joined : dotted_text a b c d
    ≡ decimal a ++ (46 ∷ (decimal b ++ (46 ∷ (decimal c ++ (46 ∷ decimal d))))) =
    simp append_assoc in
    ap (pieces 46) joined
    ∙ slice_split_at (λ x. eqb x 46) (decimal a) 46
    (decimal b ++ (46 ∷ (decimal c ++ (46 ∷ decimal d)))) (dot_free a fit_a) refl
    ∙ ap (λ parts. decimal a ∷ parts) (slice_split_at (λ x. eqb x 46) (decimal b) 46
    (decimal c ++ (46 ∷ decimal d)) (dot_free b fit_b) refl)
    ∙ ap (λ parts. decimal a ∷ decimal b ∷ parts)
    (slice_split_at (λ x. eqb x 46) (decimal c) 46 (decimal d) (dot_free c fit_c) refl)

dotted_text-reads : (a b c d n : ℕ) → a < 256 → b < 256 → c < 256 → d < 256
    → n ≡ ((a * 256 + b) * 256 + c) * 256 + d → ipv4_in (dotted_text a b c d) ≡ Ok n
dotted_text-reads a b c d n fit_a fit_b fit_c fit_d is =
    let parts : AreParts (decimal a) (decimal b) (decimal c) (decimal d) = record {
      first = has_digits-decimal a (omega arith);
      second = has_digits-decimal b (omega arith);
      third = has_digits-decimal c (omega arith);
      fourth = has_digits-decimal d (omega arith);
    } in
    let octets =
    and_from _ _ (and_from _ _ (and_from _ _ (is_octet-decimal a fit_a) (is_octet-decimal b fit_b))
    (is_octet-decimal c fit_c)) (is_octet-decimal d fit_d) in
    let number : n ≡ octets_number (decimal a ∷ decimal b ∷ decimal c ∷ decimal d ∷ []) = omega (
      arith,
      digits_value-decimal a (omega arith),
      digits_value-decimal b (omega arith),
      digits_value-decimal c (omega arith),
      digits_value-decimal d (omega arith),
    ) in
    ap ipv4_of (dotted_pieces a b c d fit_a fit_b fit_c fit_d)
    ∙ sym (reads_octets _ _ _ _ n parts octets number)

-- an IPv4 address reads back as itself
pub text4-reads : (n : ℕ) → n < 2 ^ 32 → ipv4_in (text4 n) ≡ Ok n
unfolding text4 four_octets
text4-reads n small =
    dotted_text-reads (n / 2 ^ 24 % 256) (n / 2 ^ 16 % 256) (n / 2 ^ 8 % 256) (n % 256) n
    (omega arith) (omega arith) (omega arith) (omega arith) (omega arith)
