-- The text of a block is hexadecimal digits, dots, colons and a slash: a plain field, and clean.
use Rattle.std.proofs.Common.{inl, inr, ◌≡◌, ℕ, zero, suc, ◌-◌, ◌/◌, ◌%◌, ◌^◌, ◌<◌, ◌≤◌}
use Rattle.std.proofs.Common.{Bool, true, false, cond, not, ◌&&◌, ◌||◌, nat_le, All, List}
use Rattle.std.proofs.Common.{[], ◌∷◌, ◌++◌, length, get_or, decimal, reverse, refl, ap, ◌∙◌, arith}
use Rattle.std.specs.Prelude.{codes}
use Rattle.std.specs.Char.{digit_value}
use Rattle.std.specs.Int.Digits.{AllBelowBase}
use Rattle.std.specs.List.{list_all, prefix_len}
use Rattle.std.specs.Str.Parse.{AllDigits}
use Rattle.std.proofs.lemmas.Bool.{and_parts}
use Rattle.std.proofs.lemmas.Bool.Decides.{nat_tests}
use Rattle.std.proofs.lemmas.Fmt.{decimal_is_IsNumeral}
use Rattle.std.proofs.lemmas.List.{length-append, reverse-append}
use Rattle.std.proofs.lemmas.List.Folds.{list_all-append}
use Rattle.std.proofs.lemmas.Str.{IsUtf8-from_ascii}
use Rattle.std.proofs.lemmas.Str.Ascii.{IsAscii-from_all}
use Rattle.std.proofs.NetLemmas.Alphabet.{IsDigitOrDot, IsHexOrColon, All-ipv4_text}
use Rattle.std.proofs.NetLemmas.Alphabet.{All-hex_groups_text}
use Rattle.std.proofs.NetLemmas.Texts.{AllSegments}
use Rattle.geo_addr.specs.Lines.{is_blank}
use Rattle.geo_addr.specs.Printing.{block_text, eight_groups, four_octets, groups_before}
use Rattle.geo_addr.specs.Printing.{number_text, printed_length, text4, text6}
use Rattle.geo_addr.specs.Ranges.{IsBlock, Prefix, is_v4, range_of_block}
use Rattle.csv_lines.specs.Clean.{is_clean}
use Rattle.csv_lines.specs.Fields.{is_plain}
use Rattle.published.proofs.Texts.{IsGood}

-- a byte of an address, or the slash
abbrev is_prefix_byte : ℕ → Bool
is_prefix_byte b = (nat_le 46 b && nat_le b 58) || (nat_le 97 b && nat_le b 102)

dot : (b : ℕ) → IsDigitOrDot b → is_prefix_byte b ≡ true
dot b (inl one) = grind (arith, nat_tests)
dot b (inr one) = grind (arith, nat_tests)

colon : (b : ℕ) → IsHexOrColon b → is_prefix_byte b ≡ true
colon b (inl one) = grind (arith, nat_tests)
colon b (inr one) = grind (arith, nat_tests)

digit : (b : ℕ) → digit_value b < 10 → is_prefix_byte b ≡ true
digit b low = grind (arith, nat_tests)

each : (P : ℕ → Type 0) → ((b : ℕ) → P b → is_prefix_byte b ≡ true) → (xs : List ℕ) → All P xs
    → list_all is_prefix_byte xs ≡ true
each P f [] h = refl
each P f (x ∷ xs) h =
    rw (f x (h 0 0 (omega arith)), each P f xs (λ k d l. h (suc k) d (omega arith))) refl

digits : (xs : List ℕ) → AllDigits 10 xs → list_all is_prefix_byte xs ≡ true
digits [] h = refl
digits (x ∷ xs) h = rw (digit x h.0, digits xs h.1) refl

four_fit : (n k : ℕ) → get_or (four_octets n) k 0 < 2 ^ 8
unfolding four_octets
four_fit n zero = omega arith
four_fit n (suc zero) = omega arith
four_fit n (suc (suc zero)) = omega arith
four_fit n (suc (suc (suc zero))) = omega arith
four_fit n (suc (suc (suc (suc k)))) = omega arith

groups_fit : (count n : ℕ) (gs : List ℕ) → AllBelowBase 65536 gs
    → AllBelowBase 65536 (groups_before count n gs)
groups_fit zero n gs fit = fit
groups_fit (suc count) n gs fit = groups_fit count (n / 65536) ((n % 65536) ∷ gs) (omega arith, fit)

segments : (gs : List ℕ) → AllBelowBase 65536 gs → AllSegments gs
segments [] fit k = omega arith
segments (g ∷ gs) fit zero = fit.0
segments (g ∷ gs) fit (suc k) = segments gs fit.1 k

bytes4 : (n : ℕ) → list_all is_prefix_byte (text4 n) ≡ true
unfolding text4
bytes4 n = each IsDigitOrDot dot (text4 n) (All-ipv4_text (four_octets n) (four_fit n))

bytes6 : (n : ℕ) → list_all is_prefix_byte (text6 n) ≡ true
unfolding text6 eight_groups
bytes6 n =
    each IsHexOrColon colon (text6 n)
    (All-hex_groups_text (eight_groups n) (segments (groups_before 8 n []) (groups_fit 8 n [] tt)))

number_bytes : (six : Bool) (n : ℕ) → list_all is_prefix_byte (number_text six n) ≡ true
number_bytes true n = bytes6 n
number_bytes false n = bytes4 n

length_bytes : (n : ℕ) → n ≤ 128 → list_all is_prefix_byte (decimal n) ≡ true
length_bytes n low = digits (decimal n) (decimal_is_IsNumeral n (omega arith)).0.1

short_length : (b : Prefix) → IsBlock b → printed_length b ≤ 128
unfolding printed_length
short_length b is = by (is_v4 (range_of_block b))
  where
    by : (v4 : Bool) → cond v4 (b.len - 96) b.len ≤ 128
    by true = omega (arith, is.length_fits)
    by false = is.length_fits

prefix_bytes : (b : Prefix) → IsBlock b → list_all is_prefix_byte (block_text b) ≡ true
prefix_bytes b is =
    let first = number_text (not (is_v4 (range_of_block b))) b.first in
    let len = printed_length b in
    list_all-append is_prefix_byte (first ++ codes "/") (decimal len)
    ∙ rw (
      list_all-append is_prefix_byte first (codes "/"),
      number_bytes (not (is_v4 (range_of_block b))) b.first,
      length_bytes len (short_length b is),
    ) refl

-- ---- what such bytes are

weaker : (q : ℕ → Bool) → ((b : ℕ) → is_prefix_byte b ≡ true → q b ≡ true) → (xs : List ℕ)
    → list_all is_prefix_byte xs ≡ true → list_all q xs ≡ true
weaker q f [] h = refl
weaker q f (x ∷ xs) h =
    let (one, more) = and_parts (is_prefix_byte x) (list_all is_prefix_byte xs) h in
    rw (f x one, weaker q f xs more) refl

no_blank : (xs : List ℕ) → list_all is_prefix_byte xs ≡ true → prefix_len is_blank xs ≡ 0
no_blank [] h = refl
no_blank (x ∷ xs) h =
    let (one, more) = and_parts (is_prefix_byte x) (list_all is_prefix_byte xs) h in
    let other : is_blank x ≡ false = grind (arith, nat_tests) in
    rw other refl

backwards : (xs : List ℕ) → list_all is_prefix_byte xs ≡ true
    → list_all is_prefix_byte (reverse xs) ≡ true
backwards [] h = refl
backwards (x ∷ xs) h =
    let (one, more) = and_parts (is_prefix_byte x) (list_all is_prefix_byte xs) h in
    ap (list_all is_prefix_byte) (reverse-append (x ∷ []) xs)
    ∙ list_all-append is_prefix_byte (reverse xs) (x ∷ [])
    ∙ rw (backwards xs more, one) refl

ascii : (xs : List ℕ) → list_all is_prefix_byte xs ≡ true → All (λ b. b < 128) xs
ascii [] h k d l = absurd (omega arith)
ascii (x ∷ xs) h zero d l =
    let (one, more) = and_parts (is_prefix_byte x) (list_all is_prefix_byte xs) h in
    grind (arith, nat_tests)
ascii (x ∷ xs) h (suc k) d l =
    let (one, more) = and_parts (is_prefix_byte x) (list_all is_prefix_byte xs) h in
    ascii xs more k d (omega arith)

pub plain_block : (b : Prefix) → IsBlock b → list_all is_plain (block_text b) ≡ true
plain_block b is =
    weaker is_plain (λ c h. grind (arith, nat_tests)) (block_text b) (prefix_bytes b is)

pub good_block : (b : Prefix) → IsBlock b → IsGood (block_text b)
good_block b is =
    let bytes = prefix_bytes b is in
    record {
      utf8 =
          IsUtf8-from_ascii (block_text b)
          (IsAscii-from_all (block_text b) (ascii (block_text b) bytes));
      clean = record {
        bytes = weaker is_clean (λ c h. grind (arith, nat_tests)) (block_text b) bytes;
        start = no_blank (block_text b) bytes;
        end = no_blank (reverse (block_text b)) (backwards (block_text b) bytes);
      };
    }

-- the text has a first byte, which begins no byte order mark
pub ascii_block : (b : Prefix) → IsBlock b → All (λ c. c < 128) (block_text b)
ascii_block b is = ascii (block_text b) (prefix_bytes b is)

pub some_block : (b : Prefix) → 0 < length (block_text b)
some_block b =
    let first = number_text (not (is_v4 (range_of_block b))) b.first in
    omega (
      arith,
      length-append (first ++ codes "/") (decimal (printed_length b)),
      length-append first (codes "/"),
    )
