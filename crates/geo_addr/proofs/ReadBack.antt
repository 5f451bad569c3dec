-- What is printed of addresses, blocks and ranges reads back as the same.
use Rattle.std.proofs.Common.{◌≡◌, ◌≢◌, ℕ, zero, suc, ◌+◌, ◌-◌, ◌*◌, ◌%◌, ◌^◌, ◌<◌, ◌≤◌, ◌==◌, Bool}
use Rattle.std.proofs.Common.{true, false, ◌&&◌, not, nat_lt, nat_le, cond, List, [], ◌∷◌, ◌++◌}
use Rattle.std.proofs.Common.{length, get_or, decimal, Some, Ok, All, refl, sym, ap, ◌∙◌, arith}
use Rattle.std.proofs.Common.{lit<, inl, inr, append_assoc, take_all, subst, Err, IfOk, Result}
use Rattle.std.specs.Int.Digits.{AllBelowBase}
use Rattle.std.specs.List.{suffix_len}
use Rattle.std.proofs.lemmas.Bool.{cases_lt, cases_Bool, lt-ltb, le-ltb, lt-leb, le-leb, ne_eqb}
use Rattle.std.proofs.lemmas.Bool.{eq-eqb, ltb-true, ltb-false, and_left, and_right}
use Rattle.std.proofs.lemmas.Bool.Decides.{nat_tests}
use Rattle.std.proofs.lemmas.List.Folds.{list_any_none}
use Rattle.std.proofs.lemmas.List.Sums.{suffix_len_is}
use Rattle.std.proofs.lemmas.Nat.{pow-add, pow_pos}
use Rattle.std.proofs.Math.Nat.{pow-le-pow_right}
use Rattle.std.proofs.NetLemmas.Alphabet.{IsDigitOrDot, IsHexOrColon, All-ipv4_text}
use Rattle.std.proofs.NetLemmas.Alphabet.{All-hex_groups_text}
use Rattle.std.proofs.NetLemmas.Texts.{AllSegments}
use Rattle.geo_addr.specs.AddressTexts.{is_six, number_in, address_in}
use Rattle.geo_addr.specs.Lines.{is_blank, trimmed_start, trimmed_end}
use Rattle.geo_addr.specs.Prefixes.{address_length, aligned_block, block_in, length_in}
use Rattle.geo_addr.specs.Printing.{address_text, block_text, eight_groups, four_octets}
use Rattle.geo_addr.specs.Printing.{groups_before, number_text, printed_length, range_text, text4}
use Rattle.geo_addr.specs.Printing.{text6}
use Rattle.geo_addr.specs.Ranges.{Ends, IsBlock, IsRange, Prefix, is_v4, range_of_block}
use Rattle.geo_addr.specs.Spans.{is_same, ordered_range, span_in}
use Rattle.geo_addr.proofs.Blocks.{multiple_ends}
use Rattle.geo_addr.proofs.DottedTexts.{has_digits-decimal, digits_value-decimal, text4-reads}
use Rattle.geo_addr.proofs.GroupTexts.{groups_before-fit, is_six-text6, text6-reads}
use Rattle.geo_addr.proofs.PrefixLemmas.{cut_first-at}

-- a byte that stands in addresses alone: no hyphen, slash or blank
abbrev IsPlain : ℕ → Type 0
IsPlain b = (b ≢ 45) × (b ≢ 47) × (is_blank b ≡ false)

plain_digit_or_dot : (b : ℕ) → IsDigitOrDot b → IsPlain b × (b ≢ 58)
plain_digit_or_dot b (inl digit) =
    ((λ e. omega arith, λ e. omega arith, grind (arith, nat_tests)), λ e. omega arith)
plain_digit_or_dot b (inr dot) =
    ((λ e. omega arith, λ e. omega arith, grind (arith, nat_tests)), λ e. omega arith)

plain_hex_or_colon : (b : ℕ) → IsHexOrColon b → IsPlain b
plain_hex_or_colon b (inl digit) = (λ e. omega arith, λ e. omega arith, grind (arith, nat_tests))
plain_hex_or_colon b (inr letter) = (λ e. omega arith, λ e. omega arith, grind (arith, nat_tests))

-- a text of this family that spells a number, without bytes that end an address
pub record Spells (six : Bool) (text : List ℕ) (number : ℕ) : Type 0 where
  pub family : is_six text ≡ six
  pub value : number_in six text ≡ Ok number
  pub plain : All IsPlain text

four_fit : (n k : ℕ) → get_or (four_octets n) k 0 < 2 ^ 8
unfolding four_octets
four_fit n zero = omega arith
four_fit n (suc zero) = omega arith
four_fit n (suc (suc zero)) = omega arith
four_fit n (suc (suc (suc zero))) = omega arith
four_fit n (suc (suc (suc (suc k)))) = omega arith

AllSegments-below : (gs : List ℕ) → AllBelowBase 65536 gs → AllSegments gs
AllSegments-below [] fit k = omega arith
AllSegments-below (g ∷ gs) fit zero = fit.0
AllSegments-below (g ∷ gs) fit (suc k) = AllSegments-below gs fit.1 k

eight_fit : (n : ℕ) → AllSegments (eight_groups n)
unfolding eight_groups
eight_fit n = AllSegments-below (groups_before 8 n []) (groups_before-fit 8 n [] tt)

bytes4 : (n : ℕ) → All IsDigitOrDot (text4 n)
unfolding text4
bytes4 n = All-ipv4_text (four_octets n) (four_fit n)

bytes6 : (n : ℕ) → All IsHexOrColon (text6 n)
unfolding text6
bytes6 n = All-hex_groups_text (eight_groups n) (eight_fit n)

-- the text of an address in the form of either family
spells4 : (n : ℕ) → n < 2 ^ 32 → Spells false (text4 n) n
spells4 n small = record {
  family =
      list_any_none (λ b. b == 58) (text4 n)
      (λ k d l. ne_eqb _ 58 (plain_digit_or_dot _ (bytes4 n k d l)).1);
  value = text4-reads n small;
  plain = λ k d l. (plain_digit_or_dot _ (bytes4 n k d l)).0;
}

spells6 : (n : ℕ) → n < 2 ^ 128 → Spells true (text6 n) n
spells6 n small = record {
  family = is_six-text6 n;
  value = text6-reads n small;
  plain = λ k d l. plain_hex_or_colon _ (bytes6 n k d l);
}

pub address_text-reads : (n : ℕ) → n < 2 ^ 128 → address_in (address_text n) ≡ Ok (record { 0 = n })
address_text-reads n small =
    elim (cases_lt n (2 ^ 32)) [
      | inl low ↦ let spells = spells4 n low in
          rw (lt-leb (2 ^ 32) n low, spells.family, spells.value) refl
      | inr high ↦ let spells = spells6 n small in
          rw (le-leb (2 ^ 32) n high, spells.family, spells.value) refl
    ]

-- a text without the separators is not cut, and a plain text is not trimmed
first_plain : (text : List ℕ) → All IsPlain text → trimmed_start text ≡ text
first_plain [] plain = refl
first_plain (b ∷ bs) plain = rw (plain 0 0 (omega arith)).2 refl

last_plain : (text : List ℕ) → All IsPlain text → trimmed_end text ≡ text
last_plain text plain =
    let none : suffix_len is_blank text ≡ length text - length text =
    suffix_len_is is_blank text (length text) 0 (omega arith)
    (λ k above below. absurd (omega arith)) (λ some. (plain (length text - 1) 0 (omega arith)).2) in
    take_all (length text - suffix_len is_blank text) text (omega arith)

few_bits : (six : Bool) (bits : ℕ) → bits ≤ address_length six → bits < 1000
few_bits true bits fits = omega arith
few_bits false bits fits = omega arith

length_in-decimal : (six : Bool) (bits : ℕ) → bits ≤ address_length six
    → length_in six (decimal bits) ≡ Some bits
unfolding length_in
length_in-decimal six bits fits =
    let few = few_bits six bits fits in
    let value = digits_value-decimal bits few in
    rw (has_digits-decimal bits few, value, le-leb bits (address_length six) fits) refl

aligned_block-is : (six : Bool) (first len : ℕ)
    → first % 2 ^ (128 - len) ≡ 0 → (six && nat_le 96 len && nat_lt first (2 ^ 32)) ≡ false
    → aligned_block six first len ≡ Ok (record { first = first; len = len })
unfolding aligned_block
aligned_block-is six first len aligned own = rw (eq-eqb _ 0 aligned, own) refl

-- a block that is printed in the form of a family
block_reads : (six : Bool) (text : List ℕ) (first bits len : ℕ) → Spells six text first
    → bits ≤ address_length six → len ≡ cond six bits (96 + bits) → first % 2 ^ (128 - len) ≡ 0
    → (six && nat_le 96 len && nat_lt first (2 ^ 32)) ≡ false
    → block_in (text ++ 47 ∷ decimal bits) ≡ Ok (record { first = first; len = len })
block_reads six text first bits len spells fits is aligned own =
    let cut = cut_first-at 47 text (decimal bits) (λ k d l. (spells.plain k d l).1) in
    rw (cut, spells.family, spells.value, length_in-decimal six bits fits, ← is)
    (aligned_block-is six first len aligned own)

ordered_range-is : (six : Bool) (first last : ℕ)
    → first ≤ last → (six && nat_lt last (2 ^ 32)) ≡ false
    → ordered_range six first last ≡ Ok (record { first = first; last = last })
unfolding ordered_range
ordered_range-is six first last ordered own = rw (le-ltb last first ordered, own) refl

same_family : (six : Bool) → is_same six six ≡ true
same_family true = refl
same_family false = refl

-- a range that is printed in the form of a family
range_reads : (six : Bool) (left right : List ℕ) (first last : ℕ) → Spells six left first
    → Spells six right last → first ≤ last → (six && nat_lt last (2 ^ 32)) ≡ false
    → span_in (left ++ 45 ∷ right) ≡ Ok (record { first = first; last = last })
range_reads six left right first last low high ordered own =
    let cut = cut_first-at 45 left right (λ k d l. (low.plain k d l).0) in
    let start = last_plain left low.plain in
    let end = first_plain right high.plain in
    rw (cut, start, end, low.family, low.value, high.family, high.value, same_family six)
    (ordered_range-is six first last ordered own)

-- what is printed of a range reads back
pub range_text-reads : (range : Ends) → IsRange range → span_in (range_text range) ≡ Ok range
range_text-reads range is =
    elim (cases_lt range.last (2 ^ 32)) [
      | inl low ↦
          rw (lt-ltb range.last (2 ^ 32) low, append_assoc)
          (range_reads false (text4 range.first) (text4 range.last) range.first range.last (spells4
          range.first (omega (arith, is.ordered))) (spells4 range.last low) is.ordered refl)
      | inr high ↦
          rw (
            le-ltb range.last (2 ^ 32) high,
            append_assoc,
          ) (range_reads true (text6 range.first) (text6 range.last) range.first range.last
          (spells6 range.first (omega (arith, is.ordered, is.within)))
          (spells6 range.last is.within) is.ordered (le-ltb range.last (2 ^ 32) high))
    ]

-- a block that begins below 2 ^ 32 and is no larger ends there at the latest
v4_block_ends : (first k : ℕ) → k ≤ 32 → first < 2 ^ 32 → first % 2 ^ k ≡ 0 → first + 2 ^ k ≤ 2 ^ 32
v4_block_ends first k fits below aligned =
    let exponent : 32 ≡ (32 - k) + k = omega arith in
    let whole : 2 ^ 32 ≡ 2 ^ (32 - k) * 2 ^ k = ap (λ e. 2 ^ e) exponent ∙ pow-add 2 (32 - k) k in
    let start : first < 2 ^ (32 - k) * 2 ^ k = omega arith in
    omega (arith, multiple_ends first (2 ^ k) (2 ^ (32 - k)) (pow_pos k) start aligned)

-- the length of a block that lies in the IPv4 space
pub v4_length : (block : Prefix) → IsBlock block → is_v4 (range_of_block block) ≡ true
    → (96 ≤ block.len) × (block.first < 2 ^ 32)
v4_length block is low =
    let last = ltb-true (block.first + (2 ^ (128 - block.len) - 1)) (2 ^ 32) low in
    elim (cases_lt block.len 96) [
      | inl short ↦
          let large : 2 ^ 33 ≤ 2 ^ (128 - block.len) =
          pow-le-pow_right {n = 2} (lit< tt) {i = 33} {j = 128 - block.len} (omega arith) in
          absurd (omega arith)
      | inr long ↦ (long, omega arith)
    ]

-- a block that does not is larger, or begins past it
v6_block : (block : Prefix) → IsBlock block → is_v4 (range_of_block block) ≡ false
    → (nat_le 96 block.len && nat_lt block.first (2 ^ 32)) ≡ false
v6_block block is high =
    let last = ltb-false (block.first + (2 ^ (128 - block.len) - 1)) (2 ^ 32) high in
    elim (cases_lt block.len 96) [
      | inl short ↦ and_left _ _ (lt-leb 96 block.len short)
      | inr long ↦ elim (cases_lt block.first (2 ^ 32)) [
        | inl low ↦ absurd (omega (
          arith,
          v4_block_ends block.first (128 - block.len) (omega arith) low is.aligned,
          pow_pos (128 - block.len),
        ))
        | inr past ↦ and_right _ _ (le-ltb block.first (2 ^ 32) past)
      ]
    ]

-- what is printed of a block reads back
pub block_text-reads : (block : Prefix) → IsBlock block → block_in (block_text block) ≡ Ok block
unfolding printed_length
block_text-reads block is =
    elim (cases_Bool (is_v4 (range_of_block block))) [
      | inl high ↦
          let own = v4_length block is high in
          rw (high, append_assoc) (block_reads false (text4 block.first) block.first
          (block.len - 96) block.len (spells4 block.first own.1) (omega (arith, is.length_fits))
          (omega (arith, own.0)) is.aligned refl)
      | inr low ↦
          rw (
            low,
            append_assoc,
          ) (block_reads true (text6 block.first) block.first block.len block.len
          (spells6 block.first is.within) is.length_fits refl is.aligned (v6_block block is low))
    ]

-- the text of a block from its parts
pub block_text-from : (block : Prefix) (v4 : Bool) (first bits : ℕ)
    → v4 ≡ is_v4 (range_of_block block) → first ≡ block.first → bits ≡ printed_length block
    → number_text (not v4) first ++ (47 ∷ decimal bits) ≡ block_text block
block_text-from block v4 first bits own begins length =
    rw (own, begins, length)
    (sym (append_assoc (number_text (not (is_v4 (range_of_block block))) block.first) (47 ∷ [])
    (decimal (printed_length block))))

pub range_text-from : (range : Ends) (v4 : Bool) (first last : ℕ)
    → v4 ≡ is_v4 range → first ≡ range.first → last ≡ range.last
    → number_text (not v4) first ++ (45 ∷ number_text (not v4) last) ≡ range_text range
range_text-from range v4 first last own begins ends =
    rw (own, begins, ends) (sym (append_assoc (number_text (not (is_v4 range)) range.first)
    (45 ∷ []) (number_text (not (is_v4 range)) range.last)))

-- what is said of the bytes of a string is said of the text that is made of it
pub made_of : {E : Type 0} (made : Result (List ℕ) E) (bytes : List ℕ) (P : List ℕ → Type 0)
    → IfOk made (λ t. t ≡ bytes) → P bytes → IfOk made P
made_of (Ok t) bytes P is p = subst P (sym is) p
made_of (Err e) bytes P is p = tt
