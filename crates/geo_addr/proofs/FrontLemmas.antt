-- What stands in front of a text: digits, octets and an IPv4 address.
use Rattle.std.proofs.Common.{◌≡◌, ◌≢◌, ℕ, ◌+◌, ◌*◌, ◌<◌, ◌≤◌, Bool, true, false, not}
use Rattle.std.proofs.Common.{List, [], ◌∷◌, ◌++◌, All, Ok, refl, sym, ap, ◌∙◌, arith, eqb}
use Rattle.std.proofs.Common.{append_assoc, append-nil, length, None, Some, ◌-◌, ◌^◌, ◌%◌}
use Rattle.std.proofs.Common.{◌==◌}
use Rattle.std.specs.Char.{digit_value, is_ascii_digit}
use Rattle.std.proofs.lemmas.Bool.{and_from, and_parts, eq-eqb, eqb-true, false≢true, le-leb}
use Rattle.std.proofs.lemmas.Bool.Decides.{nat_tests}
use Rattle.std.proofs.lemmas.List.Elements.{All-append, All-cons}
use Rattle.std.proofs.lemmas.List.Splits.{slice_split_at}
use Rattle.std.proofs.lemmas.Option.{none-some}
use Rattle.geo_addr.specs.Fronts.{BeginsWithAddress, BeginsWithDigit, BeginsWithDotted}
use Rattle.geo_addr.specs.Fronts.{BeginsWithOctet, v4_length}
use Rattle.geo_addr.specs.Ipv4Texts.{ipv4_in, ipv4_of, is_octet, is_part, octets_number}
use Rattle.geo_addr.specs.Lines.{pieces}
use Rattle.geo_addr.specs.Prefixes.{aligned_block, block_in, block_of, length_in}
use Rattle.geo_addr.proofs.FamilyLemmas.{four_reads_four}
use Rattle.geo_addr.proofs.PartLemmas.{not_separator}
use Rattle.geo_addr.proofs.PrefixLemmas.{cut_first-at, cut_first-free}
use Rattle.geo_addr.proofs.V4Lemmas.{AreParts, four_octets}

-- one digit is an octet
pub one_digit : (text : List ℕ) (one : ℕ) (behind : List ℕ) → BeginsWithDigit text one behind
    → BeginsWithOctet text one behind
unfolding is_octet
one_digit text one behind h = record {
  part = h.byte ∷ [];
  joined = h.joined;
  in_form = rw h.is_digit refl;
  octet = le-leb _ _ (omega (arith, h.value_is, h.small));
  value_is = omega (arith, h.value_is);
  small = omega (arith, h.small);
}

-- a digit that is not zero is not written as one
no_zero : (byte one : ℕ) → one ≡ digit_value byte → one ≢ 0 → not (eqb byte 48) ≡ true
no_zero byte one is some = grind (arith, nat_tests)

-- two digits are, where the first is not zero
pub two_digits : (text : List ℕ) (one second : ℕ) (next behind : List ℕ)
    → BeginsWithDigit text one next → BeginsWithDigit next second behind → one ≢ 0
    → BeginsWithOctet text (one * 10 + second) behind
unfolding is_octet
two_digits text one second next behind h k some = record {
  part = h.byte ∷ k.byte ∷ [];
  joined = h.joined ∙ ap (λ more. h.byte ∷ more) k.joined;
  in_form = rw (h.is_digit, k.is_digit) refl;
  octet = and_from _ _ (no_zero h.byte one h.value_is some)
      (le-leb _ _ (omega (arith, h.value_is, h.small, k.value_is, k.small)));
  value_is = omega (arith, h.value_is, k.value_is);
  small = omega (arith, h.small, k.small);
}

-- three digits are, where the first is not zero and they write at most 255
pub three_digits : (text : List ℕ) (one second third : ℕ) (next last behind : List ℕ)
    → BeginsWithDigit text one next → BeginsWithDigit next second last
    → BeginsWithDigit last third behind → one ≢ 0 → (one * 10 + second) * 10 + third ≤ 255
    → BeginsWithOctet text ((one * 10 + second) * 10 + third) behind
unfolding is_octet
three_digits text one second third next last behind h k l some few = record {
  part = h.byte ∷ k.byte ∷ l.byte ∷ [];
  joined =
      h.joined ∙ ap (λ more. h.byte ∷ more) k.joined
      ∙ ap (λ more. h.byte ∷ k.byte ∷ more) l.joined;
  in_form = rw (h.is_digit, k.is_digit, l.is_digit) refl;
  octet =
      and_from _ _ (no_zero h.byte one h.value_is some)
      (le-leb _ _ (omega (arith, h.value_is, k.value_is, l.value_is)));
  value_is = omega (arith, h.value_is, k.value_is, l.value_is);
  small = few;
}

-- what the first of some parts with dots between them is
first_piece : (part more : List ℕ) → is_part part ≡ true
    → pieces 46 (part ++ 46 ∷ more) ≡ part ∷ pieces 46 more
first_piece part more is =
    slice_split_at (λ b. eqb b 46) part 46 more
    (not_separator is_ascii_digit 46 part refl (and_parts _ _ is).1) refl

-- no part has a slash in it
part_free : (part : List ℕ) → is_part part ≡ true → All (λ b. b ≢ 47) part
part_free part is = λ k d below e.
    let other = not_separator is_ascii_digit 47 part refl (and_parts _ _ is).1 k d below in
    false≢true (sym other ∙ eq-eqb _ _ e)

dotted_free : (part more : List ℕ) → is_part part ≡ true → All (λ b. b ≢ 47) more
    → All (λ b. b ≢ 47) (part ++ 46 ∷ more)
dotted_free part more is free =
    All-append (λ b. b ≢ 47) part (46 ∷ more) (part_free part is)
    (All-cons (λ b. b ≢ 47) 46 more (λ e. omega (arith, e)) free)

-- four octets with dots between them are an address
pub four_in_front : (text second third fourth behind : List ℕ) (a b c d : ℕ)
    → BeginsWithDotted text a second → BeginsWithDotted second b third
    → BeginsWithDotted third c fourth → BeginsWithOctet fourth d behind
    → BeginsWithAddress text (((a * 256 + b) * 256 + c) * 256 + d) behind
four_in_front text second third fourth behind a b c d h k l m =
    let parts : AreParts h.part k.part l.part m.part = record {
      first = h.in_form;
      second = k.in_form;
      third = l.in_form;
      fourth = m.in_form;
    } in
    let octets = and_from _ _ (and_from _ _ (and_from _ _ h.octet k.octet) l.octet) m.octet in
    let number : ((a * 256 + b) * 256 + c) * 256 + d
    ≡ octets_number (h.part ∷ k.part ∷ l.part ∷ m.part ∷ []) =
    omega (arith, h.value_is, k.value_is, l.value_is, m.value_is) in
    let last = l.part ++ 46 ∷ m.part in
    let later = k.part ++ 46 ∷ last in
    let cut : pieces 46 (h.part ++ 46 ∷ later) ≡ h.part ∷ k.part ∷ l.part ∷ pieces 46 m.part =
    first_piece h.part later h.in_form
    ∙ ap (λ ps. h.part ∷ ps) (first_piece k.part last k.in_form)
    ∙ ap (λ ps. h.part ∷ k.part ∷ ps) (first_piece l.part m.part l.in_form) in
    record {
      address = h.part ++ 46 ∷ later;
      joined =
          h.joined ∙ ap (λ t. h.part ++ 46 ∷ t) (k.joined ∙ ap (λ t. k.part ++ 46 ∷ t)
          (l.joined ∙ ap (λ t. l.part ++ 46 ∷ t) m.joined))
          ∙ regrouped h.part k.part l.part m.part behind;
      reads = four_octets _ _ _ _ _ parts octets number ∙ sym (ap ipv4_of cut);
      free =
          dotted_free h.part later h.in_form (dotted_free k.part last k.in_form
          (dotted_free l.part m.part l.in_form (part_free m.part m.in_form)));
    }
  where
    regrouped : (a b c d rest : List ℕ) →
        a ++ 46 ∷ (b ++ 46 ∷ (c ++ 46 ∷ (d ++ rest)))
        ≡ (a ++ 46 ∷ (b ++ 46 ∷ (c ++ 46 ∷ d))) ++ rest
    regrouped a b c d rest = simp append_assoc

-- an address with nothing behind it is the whole text
pub alone_in_text : (text : List ℕ) (number : ℕ) (behind : List ℕ)
    → BeginsWithAddress text number behind → length behind < 1 → Ok number ≡ ipv4_in text
alone_in_text text number [] h none =
    h.reads ∙ ap ipv4_in (sym (h.joined ∙ append-nil h.address))
alone_in_text text number (b ∷ bs) h none = absurd (omega arith)

-- a length in bits of an IPv4 address leaves as many bits behind it as one in bits of an IPv6 one
bits_left : (bits : ℕ) → 128 - (96 + bits) ≡ 32 - bits
bits_left bits = omega arith

v4_aligned : (number bits : ℕ) → true ≡ (number % 2 ^ (32 - bits) == 0)
    → Ok (record { first = number; len = 96 + bits }) ≡ block_of false (Ok number) (Some bits)
unfolding aligned_block
v4_aligned number bits is = rw (bits_left bits, ← is) refl

-- the block of an IPv4 address alone
block_alone : (text : List ℕ) (number : ℕ) → BeginsWithAddress text number []
    → block_of false (Ok number) (Some 32) ≡ block_in text
block_alone text number h =
    rw (
      h.joined,
      append-nil h.address,
      cut_first-free 47 h.address h.free,
      four_reads_four h.address number h.reads,
      ← h.reads,
    ) refl

-- the block of an IPv4 address with a slash behind it
block_at_slash : (text : List ℕ) (number : ℕ) (behind : List ℕ)
    → BeginsWithAddress text number (47 ∷ behind)
    → block_of false (Ok number) (length_in false behind) ≡ block_in text
block_at_slash text number behind h =
    rw (
      h.joined,
      cut_first-at 47 h.address behind h.free,
      four_reads_four h.address number h.reads,
      ← h.reads,
    ) refl

-- the block of an IPv4 address, and of what is said behind it
v4_block : (text : List ℕ) (number : ℕ) (behind : List ℕ) (bits : ℕ)
    → BeginsWithAddress text number behind → Some bits ≡ v4_length behind
    → block_of false (Ok number) (Some bits) ≡ block_in text
v4_block text number [] bits h is =
    ap (block_of false (Ok number)) is ∙ block_alone text number h
v4_block text number (b ∷ bs) bits h is = v4_slash (b == 47) refl
  where
    v4_slash : (slash : Bool) → (b == 47) ≡ slash
        → block_of false (Ok number) (Some bits) ≡ block_in text
    v4_slash true slash =
        let said : Some bits ≡ length_in false bs = rw slash at is in
        let there : BeginsWithAddress text number (47 ∷ bs) = rw (eqb-true b 47 slash) at h in
        ap (block_of false (Ok number)) said ∙ block_at_slash text number bs there
    v4_slash false slash =
        let none : Some bits ≡ None = rw slash at is in
        absurd (none-some bits (sym none))

pub v4_block_reads : (text : List ℕ) (number : ℕ) (behind : List ℕ) (bits : ℕ)
    → BeginsWithAddress text number behind → Some bits ≡ v4_length behind
    → true ≡ (number % 2 ^ (32 - bits) == 0)
    → Ok (record { first = number; len = 96 + bits }) ≡ block_in text
v4_block_reads text number behind bits h is aligned =
    v4_aligned number bits aligned ∙ v4_block text number behind bits h is
