-- What is read as IPv4 has no colon in it.
use Rattle.std.proofs.Common.{◌≡◌, ℕ, true, false, eqb, ◌&&◌, Ok, refl, sym, ap, ◌∙◌}
use Rattle.std.proofs.Common.{List, [], ◌∷◌, ◌++◌}
use Rattle.std.specs.Char.{is_ascii_digit}
use Rattle.std.specs.List.{join_with_byte}
use Rattle.std.proofs.lemmas.Bool.{and_parts, false≢true}
use Rattle.std.proofs.lemmas.List.Folds.{list_any-append, list_any_none}
use Rattle.std.proofs.lemmas.List.Splits.{join_with_byte-slice_split}
use Rattle.geo_addr.specs.AddressTexts.{is_six}
use Rattle.geo_addr.specs.Ipv4Texts.{are_four, ipv4_in, is_part}
use Rattle.geo_addr.specs.Lines.{pieces}
use Rattle.geo_addr.proofs.PartLemmas.{not_separator}
use Rattle.geo_addr.proofs.SideLemmas.{are_parts}

part_plain : (part : List ℕ) → is_part part ≡ true → is_six part ≡ false
part_plain part is =
    let digits = (and_parts _ _ is).1 in
    list_any_none (λ b. eqb b 58) part (not_separator is_ascii_digit 58 part refl digits)

behind_dot : (part rest : List ℕ) → is_part part ≡ true → is_six rest ≡ false →
    is_six (part ++ 46 ∷ rest) ≡ false
behind_dot part rest is plain =
    list_any-append (λ b. eqb b 58) part (46 ∷ rest) ∙ rw (part_plain part is, plain) refl

four_plain : (parts : List (List ℕ)) → are_four is_part parts ≡ true →
    is_six (join_with_byte 46 parts) ≡ false
four_plain (a ∷ b ∷ c ∷ d ∷ []) are =
    let abc = and_parts (is_part a && is_part b && is_part c) (is_part d) are in
    let ab = and_parts (is_part a && is_part b) (is_part c) abc.0 in
    let both = and_parts (is_part a) (is_part b) ab.0 in
    behind_dot a _ both.0 (behind_dot b _ both.1 (behind_dot c _ ab.1 (part_plain d abc.1)))
four_plain [] are = absurd (false≢true are)
four_plain (a ∷ []) are = absurd (false≢true are)
four_plain (a ∷ b ∷ []) are = absurd (false≢true are)
four_plain (a ∷ b ∷ c ∷ []) are = absurd (false≢true are)
four_plain (a ∷ b ∷ c ∷ d ∷ e ∷ parts) are = absurd (false≢true are)

-- a text that spells an IPv4 address is read as one
pub four_reads_four : (text : List ℕ) (number : ℕ) → Ok number ≡ ipv4_in text → is_six text ≡ false
four_reads_four text number reads =
    sym (ap is_six (join_with_byte-slice_split 46 text))
    ∙ four_plain (pieces 46 text) (are_parts (pieces 46 text) number reads)
