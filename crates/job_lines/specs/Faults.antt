-- What is true of a word of which a fault is said.
use Rattle.std.specs.Prelude.{◌≡◌, ◌<◌, ◌≤◌, ℕ, ◌==◌, ◌^◌, Bool, true, false, List, [], ◌∷◌, codes}
use Rattle.std.specs.Prelude.{length, None, Err, IsSomeAnd, IfOk}
use Rattle.job_lines.specs.declared.line_fault.LineFault.{LineFault}
use Rattle.job_lines.specs.declared.line_fault.LineFault.TheVariants as lines
use Rattle.std.specs.List.{list_all, list_any}
use Rattle.std.specs.Str.{is_utf8}
use Rattle.geo_addr.specs.AddressTexts.{address_in}
use Rattle.geo_addr.specs.Decimals.{decimal}
use Rattle.geo_addr.specs.Lines.{pieces}
use Rattle.geo_addr.specs.Prefixes.{block_in}
use Rattle.geo_terms.specs.PlaceForm.{is_empty, same_text}
use Rattle.feed_refs.specs.Urls.{url_read}
use Rattle.feed_refs.specs.declared.feed_url.UrlRead.TheVariants.{Refused, OtherScheme}
use Rattle.job_lines.specs.Forms.{pieces_form}
use Rattle.job_lines.specs.Names.{is_name_byte, is_slot_byte, is_visible}
use Rattle.job_lines.specs.Commands.{is_plain, lines_in}
use Rattle.job_lines.specs.declared.names.TheConstants.{LONGEST_NAME, LONGEST_WORD}
use Rattle.job_lines.specs.declared.word_fault.WordFault.{WordFault}
use Rattle.job_lines.specs.declared.word_fault.WordFault.TheVariants as faults

-- whether a word begins with a slash
abbrev pub is_absolute : List ℕ → Bool
is_absolute [] = false
is_absolute (b ∷ bs) = b == 47

-- whether a part of a name is this text
abbrev pub has_part : (part word : List ℕ) → Bool
has_part part word = list_any (λ p. same_text p part) (pieces 47 word)

-- what is true of a word where this is said of it
abbrev pub IsSo : WordFault → List ℕ → Type 0
IsSo faults.Empty word = is_empty word ≡ true
IsSo faults.LongName word = LONGEST_NAME < length word
IsSo faults.LongWord word = LONGEST_WORD < length word
IsSo faults.Utf8 word = is_utf8 word ≡ false
IsSo faults.Blank word = list_all is_name_byte word ≡ false
IsSo faults.Absolute word = is_absolute word ≡ true
IsSo faults.EmptyPart word = has_part [] word ≡ true
IsSo faults.DotPart word = has_part (codes ".") word ≡ true
IsSo faults.UpPart word = has_part (codes "..") word ≡ true
IsSo faults.SlotByte word = list_all is_slot_byte word ≡ false
IsSo faults.TypeByte word = list_all is_visible word ≡ false
IsSo faults.EpochDigits word = decimal 1 20 word ≡ None
IsSo faults.EpochLarge word = IsSomeAnd (decimal 1 20 word) (λ n. 2 ^ 64 ≤ n)
IsSo faults.Pieces word = pieces_form word ≡ None
IsSo faults.Count word = lines_in word ≡ None
IsSo faults.Url word = url_read word ≡ Refused
IsSo faults.Scheme word = url_read word ≡ OtherScheme
IsSo (faults.Address fault) word = address_in word ≡ Err fault
IsSo (faults.Block fault) word = block_in word ≡ Err fault
IsSo faults.LowBlock word = IfOk (block_in word) (λ block. is_plain block ≡ false)

-- what is said of a word is so
abbrev pub IsSaid : LineFault → List ℕ → Type 0
IsSaid lines.Utf8 word = Unit {0}
IsSaid lines.Nothing word = Unit {0}
IsSaid lines.Unknown word = Unit {0}
IsSaid lines.Kind word = Unit {0}
IsSaid (lines.Few at) word = Unit {0}
IsSaid (lines.Many at) word = Unit {0}
IsSaid (lines.Word at shape fault) word = IsSo fault word
IsSaid lines.NoEpoch word = Unit {0}
IsSaid lines.SecondEpoch word = Unit {0}
IsSaid lines.Behind word = Unit {0}
IsSaid lines.Twice word = Unit {0}
IsSaid lines.Memory word = Unit {0}
