-- Lemmas on UTF-8 texts.
use Rattle.std.proofs.Common.{◌≡◌, ℕ, ◌<◌, ◌&&◌, Bool, true, false, List, length, refl, sym, arith}
use Rattle.std.proofs.Common.{IsTrue}
use Rattle.std.specs.List.{list_all}
use Rattle.std.specs.Str.{IsAscii, IsUtf8, is_utf8}
use Rattle.std.proofs.lemmas.Bool.Decides.{nat_tests}
use Rattle.std.proofs.lemmas.List.Sums.{AllPass-from_list_all}
use Rattle.std.proofs.lemmas.Str.{IsUtf8-from_is_utf8, IsUtf8-from_ascii, is_utf8-from_IsUtf8}
use Rattle.std.proofs.lemmas.Str.Ascii.{IsAscii-from_reads}
use Rattle.job_lines.specs.Names.{is_name, is_slot, is_slot_byte, is_type_name, is_visible}

false_from_not : (b : Bool) → (b ≡ true → ⊥) → b ≡ false
false_from_not true not_true = absurd (not_true refl)
false_from_not false not_true = refl

-- the test is true of a text
pub is_text : (bytes : List ℕ) → IsUtf8 bytes → true ≡ is_utf8 bytes
is_text bytes text = sym (is_utf8-from_IsUtf8 bytes text)

-- and false of any other bytes
pub is_no_text : (bytes : List ℕ) → (IsUtf8 bytes → ⊥) → false ≡ is_utf8 bytes
is_no_text bytes no_text = sym (false_from_not _ (λ is. no_text (IsUtf8-from_is_utf8 bytes is)))

pub from_test : (bytes : List ℕ) → IsTrue (is_utf8 bytes) → IsUtf8 bytes
from_test bytes is = IsUtf8-from_is_utf8 bytes is

pub ruleset text_tests = (is_text, is_no_text, from_test)

both : (a b : Bool) → (a && b) ≡ true → (a ≡ true) × (b ≡ true)
both true true is = (refl, refl)
both true false is = absurd cc
both false b is = absurd cc

slot_byte_low : (b : ℕ) → is_slot_byte b ≡ true → b < 128
slot_byte_low b is = grind (arith, nat_tests)

visible_low : (b : ℕ) → is_visible b ≡ true → b < 128
visible_low b is = grind (arith, nat_tests)

-- bytes that are all of a kind below 128 are ASCII
all_low : (test : ℕ → Bool) (low : (b : ℕ) → test b ≡ true → b < 128) (word : List ℕ)
    → list_all test word ≡ true → IsAscii word
all_low test low word all =
    IsAscii-from_reads word (length word) (omega arith)
    (λ k below. low _ (AllPass-from_list_all test word all k 0 below))

-- the name of a file is a text
pub name_is_text : (word : List ℕ) → is_name word ≡ true → IsTrue (is_utf8 word)
unfolding is_name
name_is_text word is = (both _ _ (both _ _ (both _ _ is).0).0).1

-- and so is a slot, and a database type
pub slot_is_text : (word : List ℕ) → is_slot word ≡ true → IsTrue (is_utf8 word)
unfolding is_slot
slot_is_text word is =
    is_utf8-from_IsUtf8 word
    (IsUtf8-from_ascii word (all_low is_slot_byte slot_byte_low word (both _ _ is).1))

pub type_is_text : (word : List ℕ) → is_type_name word ≡ true → IsTrue (is_utf8 word)
unfolding is_type_name
type_is_text word is =
    is_utf8-from_IsUtf8 word
    (IsUtf8-from_ascii word (all_low is_visible visible_low word (both _ _ is).1))

pub ruleset words_are_texts = (name_is_text, slot_is_text, type_is_text)
