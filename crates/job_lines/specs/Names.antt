-- The names that stand in a job: of files, of slots and of a database type.
-- A byte is its number: 10 is the line feed, 13 the carriage return, 45 to 47
-- are `-`, `.` and `/`, 95 is `_`.
use Rattle.std.specs.Prelude.{ℕ, ◌&&◌, ◌||◌, ◌==◌, Bool, not, nat_le, List, length, codes}
use Rattle.std.specs.Char.{is_ascii_alphanumeric}
use Rattle.std.specs.List.{list_all}
use Rattle.std.specs.Str.{is_utf8}
use Rattle.geo_addr.specs.Lines.{is_blank, pieces}
use Rattle.geo_terms.specs.PlaceForm.{is_empty, same_text}
use Rattle.job_lines.specs.declared.names.TheConstants.{LONGEST_NAME, LONGEST_WORD}

-- a byte of a file's name: no blank and no end of a line
abbrev pub is_name_byte : ℕ → Bool
is_name_byte b = not (is_blank b || b == 10 || b == 13)

-- a part of a file's name: not empty, and neither of the two that name a folder
abbrev pub is_part : List ℕ → Bool
is_part part = not (is_empty part || same_text part (codes ".") || same_text part (codes ".."))

-- the name of a file: a text of some such bytes, not too many, of parts between single slashes
unfoldable pub is_name : List ℕ → Bool
is_name name =
    nat_le 1 (length name) && nat_le (length name) LONGEST_NAME && is_utf8 name
    && list_all is_name_byte name && list_all is_part (pieces 47 name)

-- a byte of a slot: an ASCII letter, a digit, a dash, a dot or a low line
abbrev pub is_slot_byte : ℕ → Bool
is_slot_byte b = is_ascii_alphanumeric b || b == 45 || b == 46 || b == 95

-- a slot: some such bytes, not too many
unfoldable pub is_slot : List ℕ → Bool
is_slot slot =
    nat_le 1 (length slot) && nat_le (length slot) LONGEST_WORD && list_all is_slot_byte slot

-- a byte from `!` to `~`
abbrev pub is_visible : ℕ → Bool
is_visible b = nat_le 33 b && nat_le b 126

-- a database type: some such bytes, not too many
unfoldable pub is_type_name : List ℕ → Bool
is_type_name name =
    nat_le 1 (length name) && nat_le (length name) LONGEST_WORD && list_all is_visible name
