-- The lines of an object, and the attributes that they make (RFC 2622, section 2).
-- A byte is its number: 35 is `#`, 37 is `%`, 43 is `+`, 45 is `-`, 58 is `:`, 95 is `_`.
use Rattle.std.specs.Prelude.{◌≡◌, ℕ, Bool, true, false, not, ◌&&◌, ◌||◌, ◌==◌, nat_le}
use Rattle.std.specs.Prelude.{if◌then◌else◌, List, [], ◌∷◌, ◌++◌, length, map, drop, Option, None}
use Rattle.std.specs.Prelude.{Some}
use Rattle.std.specs.Char.{is_ascii_alphabetic, is_ascii_alphanumeric, to_ascii_lowercase}
use Rattle.std.specs.List.{list_all}
use Rattle.geo_addr.specs.Lines.{is_blank, trimmed}
use Rattle.geo_addr.specs.Prefixes.{cut_first}
use Rattle.geo_terms.specs.PlaceForm.{is_empty}
use Rattle.rpsl_reader.specs.declared.item.Attribute.{Attribute}
use Rattle.rpsl_reader.specs.declared.limits.TheConstants.{LONGEST_NAME}

-- a line beside its number
abbrev pub Numbered : Type 0
Numbered = ℕ × List ℕ

-- a line that is passed over as if it were not there
abbrev pub is_comment : List ℕ → Bool
is_comment [] = false
is_comment (b ∷ bs) = b == 37 || b == 35

-- a line that ends an object: it is empty or has blanks alone
abbrev pub is_end : List ℕ → Bool
is_end line = list_all is_blank line

-- a line that goes on with the attribute before it
abbrev pub continues : List ℕ → Bool
continues [] = false
continues (b ∷ bs) = is_blank b || b == 43

abbrev pub is_name_byte : ℕ → Bool
is_name_byte b = is_ascii_alphanumeric b || b == 45 || b == 95

-- a name: an ASCII letter, then up to 63 letters, digits, `-` and `_`
abbrev pub is_name : List ℕ → Bool
is_name [] = false
is_name (b ∷ bs) =
    is_ascii_alphabetic b && nat_le (length bs) LONGEST_NAME && list_all is_name_byte bs

-- whether bytes that may all stand in a name are one
abbrev pub may_begin : List ℕ → Bool
may_begin [] = false
may_begin (b ∷ bs) = is_ascii_alphabetic b && nat_le (length bs) LONGEST_NAME

-- whether what stands before the first colon of a line is a name, if there is a colon
abbrev pub is_named : List ℕ × Option (List ℕ) → Bool
is_named (name, None) = false
is_named (name, Some rest) = is_name name

-- a line that begins an attribute: a name and a colon
unfoldable pub is_attribute : List ℕ → Bool
is_attribute line = is_named (cut_first 58 line)

-- a line that begins an attribute, and what stands on both sides of its first colon
pub record HasSides (line name value : List ℕ) : Type 0 where
  pub begins : is_attribute line ≡ true
  pub sides : cut_first 58 line ≡ (name, Some value)

-- a line that is neither
abbrev pub is_stray : List ℕ → Bool
is_stray line = not (is_attribute line) && not (continues line)

-- what a text says before its first `#`, without the blanks at both ends
unfoldable pub said_of : List ℕ → List ℕ
said_of text = trimmed (cut_first 35 text).0

-- a value and what is said behind it: one space between them, and none where either is empty
abbrev pub joined : (value said : List ℕ) → List ℕ
joined value said =
    if is_empty said then value else (if is_empty value then said else value ++ (32 ∷ said))

-- a value with the lines that continue it, up to the next attribute;
-- a continuation is read without its first byte
unfoldable pub continued : List ℕ → List Numbered → List ℕ
continued value [] = value
continued value (l ∷ ls) =
    if is_attribute l.1 then value
    else (if continues l.1 then continued (joined value (said_of (drop 1 l.1))) ls
    else continued value ls)

-- what stands behind the first colon of a line
abbrev pub behind : List ℕ × Option (List ℕ) → List ℕ
behind (name, None) = []
behind (name, Some rest) = rest

-- the name that a line begins with, in lower case
abbrev pub name_of : List ℕ → List ℕ
name_of line = map to_ascii_lowercase (cut_first 58 line).0

-- the value of the attribute that a line begins, before the lines that follow
abbrev pub value_of : List ℕ → List Numbered → List ℕ
value_of line ls = continued (said_of (behind (cut_first 58 line))) ls

-- the attribute that a line begins, before the lines that follow
abbrev pub attribute : Numbered → List Numbered → Attribute
attribute l ls = record { name = name_of l.1; value = value_of l.1 ls; line = l.0 }

-- the attribute that a line begins, if it begins one
abbrev pub attribute_in : Numbered → List Numbered → List Attribute
attribute_in l ls = if is_attribute l.1 then attribute l ls ∷ [] else []

-- the attributes of some lines, in order
unfoldable pub attributes : List Numbered → List Attribute
attributes [] = []
attributes (l ∷ ls) = if is_attribute l.1 then attribute l ls ∷ attributes ls else attributes ls
