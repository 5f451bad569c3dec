-- A text read byte by byte: what is kept between two bytes, and what each byte gives.
use Rattle.std.specs.Prelude.{ℕ, ◌+◌, ◌==◌, nat_le, nat_lt, if◌then◌else◌, List, [], ◌∷◌, ◌++◌}
use Rattle.std.specs.Prelude.{length, take, drop, fold}
use Rattle.std.specs.List.{list_all}
use Rattle.std.specs.Str.Lines.{strip_carriage_return}
use Rattle.geo_addr.specs.Lines.{is_blank, without_mark}
use Rattle.geo_terms.specs.declared.note.Rule.TheVariants.{P01}
use Rattle.rpsl_reader.specs.declared.item.Item.{Item}
use Rattle.rpsl_reader.specs.declared.item.Item.TheVariants.{Passed}
use Rattle.rpsl_reader.specs.declared.limits.TheConstants.{MOST}
use Rattle.rpsl_reader.specs.Attributes.{Numbered, is_comment, is_end}
use Rattle.rpsl_reader.specs.Objects.{items, longest, size}

-- the lines since the last end; where they are too long together, the number of the first alone
pub data Group : Type 0 where
  within : List Numbered → Group
  over : ℕ → Group

-- what is kept: how many lines have ended, the line that has not, and the open group
pub record State : Type 0 where
  pub lines : ℕ
  pub pending : List ℕ
  pub group : Group

abbrev pub state_of : ℕ → List ℕ → Group → State
state_of n p g = record { lines = n; pending = p; group = g }

abbrev pub none : Group
none = within []

-- before the first byte
abbrev pub start : State
start = record { lines = 0; pending = []; group = none }

-- how many bytes of a line are kept as they are: the longest group,
-- a byte order mark and a carriage return
abbrev pub most : ℕ
most = MOST

-- the byte that stands for others, after one more: the newest while the ones
-- before it are blanks, else an `x`
abbrev pub newer : ℕ → ℕ → ℕ
newer byte next = if is_blank byte then next else 120

-- one more byte of a line; past `most` one byte stands for all the others
unfoldable pub grown : List ℕ → ℕ → List ℕ
grown line byte =
    if nat_le (length line) most then line ++ (byte ∷ [])
    else take most line ++ ((if list_all is_blank (drop most line) then byte else 120) ∷ [])

-- the line that stands between two line feeds, as the so-manyth of its text
unfoldable pub line_of : ℕ → List ℕ → Numbered
line_of n piece = (n, strip_carriage_return (if n == 1 then without_mark piece else piece))

-- the number of the first of some lines and one more, whose number is given
abbrev pub first_number : List Numbered → ℕ → ℕ
first_number [] n = n
first_number (m ∷ ms) n = m.0

-- a group with one more line
unfoldable pub with_line : Group → Numbered → Group
with_line (within ls) l =
    if nat_lt longest (size ls + length l.1) then over (first_number ls l.0)
    else within (ls ++ (l ∷ []))
with_line (over n) l = over n

-- the group after a line
unfoldable pub group_after : Group → Numbered → Group
group_after g l = if is_comment l.1 then g else (if is_end l.1 then none else with_line g l)

-- what a group says
abbrev pub said_by : Group → List Item
said_by (within ls) = items ls
said_by (over n) = Passed n P01 ∷ []

-- what a line ends
unfoldable pub ended_by : Group → Numbered → List Item
ended_by g l = if is_comment l.1 then [] else (if is_end l.1 then said_by g else [])

-- the state after one more byte
abbrev pub after_byte : State → ℕ → State
after_byte s b =
    if b == 10 then record {
      lines = s.lines + 1;
      pending = [];
      group = group_after s.group (line_of (s.lines + 1) s.pending);
    }
    else record { lines = s.lines; pending = grown s.pending b; group = s.group }

-- the items that one more byte gives
abbrev pub gives : State → ℕ → List Item
gives s b = if b == 10 then ended_by s.group (line_of (s.lines + 1) s.pending) else []

-- the state after a piece
unfoldable pub after : State → List ℕ → State
after s piece = fold after_byte s piece

-- the items of the groups that end in a piece
unfoldable pub given : State → List ℕ → List Item
given s [] = []
given s (b ∷ bs) = gives s b ++ given (after_byte s b) bs

-- the items of the group that the end of the text ends: it ends the last line, and then the group
unfoldable pub last : State → List Item
last s = given s (10 ∷ 10 ∷ [])

-- what a reader stands for: how many bytes it was fed, and what it keeps of them
pub record Fed : Type 0 where
  pub fed : ℕ
  pub state : State
