-- What a reader keeps in its fields, and what a piece that was read changes of it.
use Rattle.std.specs.Prelude.{◌≡◌, ℕ, ◌+◌, ◌^◌, ◌<◌, ◌≤◌, length, Bool, true, false, if◌then◌else◌}
use Rattle.std.specs.Prelude.{List, [], ◌++◌, fold, Option, None, Some}
use Rattle.rpsl_reader.specs.declared.item.Item.{Item}
use Rattle.rpsl_reader.specs.Attributes.{Numbered}
use Rattle.rpsl_reader.specs.Objects.{longest, size}
use Rattle.rpsl_reader.specs.Reading.{Fed, Group, grown, most, over, within}

-- an open group: its lines, or the number of its first line where they are too long together
abbrev pub group_of : Option ℕ → List Numbered → Group
group_of None ls = within ls
group_of (Some n) ls = over n

-- the lines that are kept of a group
abbrev pub lines_in : Group → List Numbered
lines_in (within ls) = ls
lines_in (over n) = []

-- lines that are counted, and kept as far as their group is not too long
pub record IsOpen (first : Option ℕ) (bytes : ℕ) (ls : List Numbered) : Type 0 where
  pub counted : bytes ≡ size ls
  pub short : bytes ≤ longest
  pub kept : ls ≡ lines_in (group_of first ls)

-- no more lines than bytes, of which there are fewer than 2 ^ 63
pub record IsCounted (fed lines : ℕ) : Type 0 where
  pub fewer : lines ≤ fed
  pub fits : fed < 2 ^ 63

-- what a reader keeps of its fields
pub record IsReader (fed lines : ℕ) (pending : List ℕ) (first : Option ℕ) (bytes : ℕ)
    (ls : List Numbered) : Type 0 where
  pub counts : IsCounted fed lines
  pub bounded : length pending ≤ most + 1
  pub group : IsOpen first bytes ls

-- what a piece changes: the counts; whether a line ended in it, so that its tail begins a line; the
-- open group, which keeps the lines from before or has only those of the piece;
-- and the items that it gives
pub record Change : Type 0 where
  pub fed : ℕ
  pub lines : ℕ
  pub ended : Bool
  pub tail : List ℕ
  pub keeps : Bool
  pub first : Option ℕ
  pub bytes : ℕ
  pub more : List Numbered
  pub found : List Item

-- the lines of the open group after a change
abbrev pub lines_after : Group → Change → List Numbered
lines_after g c = (if c.keeps then lines_in g else []) ++ c.more

-- a change that a reader can take; where no line ended, the lines of the open group are as before
pub record IsChange (r : Fed) (c : Change) : Type 0 where
  pub counts : IsCounted c.fed c.lines
  pub group : IsOpen c.first c.bytes (lines_after r.state.group c)
  pub keeps : c.ended ≡ false → c.keeps ≡ true
  pub no_more : c.ended ≡ false → c.more ≡ []

-- the reader after a change
unfoldable pub accepted : Fed → Change → Fed
accepted r c = record {
  fed = c.fed;
  state = record {
    lines = c.lines;
    pending = fold grown (if c.ended then [] else r.state.pending) c.tail;
    group = group_of c.first (lines_after r.state.group c);
  };
}

-- the open group inside a piece: the lines that the reader holds, whether they are still in it,
-- and those of the piece
pub record Gathering : Type 0 where
  pub held : List Numbered
  pub keeps : Bool
  pub first : Option ℕ
  pub bytes : ℕ
  pub lines : List Numbered

abbrev pub open_lines : Gathering → List Numbered
open_lines g = (if g.keeps then g.held else []) ++ g.lines

abbrev pub open_group : Gathering → Group
open_group g = group_of g.first (open_lines g)
