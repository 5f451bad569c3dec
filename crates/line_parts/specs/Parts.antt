-- The lines of a part of a file.
use Rattle.std.specs.Prelude.{◌≡◌, ℕ, ◌+◌, ◌≤◌, ◌<◌, ◌==◌, ◌⊎◌, List, [], ◌∷◌, ◌++◌, drop, map}
use Rattle.std.specs.Prelude.{length, nat_eq, take, true, if◌then◌else◌}
use Rattle.std.specs.List.{count_by, starts_with}
use Rattle.geo_addr.specs.Lines.{byte_order_mark, numbered_lines}
use Rattle.line_parts.specs.declared.part.LinePart.{LinePart}

-- lines that stand behind so many others
abbrev pub behind : ℕ → List (ℕ × List ℕ) → List (ℕ × List ℕ)
behind before lines = map (λ l. (before + l.0, l.1)) lines

-- the lines of a part, each beside its number in the file
unfoldable pub lines_in : LinePart → List (ℕ × List ℕ)
lines_in p = behind p.before (numbered_lines p.text.now)

-- how many line feeds a text has
abbrev pub feeds : List ℕ → ℕ
feeds text = count_by (λ b. b == 10) text

-- a byte order mark stands behind a line feed
pub record HasInnerMark (text : List ℕ) : Type 0 where
  pub before : List ℕ
  pub after : List ℕ
  pub is : text ≡ before ++ 10 ∷ (byte_order_mark ++ after)

-- a text ends with the first line feed from this index on, if it has one there
abbrev pub EndsBehind : ℕ → List ℕ → Type 0
EndsBehind size text = (feeds (drop size text) ≤ 1) ⊎ HasInnerMark text

-- how many bytes a text has up to its first line feed, with it, or in all where it has none
unfoldable pub first_line : List ℕ → ℕ
first_line [] = 0
first_line (b ∷ bs) = if b == 10 then 1 else 1 + first_line bs

-- where the first part of a text ends: behind the first line feed from this index on. Where a byte
-- order mark stands behind it, or there is none, all of the text is one part
unfoldable pub part_end : ℕ → List ℕ → ℕ
part_end size text =
    if starts_with nat_eq (drop (size + first_line (drop size text)) text) byte_order_mark
    then length text else size + first_line (drop size text)

-- a text is cut into these parts, each of them where it ends, and this is left of it
abbrev pub AreCut : ℕ → List ℕ → List LinePart → List ℕ → Type 0
AreCut size text [] left = text ≡ left
AreCut size text (p ∷ ps) left =
    (0 < length text) × (p.text.now ≡ take (part_end size text) text)
    × AreCut size (drop (part_end size text) text) ps left

-- a text ends with a line feed
pub record EndsWithFeed (text : List ℕ) : Type 0 where
  pub line : List ℕ
  pub is : text ≡ line ++ 10 ∷ []

-- behind the last line feed of a text of which more may follow, a byte order mark may stand
pub record EndsNearMark (text : List ℕ) : Type 0 where
  pub before : List ℕ
  pub after : List ℕ
  pub is : text ≡ before ++ 10 ∷ after
  pub near : (length after < 3) ⊎ (starts_with nat_eq after byte_order_mark ≡ true)
