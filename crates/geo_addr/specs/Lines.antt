-- The shapes that all text files share: pieces between a separator, lines and blanks.
-- A byte is its number: 9 is the tab, 10 the line feed, 13 the carriage return, 32 the space.
use Rattle.std.specs.Prelude.{ℕ, ◌-◌, ◌||◌, ◌==◌, Bool, nat_eq, if◌then◌else◌, List, [], ◌∷◌}
use Rattle.std.specs.Prelude.{Option, None, Some, length, take, drop}
use Rattle.std.specs.Str.Lines.{strip_carriage_return}
use Rattle.std.specs.List.{enumerate_from, prefix_len, slice_split, starts_with, suffix_len}

-- the pieces of a text between the separators, of which there is always one more than of these
abbrev pub pieces : ℕ → List ℕ → List (List ℕ)
pieces separator text = slice_split (λ b. b == separator) text

-- the pieces of what follows a separator, if one was found
abbrev pub pieces_after : ℕ → Option (List ℕ) → List (List ℕ)
pieces_after separator None = []
pieces_after separator (Some text) = pieces separator text

-- what stands after the last line feed is a line where it is not empty
abbrev pub last_line : List ℕ → List (List ℕ)
last_line [] = []
last_line (b ∷ bs) = strip_carriage_return (b ∷ bs) ∷ []

-- each piece is a line, less the one carriage return at its end
abbrev pub lines_of_pieces : List (List ℕ) → List (List ℕ)
lines_of_pieces [] = []
lines_of_pieces (piece ∷ []) = last_line piece
lines_of_pieces (piece ∷ next ∷ more) = strip_carriage_return piece ∷ lines_of_pieces (next ∷ more)

-- the lines of a text
abbrev pub lines_of : List ℕ → List (List ℕ)
lines_of text = lines_of_pieces (pieces 10 text)

-- the byte order mark of UTF-8
abbrev pub byte_order_mark : List ℕ
byte_order_mark = 239 ∷ 187 ∷ 191 ∷ []

-- a file without the byte order mark at its start
abbrev pub without_mark : List ℕ → List ℕ
without_mark file = if starts_with nat_eq file byte_order_mark then drop 3 file else file

-- the lines of a file, each beside its number, from 1
abbrev pub numbered_lines : List ℕ → List (ℕ × List ℕ)
numbered_lines file = enumerate_from 1 (lines_of (without_mark file))

-- blanks are spaces and tabs
abbrev pub is_blank : ℕ → Bool
is_blank b = b == 32 || b == 9

-- a text without the blanks at its start
abbrev pub trimmed_start : List ℕ → List ℕ
trimmed_start text = drop (prefix_len is_blank text) text

-- a text without the blanks at its end
abbrev pub trimmed_end : List ℕ → List ℕ
trimmed_end text = take (length text - suffix_len is_blank text) text

-- a text without the blanks at both ends
abbrev pub trimmed : List ℕ → List ℕ
trimmed text = trimmed_end (trimmed_start text)
