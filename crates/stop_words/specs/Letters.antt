-- Characters that a terminal acts on in place of showing them.
use Rattle.std.specs.Prelude.{ℕ, ◌&&◌, ◌||◌, ◌==◌, Bool, nat_le}

abbrev pub is_between : (first last letter : ℕ) → Bool
is_between first last letter = nat_le first letter && nat_le letter last

-- controls (C0, DEL and C1), marks and embeddings of direction (Unicode, bidirectional algorithm),
-- and what ends a line or a paragraph
abbrev pub acts : ℕ → Bool
acts letter =
    is_between 0 31 letter || (is_between 127 159 letter || (letter == 1564
    || (is_between 8206 8207 letter || (is_between 8232 8238 letter
    || is_between 8294 8297 letter))))
