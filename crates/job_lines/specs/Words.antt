-- The words of a line of a job.
use Rattle.std.specs.Prelude.{ℕ, ◌==◌, Bool, true, false, not, List, [], ◌∷◌, filter, Option, None}
use Rattle.std.specs.Prelude.{Some}
use Rattle.std.specs.List.{slice_split}
use Rattle.geo_addr.specs.Lines.{is_blank}
use Rattle.geo_terms.specs.PlaceForm.{is_empty}

abbrev pub is_some_text : List ℕ → Bool
is_some_text text = not (is_empty text)

-- the words of a line stand between blanks
abbrev pub words : List ℕ → List (List ℕ)
words line = filter is_some_text (slice_split is_blank line)

-- the pieces between blanks of what follows a blank, if one was found
abbrev pub pieces_after_blank : Option (List ℕ) → List (List ℕ)
pieces_after_blank None = []
pieces_after_blank (Some text) = slice_split is_blank text

-- whether a word begins with `#`
abbrev pub is_comment : List ℕ → Bool
is_comment [] = false
is_comment (b ∷ bs) = b == 35

-- a line without words is passed over, and so is one whose first word begins with `#`
abbrev pub is_passed_over : List (List ℕ) → Bool
is_passed_over [] = true
is_passed_over (word ∷ more) = is_comment word

-- no word, one word alone, and two words alone
abbrev pub has_none : List (List ℕ) → Bool
has_none [] = true
has_none (a ∷ more) = false

abbrev pub only : List (List ℕ) → Option (List ℕ)
only [] = None
only (a ∷ []) = Some a
only (a ∷ b ∷ more) = None

abbrev pub both : List (List ℕ) → Option (List ℕ × List ℕ)
both [] = None
both (a ∷ []) = None
both (a ∷ b ∷ []) = Some (a, b)
both (a ∷ b ∷ c ∷ more) = None
