-- Lines that have the same text behind their first field.
use Rattle.std.specs.Prelude.{◌≡◌, ℕ, Bool, true, false, ◌&&◌, nat_lt, List, [], ◌∷◌, ◌++◌, Ok}
use Rattle.std.specs.List.{list_all}
use Rattle.geo_addr.specs.Lines.{trimmed}
use Rattle.geo_terms.specs.PlaceForm.{PlaceParts, is_empty}
use Rattle.geo_terms.specs.declared.place.Said.TheVariants.{At}
use Rattle.csv_lines.specs.Fields.{is_bare}
use Rattle.csv_lines.specs.Rests.{column, content_of, handed, rest_of, row_of, said_in}
use Rattle.csv_lines.specs.declared.rest.Content.TheVariants.{Fields}

-- the first field of a line, and its tail: all that stands behind the comma
pub record Cut : Type 0 where
  pub first : List ℕ
  pub tail : List ℕ

-- whether a byte is of those that prefixes have, and others: ASCII above the comma
abbrev pub is_word : ℕ → Bool
is_word b = nat_lt 44 b && nat_lt b 128

-- a line without the blanks around it is a word, a comma and a tail
pub record IsCut (line first tail : List ℕ) : Type 0 where
  pub joined : trimmed line ≡ first ++ (44 ∷ tail)
  pub some : is_empty first ≡ false
  pub word : list_all is_word first ≡ true

-- a line with neither quotes nor a comment says this place
pub record SaysBare (line : List ℕ) (place : PlaceParts) : Type 0 where
  pub bare : list_all is_bare (trimmed line) ≡ true
  pub content : content_of (rest_of line) ≡ Fields
  pub said : said_in 1 (row_of (rest_of line)) ≡ Ok (At place)

-- a line says this place behind this first field, and hands nothing to `csv`
pub record SaysBehind (line first : List ℕ) (place : PlaceParts) : Type 0 where
  pub content : content_of (rest_of line) ≡ Fields
  pub word : column 0 (row_of (rest_of line)) ≡ first
  pub said : said_in 1 (row_of (rest_of line)) ≡ Ok (At place)
  pub handed : handed line ≡ []

-- each line that is a word, a comma and this tail says this place
abbrev pub IsTail : List ℕ → PlaceParts → Type 0
IsTail tail place =
    (line first : List ℕ) → IsCut line first tail → SaysBehind line first place
