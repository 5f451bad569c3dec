-- What the texts of a line never have.
use Rattle.std.specs.Prelude.{◌≡◌, ℕ, Bool, not, ◌&&◌, ◌==◌, List, IsTrue, IsUtf8, reverse, Ok}
use Rattle.std.specs.List.{list_all, prefix_len}
use Rattle.geo_addr.specs.Lines.{is_blank}
use Rattle.geo_terms.specs.PlaceForm.{PlaceParts}
use Rattle.geo_terms.specs.declared.place.Said.{Said}
use Rattle.geo_terms.specs.declared.place.Said.TheVariants.{Nothing, At}
use Rattle.csv_lines.specs.Fields.{is_inner}
use Rattle.csv_lines.specs.Rests.{column, content_of, rest_of, row_of, said_in}
use Rattle.csv_lines.specs.declared.rest.Content.TheVariants.{Fields}

-- neither `#` nor a line end
abbrev pub is_clean : ℕ → Bool
is_clean b = not (b == 35) && is_inner b

-- a text with neither `#` nor a line end, and no blank at its ends
pub record IsClean (text : List ℕ) : Type 0 where
  pub bytes : IsTrue (list_all is_clean text)
  pub start : prefix_len is_blank text ≡ 0
  pub end : prefix_len is_blank (reverse text) ≡ 0

-- each field of a line is clean, and UTF-8
pub record AreTexts (row : List (List ℕ)) : Type 0 where
  pub utf8 : (index : ℕ) → IsUtf8 (column index row)
  pub clean : (index : ℕ) → IsClean (column index row)

abbrev pub FieldsAreTexts : Type 0
FieldsAreTexts =
    (line : List ℕ) → content_of (rest_of line) ≡ Fields → AreTexts (row_of (rest_of line))

-- each text of a place is clean
pub record IsCleanPlace (p : PlaceParts) : Type 0 where
  pub country : IsClean p.country
  pub region : IsClean p.region
  pub city : IsClean p.city
  pub postal : IsClean p.postal

-- what a line says has clean texts
abbrev pub IsCleanSaid : Said → Type 0
IsCleanSaid Nothing = Unit {0}
IsCleanSaid (At place) = IsCleanPlace place

-- clean fields say what is clean
abbrev pub PlacesAreClean : Type 0
PlacesAreClean =
    (index : ℕ) (row : List (List ℕ)) (said : Said) → AreTexts row → said_in index row ≡ Ok said
    → IsCleanSaid said
