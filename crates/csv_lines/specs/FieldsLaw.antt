-- What the fields of a text are, said of a whole list.
use Rattle.std.specs.Prelude.{◌≡◌, ◌↔◌, ℕ, List, ◌∷◌, Some}
use Rattle.csv_lines.specs.Fields.{AreFields, Field, fields}

-- a list of fields joins to a text exactly where it is that of the text
abbrev pub FieldsAreUnique : Type 0
FieldsAreUnique =
    (text : List ℕ) (first : Field) (more : List Field)
    → AreFields text first more ↔ (fields text ≡ Some (first ∷ more))
