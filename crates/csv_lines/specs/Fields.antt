-- The fields of a line of comma-separated values: plain ones,
-- and quoted ones in which each quote is doubled (RFC 4180 section 2).
-- A byte is its number: 34 is the quote, 44 the comma, 10 the line feed, 13 the carriage return.
use Rattle.std.specs.Prelude.{◌≡◌, ℕ, Bool, true, not, ◌&&◌, ◌||◌, ◌==◌, List, [], ◌∷◌, ◌++◌, map}
use Rattle.std.specs.Prelude.{IsTrue, Option, None, Some, option_map, is_some, if◌then◌else◌}
use Rattle.std.specs.List.{list_all}
use Rattle.csv_lines.specs.declared.scan.Spot.{Spot}
use Rattle.csv_lines.specs.declared.scan.Spot.TheVariants.{Start, Inside, Within, Closed}

-- a field, by its value
pub data Field : Type 0 where
  Plain : List ℕ → Field
  Quoted : List ℕ → Field

-- a value with each quote doubled
abbrev pub doubled : List ℕ → List ℕ
doubled [] = []
doubled (b ∷ bs) = if b == 34 then 34 ∷ 34 ∷ doubled bs else b ∷ doubled bs

-- a field as it stands in a line
abbrev pub written : Field → List ℕ
written (Plain value) = value
written (Quoted value) = 34 ∷ (doubled value ++ (34 ∷ []))

-- neither a quote nor a comma
abbrev pub is_plain : ℕ → Bool
is_plain b = not (b == 34) && not (b == 44)

-- a plain field has neither quotes nor commas, a quoted one anything
abbrev pub is_field : Field → Bool
is_field (Plain value) = list_all is_plain value
is_field (Quoted value) = true

-- fields with commas between them
abbrev pub joined : List Field → List ℕ
joined [] = []
joined (f ∷ []) = written f
joined (f ∷ g ∷ more) = written f ++ (44 ∷ joined (g ∷ more))

-- these fields, at least one, are those of a text
pub record AreFields (text : List ℕ) (first : Field) (more : List Field) : Type 0 where
  pub joined : joined (first ∷ more) ≡ text
  pub fields : IsTrue (list_all is_field (first ∷ more))

-- one more byte at the start of the first field
abbrev pub with_byte : ℕ → List Field → List Field
with_byte b [] = []
with_byte b (Plain value ∷ more) = Plain (b ∷ value) ∷ more
with_byte b (Quoted value ∷ more) = Quoted (b ∷ value) ∷ more

-- one more field, which is empty, and a comma
abbrev pub with_plain : List Field → List Field
with_plain more = Plain [] ∷ more

abbrev pub with_quoted : List Field → List Field
with_quoted more = Quoted [] ∷ more

-- the fields of what is left of a text: at the start of a field, inside a plain one, within quotes,
-- or behind a quote that may close them
unfoldable pub scan : Spot → List ℕ → Option (List Field)
scan Start [] = Some (Plain [] ∷ [])
scan Start (b ∷ bs) =
    if b == 34 then scan Within bs
    else (if b == 44 then option_map with_plain (scan Start bs)
    else option_map (with_byte b) (scan Inside bs))
scan Inside [] = Some (Plain [] ∷ [])
scan Inside (b ∷ bs) =
    if b == 34 then None
    else (if b == 44 then option_map with_plain (scan Start bs)
    else option_map (with_byte b) (scan Inside bs))
scan Within [] = None
scan Within (b ∷ bs) = if b == 34 then scan Closed bs else option_map (with_byte b) (scan Within bs)
scan Closed [] = Some (Quoted [] ∷ [])
scan Closed (b ∷ bs) =
    if b == 34 then option_map (with_byte 34) (scan Within bs)
    else (if b == 44 then option_map with_quoted (scan Start bs) else None)

-- the fields of a text, where it has any: the only list of fields that joins to it
abbrev pub fields : List ℕ → Option (List Field)
fields text = scan Start text

-- whether a text has no quote
abbrev pub is_unquoted : List ℕ → Bool
is_unquoted text = list_all (λ b. not (b == 34)) text

-- whether a byte is no comma, quote, line end or start of a comment
abbrev pub goes_on : ℕ → Bool
goes_on b = not (b == 44) && not (b == 34) && not (b == 35) && not (b == 10) && not (b == 13)

-- a byte that goes on, or a comma
abbrev pub is_bare : ℕ → Bool
is_bare b = b == 44 || goes_on b

-- the value of a field
abbrev pub value : Field → List ℕ
value (Plain x) = x
value (Quoted x) = x

-- neither a line feed nor a carriage return
abbrev pub is_inner : ℕ → Bool
is_inner b = not (b == 10 || b == 13)

-- whether what is left of a text has fields, and no line end
abbrev pub passes : Spot → List ℕ → Bool
passes spot text = list_all is_inner text && is_some (scan spot text)

-- the values of the fields of a text that is one line
abbrev pub values_of : List ℕ → Option (List (List ℕ))
values_of text = if list_all is_inner text then option_map (map value) (fields text) else None
