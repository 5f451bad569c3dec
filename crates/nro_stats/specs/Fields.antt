-- The fields of a line of a statistics file (NRO extended allocation and assignment report).
use Rattle.std.specs.Prelude.{◌≡◌, ℕ, Bool, false, not, ◌&&◌, ◌||◌, ◌==◌, List, [], ◌∷◌, map, codes}
use Rattle.std.specs.Prelude.{Option}
use Rattle.std.specs.Char.{is_ascii_digit}
use Rattle.std.specs.List.{list_all}
use Rattle.geo_addr.specs.Lines.{pieces, pieces_after, trimmed}
use Rattle.geo_terms.specs.PlaceForm.{is_empty, same_text}
use Rattle.nro_stats.specs.declared.record.Record.{Record}

-- fields stand between bars and are trimmed of blanks
abbrev pub fields : List ℕ → List (List ℕ)
fields line = map trimmed (pieces 124 line)

-- the fields of what follows a bar, if there was one
abbrev pub fields_after : Option (List ℕ) → List (List ℕ)
fields_after rest = map trimmed (pieces_after 124 rest)

-- the first of some fields, which is empty where there is none, and those behind it
abbrev pub first_field : List (List ℕ) → List ℕ
first_field [] = []
first_field (field ∷ more) = field

abbrev pub later_fields : List (List ℕ) → List (List ℕ)
later_fields [] = []
later_fields (field ∷ more) = more

-- whether a line begins with `#`
abbrev pub is_comment : List ℕ → Bool
is_comment [] = false
is_comment (b ∷ bs) = b == 35

-- a line of blanks alone, and a comment, are passed over
abbrev pub is_skipped : List ℕ → Bool
is_skipped line = is_empty (trimmed line) || is_comment line

-- a version: `2`, or `2.` and one or more digits
abbrev pub is_version : List ℕ → Bool
is_version [] = false
is_version (two ∷ []) = two == 50
is_version (two ∷ dot ∷ digits) =
    two == 50 && dot == 46 && not (is_empty digits) && list_all is_ascii_digit digits

-- a version line has a version as its first field
abbrev pub is_version_line : List (List ℕ) → Bool
is_version_line [] = false
is_version_line (first ∷ more) = is_version first

-- a summary line has `*` as its second field and `summary` as its sixth
abbrev pub is_summary_line : List (List ℕ) → Bool
is_summary_line (a ∷ star ∷ c ∷ d ∷ e ∷ word ∷ more) =
    same_text star (codes "*") && same_text word (codes "summary")
is_summary_line _ = false

-- these are the fields of a record: registry, country, type, start, value, date, status,
-- and any more
abbrev pub IsRecord : List (List ℕ) → Record → Type 0
IsRecord (registry ∷ country ∷ kind ∷ start ∷ value ∷ date ∷ status ∷ more) r =
    (r.registry.now ≡ registry) × (r.country.now ≡ country) × (r.kind.now ≡ kind)
    × (r.start.now ≡ start)
    × (r.value.now ≡ value) × (r.date.now ≡ date) × (r.status.now ≡ status)
IsRecord _ r = ⊥

-- there are fewer than seven
abbrev pub IsShort : List (List ℕ) → Type 0
IsShort (a ∷ b ∷ c ∷ d ∷ e ∷ f ∷ g ∷ more) = ⊥
IsShort _ = Unit {0}
