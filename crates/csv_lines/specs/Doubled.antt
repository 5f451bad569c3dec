-- How lines of the same range are found: by what is held of the ranges that more than one line has.
use Rattle.std.specs.Prelude.{◌≡◌, ℕ, ◌+◌, ◌<◌, ◌⊎◌, Bool, false, not, ◌||◌, nat_eq, nat_lt, List}
use Rattle.std.specs.Prelude.{[], ◌∷◌, length, fold, Option, Some, None, ◌&&◌}
use Rattle.std.specs.Prelude.{slice_index, slice_set, if◌then◌else◌, ◌*◌, ◌/◌, ◌%◌, ◌^◌, min}
use Rattle.std.specs.List.{IsDistinct}
use Rattle.std.specs.Ordering.{nat_cmp, ordering_then}
use Rattle.std.specs.declared.cmp.Ordering.{Ordering}
use Rattle.geo_addr.specs.Ranges.{Ends}
use Rattle.geo_terms.specs.Report.{same_ends}
use Rattle.geo_terms.specs.declared.place.Said.{Said}
use Rattle.csv_lines.specs.Repeats.{same_said}
use Rattle.csv_lines.specs.declared.fate.Fate.{Fate}
use Rattle.csv_lines.specs.declared.fate.Fate.TheVariants.{Kept, Repeats, Differs}

-- a range begins above another, or where it does and ends above it
abbrev pub IsBelow : Ends → Ends → Type 0
IsBelow a b = (a.first < b.first) ⊎ ((a.first ≡ b.first) × (a.last < b.last))

-- ranges by their first ends, and those that begin together by their last ones
abbrev pub ends_cmp : Ends → Ends → Ordering
ends_cmp a b = ordering_then (nat_cmp a.first b.first) (nat_cmp a.last b.last)

-- a range stands in a list at most once
abbrev pub IsAlone : Ends → List Ends → Type 0
IsAlone k ranges = IsDistinct (λ x y. same_ends k x && same_ends k y) ranges

-- the slot of a range among so many: the sum of its ends times the golden ratio, as a part of one
unfoldable pub slot : ℕ → Ends → ℕ
slot slots r =
    (r.first + r.last) % 2 ^ 128 * 0x9e37_79b9_7f4a_7c15_f39c_c060_5ced_c835 % 2 ^ 128 / 2 ^ 64
    * slots / 2 ^ 64

-- how many lines are counted in the slot of a range
abbrev pub count_at : List ℕ → Ends → ℕ
count_at counts r = slice_index counts (slot (length counts) r)

-- one more line of a range
abbrev pub counted : List ℕ → Ends → List ℕ
counted counts r = slice_set counts (slot (length counts) r) (min (count_at counts r + 1) 255)

-- whether more than one line is counted in the slot of a range
abbrev pub is_shared : List ℕ → Ends → Bool
is_shared counts r = nat_lt 1 (count_at counts r)

-- the first line of a range, what it says, and whether a later one says something else
pub record Shown : Type 0 where
  pub line : ℕ
  pub said : Said
  pub differs : Bool

-- what becomes of a line whose range shows this
abbrev pub fate_by : Option Shown → ℕ → Fate
fate_by None line = Kept
fate_by (Some s) line =
    if s.differs then Differs else (if nat_lt s.line line then Repeats else Kept)

module _ {X : Type 0} (line : X → ℕ) (range : X → Ends) (said : X → Said) where
  -- what is shown with one more line of the range
  abbrev pub more : Option Shown → X → Shown
  more None x = record { line = line x; said = said x; differs = false }
  more (Some s) x = record {
    line = s.line;
    said = s.said;
    differs = s.differs || not (same_said (said x) s.said);
  }

  -- what is shown of a range with one more line
  abbrev pub with_row : Option Shown → X → Ends → Option Shown
  with_row s x k = if same_ends (range x) k then Some (more s x) else s

  -- what lines show of a range
  abbrev pub shown : List X → Ends → Option Shown
  shown rows k = fold (λ s x. with_row s x k) None rows

-- the places of the elements that pass a test, counted from a number on
abbrev pub places_from : {X : Type 0} → (X → Bool) → ℕ → List X → List ℕ
places_from p i [] = []
places_from p i (x ∷ xs) = if p x then i ∷ places_from p (i + 1) xs else places_from p (i + 1) xs

-- whether the next of these places is this one
abbrev pub is_next : List ℕ → ℕ → ℕ → Bool
is_next places n at = nat_lt n (length places) && nat_eq (slice_index places n) at
