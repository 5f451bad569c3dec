-- Boundaries in two columns: their addresses, each once, and what each one tells as one number.
use Rattle.std.specs.Prelude.{◌≡◌, ℕ, ◌-◌, ◌^◌, Bool, false, nat_eq, if◌then◌else◌, List, [], ◌∷◌}
use Rattle.std.specs.Prelude.{length, Option, Some, None}
use Rattle.std.specs.List.Sorted.{IsStrictlyIncreasing}
use Rattle.first_index.specs.declared.boundaries.Boundary.{Boundary}

-- the index that a number stands for; the greatest number stands for none
abbrev pub coded_index : ℕ → Option ℕ
coded_index code = if nat_eq code (2 ^ 32 - 1) then None else Some code

-- the boundaries that two columns stand for
abbrev pub of_columns : List ℕ → List ℕ → List Boundary
of_columns [] codes = []
of_columns (p ∷ ps) [] = []
of_columns (p ∷ ps) (c ∷ cs) = record { at = p; first = coded_index c } ∷ of_columns ps cs

-- whether the first of these boundaries stands at an address
abbrev pub begin_at : List Boundary → ℕ → Bool
begin_at [] a = false
begin_at (b ∷ bs) a = nat_eq b.at a

-- of boundaries at one address, side by side, the last one
abbrev pub last_ones : List Boundary → List Boundary
last_ones [] = []
last_ones (b ∷ bs) = if begin_at bs b.at then last_ones bs else b ∷ last_ones bs

-- two columns of one length, of addresses that ascend, each once, and of numbers
pub record AreColumns (points codes : List ℕ) : Type 0 where
  pub same_length : length points ≡ length codes
  pub ascending : IsStrictlyIncreasing points
