-- Touched grounds: what may be said anew of the addresses on them, and of no others.
use Rattle.std.specs.Prelude.{ℕ, Bool, List}
use Rattle.std.specs.List.{list_any}
use Rattle.geo_addr.specs.Ranges.{Ends, ground_first, holds}

-- the ground of a range, as a range of its own
abbrev pub ground_of : Ends → Ends
ground_of r = record { first = ground_first r; last = r.last }

-- whether one of the ranges holds the address
abbrev pub is_touched : List Ends → ℕ → Bool
is_touched touched a = list_any (λ r. holds r a) touched
