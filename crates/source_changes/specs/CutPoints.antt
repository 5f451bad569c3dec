-- The cut points of a list of ranges in the whole address space.
use Rattle.std.specs.Prelude.{ℕ, ◌-◌, ◌^◌, List}
use Rattle.std.specs.List.Sorted.{IsStrictlyIncreasing}
use Rattle.geo_addr.specs.Ranges.{Ends, AreCuts}

-- the whole address space
abbrev pub whole : Ends
whole = record { first = 0; last = 2 ^ 128 - 1 }

-- the cut points of a list of ranges in the whole address space, ascending, each once
pub record AreCutsOf (ranges : List Ends) (points : List ℕ) : Type 0 where
  pub exact : AreCuts ranges whole points
  pub ascending : IsStrictlyIncreasing points
