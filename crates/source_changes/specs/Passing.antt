-- Grounds that may be passed over, since all that a chunk has of them is held elsewhere.
use Rattle.std.specs.Prelude.{ℕ, ◌^◌, ◌<◌, ◌≤◌, IsTrue, List, Option}
use Rattle.std.specs.Option.{option_to_list}
use Rattle.geo_addr.specs.Ranges.{Ends, IsWithin, holds}
use Rattle.source_changes.specs.Packing.{ends_of}
use Rattle.source_changes.specs.Touched.{is_touched}
use Rattle.source_changes.specs.declared.ground_list.Packed.{Packed}

-- grounds of addresses, of which all that a chunk has lies in a range, if there is one
pub record LieIn (chunk : Ends) (held : Option Ends) (grounds : List Ends) : Type 0 where
  pub addresses : (a : ℕ) → IsTrue (is_touched grounds a) → a < 2 ^ 128
  pub inside : (a : ℕ) → IsTrue (is_touched grounds a) → IsWithin chunk a
      → IsTrue (is_touched (option_to_list held) a)

-- a pair that is a ground of IPv4, of which all that one pair has lies in another one
pub record IsPassed (chunk held one : Packed) : Type 0 where
  pub ordered : one.first ≤ one.last
  pub within : one.last < 2 ^ 32
  pub inside : (a : ℕ) → IsWithin (ends_of one) a → IsWithin (ends_of chunk) a
      → IsWithin (ends_of held) a

-- a ground of addresses, of which all that a chunk has lies between the ends of a pair
pub record LiesIn (chunk : Ends) (within : Packed) (one : Ends) : Type 0 where
  pub address : one.last < 2 ^ 128
  pub inside : (a : ℕ) → IsTrue (holds one a) → IsWithin chunk a → IsWithin (ends_of within) a
