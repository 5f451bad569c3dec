-- The blocks from a point on: each is the largest one that begins there and ends in time.
use Rattle.std.specs.Prelude.{ℕ, zero, suc, ◌+◌, ◌-◌, ◌%◌, ◌^◌, Bool, ◌&&◌, Option, None, Some}
use Rattle.std.specs.Prelude.{List, [], ◌∷◌, nat_eq, nat_lt, nat_le, if◌then◌else◌}
use Rattle.geo_addr.specs.Ranges.{Ends, Prefix}
use Rattle.split_core.specs.Least.{past}

-- whether a block of 2 ^ bits addresses may begin at this point and ends at or before `end`
unfoldable pub is_room : ℕ → ℕ → ℕ → Bool
is_room bits first end = nat_eq (first % 2 ^ bits) 0 && nat_le (first + 2 ^ bits) end

-- the greatest number of bits, at most n, for which there is room
unfoldable pub largest : ℕ → ℕ → ℕ → ℕ
largest zero first end = 0
largest (suc n) first end = if is_room (suc n) first end then suc n else largest n first end

-- the largest block that begins at this point and ends at or before `end`
abbrev pub largest_block : ℕ → ℕ → Prefix
largest_block first end = record { first = first; len = 128 - largest 128 first end }

-- at most n blocks from this point to `end`
unfoldable pub blocks_from : ℕ → ℕ → ℕ → List Prefix
blocks_from zero first end = []
blocks_from (suc n) first end =
    if nat_lt first end
    then largest_block first end ∷ blocks_from n (past (largest_block first end)) end else []

-- all blocks from this point to `end`
abbrev pub blocks_of : ℕ → ℕ → List Prefix
blocks_of first end = blocks_from (end - first) first end

-- the blocks of the range that is left, if there is one
abbrev pub blocks_left : Option Ends → List Prefix
blocks_left None = []
blocks_left (Some r) = blocks_of r.first (r.last + 1)
