-- Which numbers a set of bits has.
use Rattle.std.specs.Prelude.{ℕ, ◌/◌, ◌%◌, ◌==◌, Bool, List, slice_index}
use Rattle.std.specs.Int.{bit_at}

-- a number is in the set where its bit is 1, counted from the lowest one of the first word
abbrev pub is_marked : List ℕ → ℕ → Bool
is_marked words n = bit_at (slice_index words (n / 64)) (n % 64) == 1
