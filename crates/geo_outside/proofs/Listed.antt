-- Counting the calls that are listed.
use Rattle.std.proofs.Common.{◌≡◌, ℕ, ◌+◌, List, refl, add-one}
use Rattle.std.specs.Prelude.{if◌then◌else◌}
use Rattle.geo_outside.specs.Script.{is_listed, listed_among}

-- one call more
pub listed_more : (numbers : List ℕ) (n : ℕ) → listed_among numbers (n + 1)
    ≡ listed_among numbers n + (if is_listed numbers (n + 1) then 1 else 0)
listed_more numbers n = rw add-one refl
