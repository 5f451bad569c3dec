-- What is true of all counts.
use Rattle.std.specs.Prelude.{◌≡◌, ℕ, ◌^◌, ◌<◌, List, Option}
use Rattle.check_census.specs.Census.{census}

-- where each address has the same country by two functions, the counts are the same
abbrev pub EqualCounts : Type 0
EqualCounts = (f g : ℕ → Option (List ℕ)) → ((a : ℕ) → a < 2 ^ 128 → f a ≡ g a)
    → census f ≡ census g
