-- What is said between the cut points of all sources.
use Rattle.std.specs.Prelude.{◌≡◌, ℕ, ◌^◌, ◌<◌, ◌≤◌, List, Contains}
use Rattle.geo_terms.specs.Precedence.{spoken_at}
use Rattle.geo_terms.specs.Sources.{InForce}

-- two addresses have one record where none of the points lies above the
-- lower and at or below the higher
abbrev pub IsConstantBetween : InForce → List ℕ → Type 0
IsConstantBetween s points =
    (a b : ℕ) → a ≤ b → b < 2 ^ 128
    → ((c : ℕ) → a < c → c ≤ b → ¬ Contains points c) → spoken_at s a ≡ spoken_at s b
