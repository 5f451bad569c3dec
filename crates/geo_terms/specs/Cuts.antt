-- The cut points of the sources, between which nothing changes.
use Rattle.std.specs.Prelude.{◌≡◌, ℕ, ◌≤◌, List, ◌++◌, map}
use Rattle.geo_addr.specs.Ranges.{Ends, NoCut, range_of_block}
use Rattle.geo_terms.specs.Precedence.{spoken_at}
use Rattle.geo_terms.specs.Sources.{InForce, references, entries, delegations, override_rows}

-- the ranges of all statements in force
abbrev pub statement_ranges : InForce → List Ends
statement_ranges s =
    map (λ r. r.range) (references s) ++ (map (λ e. range_of_block e.block) (entries s)
    ++ (map (λ d. d.range) (delegations s) ++ map (λ o. o.range) (override_rows s)))

-- two addresses with no cut point of the sources above the lower and at or below
-- the higher one are told the same
abbrev pub ConstantBetweenCuts : Type 0
ConstantBetweenCuts =
    (s : InForce) (a b : ℕ) → a ≤ b → NoCut (statement_ranges s) a b → spoken_at s a ≡ spoken_at s b
