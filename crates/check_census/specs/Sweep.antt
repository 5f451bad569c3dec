-- How the first address of each line is found: one pass over the points at which speakers and
-- entries can change.
use Rattle.std.specs.Prelude.{ℕ, ◌-◌, ◌*◌, ◌^◌, List, [], ◌∷◌, ◌++◌, map, Option, None}
use Rattle.geo_addr.specs.Ranges.{Ends, range_of_block}
use Rattle.geo_terms.specs.Sources.{InForce, references}
use Rattle.geo_terms.specs.declared.statement.Entry.{Entry}
use Rattle.check_census.specs.Verdicts.{heard_line, or_else, some_if, is_line}

-- all addresses
abbrev pub all_addresses : Ends
all_addresses = record { first = 0; last = 2 ^ 128 - 1 }

-- the IPv4 addresses, and the two blocks of IPv6 addresses that carry IPv4 addresses
abbrev pub v4_range : Ends
v4_range = record { first = 0; last = 2 ^ 32 - 1 }

abbrev pub mapped_range : Ends
mapped_range = record { first = 0xffff * 2 ^ 32; last = 0x10000 * 2 ^ 32 - 1 }

abbrev pub six_to_four_range : Ends
six_to_four_range = record { first = 0x2002 * 2 ^ 112; last = 0x2003 * 2 ^ 112 - 1 }

abbrev pub fixed_ranges : List Ends
fixed_ranges = v4_range ∷ mapped_range ∷ six_to_four_range ∷ []

-- the ranges at whose ends the line that is heard can change
abbrev pub hearing_ranges : InForce → List Entry → List Ends
hearing_ranges s es = map (λ r. r.range) (references s)
    ++ (map (λ e. range_of_block e.block) es ++ fixed_ranges)

-- the first addresses of lines, after a line is heard at a point: where it has none yet, it is this
-- one
abbrev pub marked : Option ℕ → ℕ → List ℕ → List (Option ℕ) → List (Option ℕ)
marked heard at [] fs = []
marked heard at (l ∷ ls) [] = []
marked heard at (l ∷ ls) (f ∷ fs) = or_else f (some_if (is_line l heard) at) ∷ marked heard at ls fs

-- the first addresses of lines that are heard at the points, each point in turn
abbrev pub sweep : InForce → List ℕ → List ℕ → List (Option ℕ) → List ℕ → List (Option ℕ)
sweep s url ls fs [] = fs
sweep s url ls fs (p ∷ ps) = sweep s url ls (marked (heard_line s url p) p ls fs) ps

-- before the first point no line has one
abbrev pub swept : InForce → List ℕ → List ℕ → List ℕ → List (Option ℕ)
swept s url ls ps = sweep s url ls (map (λ l. None) ls) ps
