-- How boundaries are found: the edges of all grounds in ascending order,
-- and one pass over them with the ranges that hold.
use Rattle.std.specs.Prelude.{ℕ, ◌+◌, ◌-◌, ◌^◌, nat_lt, true, false, if◌then◌else◌, List, [], ◌∷◌}
use Rattle.std.specs.Prelude.{◌++◌, slice_get}
use Rattle.std.specs.Ordering.{nat_cmp}
use Rattle.std.specs.BTreeMap.{is_at}
use Rattle.std.specs.BTreeSet.{insert_key}
use Rattle.std.specs.Set.{remove_key}
use Rattle.geo_addr.specs.Ranges.{Ends, ground_first}
use Rattle.first_index.specs.declared.boundaries.Boundary.{Boundary}
use Rattle.first_index.specs.declared.boundaries.Edge.{Edge}

-- where a ground begins and where it has ended; one that reaches the last address never ends
abbrev pub edges_of : ℕ → Ends → List Edge
edges_of rank r =
    record { at = ground_first r; rank = rank; opens = true }
    ∷ (if nat_lt r.last (2 ^ 128 - 1)
    then record { at = r.last + 1; rank = rank; opens = false } ∷ [] else [])

-- the edges of the ranges of a list, whose first one has this rank
abbrev pub edges_from : ℕ → List Ends → List Edge
edges_from rank [] = []
edges_from rank (r ∷ rs) = edges_of rank r ++ edges_from (rank + 1) rs

-- the ranks in force behind an edge, in order
abbrev pub after_edge : List ℕ → Edge → List ℕ
after_edge ranks e =
    if e.opens then insert_key nat_cmp ranks e.rank else remove_key (is_at (nat_cmp e.rank)) ranks

-- at each edge the least rank in force behind it
abbrev pub sweep : List ℕ → List Edge → List Boundary
sweep ranks [] = []
sweep ranks (e ∷ es) =
    record { at = e.at; first = slice_get (after_edge ranks e) 0 } ∷ sweep (after_edge ranks e) es
