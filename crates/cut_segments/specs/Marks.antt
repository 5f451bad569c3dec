-- How segments are found: the marks of touched grounds and of cut points in ascending order,
-- and one pass over them.
use Rattle.std.specs.Prelude.{ℕ, ◌+◌, ◌-◌, nat_le, nat_lt, if◌then◌else◌, max, min, List, [], ◌∷◌}
use Rattle.std.specs.Prelude.{◌++◌, map, Option, Some, None}
use Rattle.geo_addr.specs.Ranges.{Ends, ground_first}
use Rattle.cut_segments.specs.declared.segments.Mark.{Mark}

-- where a touched ground begins, with its last address
abbrev pub ground_mark : Ends → Mark
ground_mark r = record { at = ground_first r; reach = Some r.last }

-- a cut point
abbrev pub cut_mark : ℕ → Mark
cut_mark c = record { at = c; reach = None }

abbrev pub marks_of : List Ends → List ℕ → List Mark
marks_of touched cuts = map ground_mark touched ++ map cut_mark cuts

-- the point past the farthest touched address so far
abbrev pub past_of : Option ℕ → ℕ
past_of None = 0
past_of (Some last) = last + 1

-- the first point that is no longer of the piece: past all that was touched,
-- or where the next mark stands
abbrev pub stop_at : ℕ → Option ℕ → ℕ
stop_at past None = past
stop_at past (Some next) = min past next

-- the marks of grounds and of cut points that ascend, one ground and what comes of the rest
abbrev pub from_ground : Ends → (List ℕ → List Mark) → List ℕ → List Mark
from_ground r rest [] = ground_mark r ∷ rest []
from_ground r rest (c ∷ cs) =
    if nat_le (ground_first r) c then ground_mark r ∷ rest (c ∷ cs)
    else cut_mark c ∷ from_ground r rest cs

-- the marks of grounds and of cut points that ascend, in order
abbrev pub merged : List Ends → List ℕ → List Mark
merged [] cs = map cut_mark cs
merged (r ∷ rs) cs = from_ground r (merged rs) cs

abbrev pub piece : ℕ → ℕ → List Ends
piece first stop = if nat_lt first stop then record { first = first; last = stop - 1 } ∷ [] else []

abbrev pub next_at : List Mark → Option ℕ
next_at [] = None
next_at (m ∷ ms) = Some m.at

-- the pieces of sorted marks, where all below this point is touched so far
abbrev pub sweep : ℕ → List Mark → List Ends
sweep past [] = []
sweep past (m ∷ ms) =
    let far = max past (past_of m.reach) in
    piece m.at (stop_at far (next_at ms)) ++ sweep far ms
