-- Runs of cut points.
use Rattle.std.specs.Prelude.{ℕ, List, flat_map}
use Rattle.std.specs.Borrow.{Bor}

-- the points of these runs, one run behind the other
abbrev pub points_of : List (Bor (List ℕ)) → List ℕ
points_of runs = flat_map (λ r. r.now) runs
