-- How much an emit touches.
use Rattle.std.specs.Prelude.{ℕ, ◌+◌, ◌*◌, List, [], ◌∷◌, length, flat_map, filter, nat_eq}
use Rattle.geo_addr.specs.Ranges.{Ends, edges_of}
use Rattle.geo_terms.specs.Cuts.{statement_ranges}
use Rattle.geo_terms.specs.Sources.{InForce}
use Rattle.least_nodes.specs.Layout.{each_once}
use Rattle.source_changes.specs.Touched.{is_touched}

-- the different edges of the grounds of a list of ranges
abbrev pub edges : List Ends → List ℕ
edges ranges = each_once nat_eq [] (flat_map edges_of ranges)

-- the touch of an emit for which these grounds have changed, where statements with those ranges are
-- in force: how many grounds, and how many different edges of the statements in force lie on them
unfoldable pub touch : (changed all : List Ends) → ℕ
touch changed all = length changed + length (filter (is_touched changed) (edges all))

-- the most places that an emit gives numbers to: none where nothing is touched
unfoldable pub few_places : (touched : List Ends) → InForce → ℕ
few_places [] s = 0
few_places (r ∷ rs) s = touch (r ∷ rs) (statement_ranges s) + 1

-- the most steps that an emit takes, and the most nodes that it makes
unfoldable pub bound : (touched : List Ends) → InForce → ℕ
bound touched s = 256 * few_places touched s
