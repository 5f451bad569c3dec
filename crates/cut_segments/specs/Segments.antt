-- Segments: the touched grounds, cut at the cut points, so that one choice serves all of a segment.
use Rattle.std.specs.Prelude.{ℕ, ◌+◌, ◌++◌, ◌<◌, ◌≤◌, IsTrue, List, All, Any, Contains, length, map}
use Rattle.std.specs.Prelude.{count_by, max}
use Rattle.std.specs.List.{AllAdjacentBelow}
use Rattle.geo_addr.specs.Ranges.{Ends, IsRange, IsWithin, ground_first}
use Rattle.source_changes.specs.Touched.{is_touched}

-- ascending ranges that have the touched addresses and no others,
-- with no cut point above the first address of one
pub record AreSegments (touched : List Ends) (cuts : List ℕ) (out : List Ends) : Type 0 where
  pub ranges : All IsRange out
  pub apart : AllAdjacentBelow (λ r s. r.last < s.first) out (length out)
  pub inside : (a : ℕ) → Any (λ r. IsWithin r a) out → IsTrue (is_touched touched a)
  pub covered : (a : ℕ) → IsTrue (is_touched touched a) → Any (λ r. IsWithin r a) out
  pub uncut : (c : ℕ) → Contains cuts c → All (λ r. r.first < c → r.last < c) out
  pub few : length out ≤ length touched + count_by (is_touched touched) cuts

-- each ground begins at one of these points
abbrev pub BeginIn : List ℕ → List Ends → Type 0
BeginIn starts ranges = All (λ r. Contains starts (ground_first r)) ranges

-- where the parts of grounds in a chunk begin: where a ground does, or the chunk
abbrev pub starts_in : List Ends → Ends → List ℕ
starts_in touched chunk = map (λ r. max (ground_first r) chunk.first) touched

-- where segments begin: where a ground does, or at a cut point
abbrev pub starts_of : List Ends → List ℕ → List ℕ
starts_of touched cuts = map (λ r. ground_first r) touched ++ cuts
