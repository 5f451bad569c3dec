-- The address space in chunks, and the segments of a chunk.
use Rattle.std.specs.Prelude.{◌≡◌, ℕ, ◌+◌, ◌^◌, ◌<◌, ◌≤◌, ◌⊎◌, IsTrue, List, [], ◌∷◌, All, Any}
use Rattle.std.specs.Prelude.{Contains, length, map}
use Rattle.std.specs.List.{AllAdjacentBelow}
use Rattle.geo_addr.specs.Ranges.{Ends, IsCut, IsRange, IsWithin, ground_first}
use Rattle.geo_terms.specs.Cuts.{statement_ranges}
use Rattle.geo_terms.specs.Precedence.{spoken_at}
use Rattle.geo_terms.specs.Sources.{InForce}
use Rattle.source_changes.specs.Touched.{is_touched}
use Rattle.cut_segments.specs.Segments.{starts_in}

-- neighbouring ranges from one point up to another
abbrev pub Tiles : ℕ → List Ends → ℕ → Type 0
Tiles low [] high = low ≡ high
Tiles low (r ∷ rs) high = (r.first ≡ low) × (low ≤ r.last) × Tiles (r.last + 1) rs high

-- a point is 0 or one of the limits
abbrev pub IsLimit : List ℕ → ℕ → Type 0
IsLimit limits c = (c ≡ 0) ⊎ Contains limits c

abbrev pub BeginAt : List ℕ → List Ends → Type 0
BeginAt limits chunks = All (λ r. IsLimit limits r.first) chunks

-- a touched ground begins here, or a cut point of the sources stands here
abbrev pub IsMark : InForce → List Ends → ℕ → Type 0
IsMark s touched c = Contains (map (λ r. ground_first r) touched) c ⊎ IsCut (statement_ranges s) c

-- chunks are the whole address space, and each but the first begins where a segment would
pub record AreChunks (s : InForce) (touched chunks : List Ends) : Type 0 where
  pub tiles : Tiles 0 chunks (2 ^ 128)
  pub begun : All (λ r. (r.first ≡ 0) ⊎ IsMark s touched r.first) chunks

-- ascending ranges that have the touched addresses of a chunk, but those that are spared, and no
-- others; of all of each the same is said; and each begins where a ground does in the chunk, or at
-- a cut point of the sources
pub record AreSegmentsIn (s : InForce) (touched : List Ends) (spared : ℕ → Type 0) (chunk : Ends)
    (out : List Ends) : Type 0 where
  pub ranges : All IsRange out
  pub apart : AllAdjacentBelow (λ r t. r.last < t.first) out (length out)
  pub inside : (a : ℕ) → Any (λ r. IsWithin r a) out
      → IsTrue (is_touched touched a) × IsWithin chunk a
  pub covered : (a : ℕ) → IsTrue (is_touched touched a) → IsWithin chunk a
      → Any (λ r. IsWithin r a) out ⊎ spared a
  pub steady : All (λ r. (a : ℕ) → IsWithin r a → spoken_at s a ≡ spoken_at s r.first) out
  pub begun : All (λ r. Contains (starts_in touched chunk) r.first
      ⊎ IsCut (statement_ranges s) r.first) out

-- no address
abbrev pub none_spared : ℕ → Type 0
none_spared a = ⊥

-- a chunk in neighbouring ranges, of all of each of which the same is said; each but the first
-- begins at a cut point of the sources
pub record ArePieces (s : InForce) (chunk : Ends) (out : List Ends) : Type 0 where
  pub tiles : Tiles chunk.first out (chunk.last + 1)
  pub steady : All (λ r. (a : ℕ) → IsWithin r a → spoken_at s a ≡ spoken_at s r.first) out
  pub begun : All (λ r. (r.first ≡ chunk.first) ⊎ IsCut (statement_ranges s) r.first) out
