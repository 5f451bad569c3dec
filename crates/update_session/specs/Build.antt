-- How the tree is painted anew: the touched grounds are cut, each segment gets its place's number,
-- and the segments are painted, one chunk's after another's.
use Rattle.std.specs.Prelude.{◌≡◌, ℕ, ◌^◌, ◌<◌, ◌≤◌, ◌⊎◌, ◌||◌, Bool, not, false, IsTrue, List}
use Rattle.std.specs.Prelude.{length, map, flat_map, sum_by, All, Any, Option, None, is_some, zero}
use Rattle.std.specs.Prelude.{suc, get_or}
use Rattle.std.specs.List.{AllByRecursion}
use Rattle.geo_addr.specs.Ranges.{Ends, IsWithin}
use Rattle.geo_terms.specs.Cuts.{statement_ranges}
use Rattle.geo_terms.specs.Numbers.{place_at}
use Rattle.geo_terms.specs.PlaceForm.{PlaceParts}
use Rattle.geo_terms.specs.Precedence.{spoken_at}
use Rattle.geo_terms.specs.Sources.{InForce}
use Rattle.precedence.specs.Chunks.{AreSegmentsIn}
use Rattle.source_changes.specs.Touched.{is_touched}
use Rattle.update_session.specs.Touch.{touch}
use Rattle.update_session.specs.declared.choosing.Chosen.{Chosen}

-- numbers of a list of places, and what they stand for
pub record StandFor (places : List PlaceParts) (leaves : List ℕ) (said : List (Option PlaceParts))
    : Type 0 where
  pub known : AllByRecursion (λ leaf. leaf ≤ length places) leaves
  pub means : map (place_at places) leaves ≡ said

-- what the numbers of a chunk stand for among its own places
abbrev pub said_in : Chosen → List (Option PlaceParts)
said_in c = map (place_at c.places) c.leaves.items

-- the segments of a chunk
abbrev pub segments_of : Chosen → List Ends
segments_of c = c.segments.items

-- each number of a chunk is one of its places, or 0, and each segment has one
abbrev pub IsKnown : Chosen → Type 0
IsKnown c =
    AllByRecursion (λ leaf. leaf ≤ length c.places) c.leaves.items
    × (length c.leaves.items ≡ length c.segments.items)

-- what is said of segments: of each that of its first address; they have no more places
pub record IsChosen (s : InForce) (c : Chosen) : Type 0 where
  pub stands : StandFor c.places c.leaves.items (map (λ r. spoken_at s r.first) c.segments.items)
  pub few : length c.places ≤ length c.segments.items

-- where nothing was said before, an address is spared of which nothing is said
abbrev pub IsSpared : InForce → (blank : Bool) → ℕ → Type 0
IsSpared s blank a = IsTrue blank × (spoken_at s a ≡ None)

-- a segment is wanted, or where nothing was said before only if something is said of it
abbrev pub is_wanted : InForce → (blank : Bool) → Ends → Bool
is_wanted s blank r = not blank || is_some (spoken_at s r.first)

-- all that is said is touched
abbrev pub IsAllTouched : InForce → (touched : List Ends) → Type 0
IsAllTouched s touched =
    (a : ℕ) → a < 2 ^ 128 → is_touched touched a ≡ false → spoken_at s a ≡ None

-- the segments of a chunk, and what is said of them
pub record IsChosenIn (s : InForce) (touched : List Ends) (blank : Bool) (chunk : Ends) (c : Chosen)
    : Type 0 where
  pub cut : AreSegmentsIn s touched (IsSpared s blank) chunk c.segments.items
  pub chosen : IsChosen s c

-- what is said in chunks: their segments have the touched addresses, but those that are spared, and
-- no others, and there are no more of them, nor of places, than the touch
pub record AreChosen (s : InForce) (touched : List Ends) (blank : Bool) (chosen : List Chosen)
    : Type 0 where
  pub each : All (λ c. (chunk : Ends) × IsChosenIn s touched blank chunk c) chosen
  pub inside : (a : ℕ) → Any (λ r. IsWithin r a) (flat_map segments_of chosen)
      → IsTrue (is_touched touched a)
  pub covered : (a : ℕ) → a < 2 ^ 128 → IsTrue (is_touched touched a)
      → Any (λ r. IsWithin r a) (flat_map segments_of chosen) ⊎ IsSpared s blank a
  pub segments : sum_by (λ c. length c.segments.items) chosen ≤ touch touched (statement_ranges s)
  pub places : sum_by (λ c. length c.places) chosen ≤ touch touched (statement_ranges s)

-- the number for one of a chunk, where the chunk's places have these numbers
abbrev pub renamed : List ℕ → ℕ → ℕ
renamed names zero = 0
renamed names (suc at) = get_or names at 0
