-- An index of statements: at each address it tells where, in their list,
-- of the first one in their order that holds it.
use Rattle.std.specs.Prelude.{◌≡◌, ℕ, ◌-◌, ◌^◌, ◌<◌, List, None, map, option_and_then}
use Rattle.std.specs.Prelude.{slice_get}
use Rattle.std.specs.declared.cmp.Ordering.{Ordering}
use Rattle.std.specs.Ordering.{is_lt, nat_cmp, ordering_then}
use Rattle.geo_addr.specs.Ranges.{AreCuts, Ends}
use Rattle.first_index.specs.Boundaries.{told}
use Rattle.geo_terms.specs.First.{first_at}
use Rattle.first_index.specs.declared.boundaries.Boundary.{Boundary}

-- the first statement that holds an address is the one at the index that is told
abbrev pub TellsFirst : {X : Type 0} → (X → X → Ordering) → (X → Ends) → List X
    → List Boundary → Type 0
TellsFirst order range_of xs bs =
    (a : ℕ) → a < 2 ^ 128 → option_and_then (slice_get xs) (told None bs a)
    ≡ first_at (λ x y. is_lt (order x y)) range_of xs a

-- boundaries stand at the cut points of statements, and nowhere else
abbrev pub StandAtCuts : {X : Type 0} → (X → Ends) → List X → List Boundary → Type 0
StandAtCuts range_of xs bs =
    AreCuts (map range_of xs) (record { first = 0; last = 2 ^ 128 - 1 }) (map (λ b. b.at) bs)

-- the order of statements with their indexes: those that tie go by their indexes
abbrev pub index_cmp : {X : Type 0} → (X → X → Ordering) → ℕ × X → ℕ × X → Ordering
index_cmp order x y = ordering_then (order x.1 y.1) (nat_cmp x.0 y.0)

-- a boundary that tells an index where it told a rank, by the indexes of the ranks
abbrev pub with_index : List ℕ → Boundary → Boundary
with_index indexes b = record { at = b.at; first = option_and_then (slice_get indexes) b.first }
