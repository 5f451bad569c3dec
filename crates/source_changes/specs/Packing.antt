-- How grounds are packed: those of IPv4 addresses in pairs of numbers, and the others beside them.
use Rattle.std.specs.Prelude.{◌≡◌, Bool, nat_lt, if◌then◌else◌, List, [], ◌∷◌, filter, length}
use Rattle.geo_addr.specs.Ranges.{Ends}
use Rattle.source_changes.specs.declared.ground_list.Packed.{Packed}

-- whether a pair is no ground, but the place of one that stands beside
abbrev pub is_place : Packed → Bool
is_place p = nat_lt p.last p.first

-- the ground that a pair is
abbrev pub ends_of : Packed → Ends
ends_of p = record { first = p.first; last = p.last }

-- the grounds in their order: at each place the next of those beside
unfoldable pub unpacked : List Packed → List Ends → List Ends
unpacked [] others = []
unpacked (p ∷ ps) [] = if is_place p then [] else ends_of p ∷ unpacked ps []
unpacked (p ∷ ps) (r ∷ rs) =
    if is_place p then r ∷ unpacked ps rs else ends_of p ∷ unpacked ps (r ∷ rs)

-- there is a place for each of those beside
abbrev pub ArePlaced : List Packed → List Ends → Type 0
ArePlaced packed others = length (filter is_place packed) ≡ length others
