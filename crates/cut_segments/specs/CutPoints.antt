-- The cut points of a list of ranges inside bounds.
use Rattle.std.specs.Prelude.{ℕ, ◌↔◌, List, Any, Contains}
use Rattle.geo_addr.specs.Ranges.{Ends, IsCut, IsWithin}
use Rattle.source_changes.specs.CutPoints.{whole}

-- the cut points of a list of ranges that lie inside one of several bounds
abbrev pub AreCutsInside : List Ends → List Ends → List ℕ → Type 0
AreCutsInside ranges bounds points =
    (c : ℕ)
    → Contains points c ↔ ((IsCut ranges c × IsWithin whole c) × Any (λ r. IsWithin r c) bounds)
