-- The overrides in force, with the index of their rows.
use Rattle.std.specs.Prelude.{⊤, Option, Some, None}
use Rattle.std.specs.Arc.{arc_value}
use Rattle.geo_terms.specs.Precedence.{override_cmp}
use Rattle.geo_terms.specs.SourceForm.{OverridesParts}
use Rattle.authority.specs.Kinds.{IsKindIndex}
use Rattle.precedence.specs.declared.overriding.Held.{Held}

abbrev pub overrides_of : Held → OverridesParts
overrides_of held = arc_value held.overrides

-- what is kept where overrides are in force
abbrev pub AreHeld : Option Held → Type 0
AreHeld None = ⊤
AreHeld (Some held) =
    IsKindIndex override_cmp (λ o. o.range) (arc_value held.overrides).rows (arc_value held.index)
