use Rattle.std.proofs.Common.{◌≡◌, ℕ, ◌∙◌, ap, sym, subst}
use Rattle.geo_addr.specs.Ranges.{IsRange, ground_first}
use Rattle.source_changes.proofs.Grounds.{ground_within}
use Rattle.source_changes.proofs.changed.ground_of.Goals as goal

pub invariant_of-result : goal.invariant_of-result
invariant_of-result c =
    let begins : c.ground_first.result
    ≡ ground_first (record { first = c.range.inside.first; last = c.range.inside.last }) =
    c.ground_first.ensures ∙ ap ground_first (sym c.range.view_is) in
    subst (λ (n : ℕ). IsRange (record { first = n; last = c.range.inside.last })) (sym begins)
    (ground_within (record { first = c.range.inside.first; last = c.range.inside.last })
    c.range.invariant)
