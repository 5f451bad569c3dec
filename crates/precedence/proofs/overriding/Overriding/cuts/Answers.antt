use Rattle.std.proofs.Common.{◌∙◌, Option, ap, map, subst, sym}
use Rattle.std.specs.Arc.{arc_value}
use Rattle.std.specs.Option.{option_map}
use Rattle.geo_terms.specs.Precedence.{override_cmp}
use Rattle.geo_terms.specs.SourceForm.{OverridesParts}
use Rattle.geo_terms.specs.Sources.{rows_in}
use Rattle.geo_terms.specs.declared.statement.Override.{Override}
use Rattle.first_index.specs.declared.boundaries.Boundary.{Boundary}
use Rattle.source_changes.specs.CutPoints.{AreCutsOf}
use Rattle.authority.proofs.CutLemmas.{cuts_told}
use Rattle.authority.specs.Kinds.{IsKindIndex}
use Rattle.authority.specs.declared.kind_index.KindIndex.{KindIndex}
use Rattle.precedence.specs.Rows.{AreHeld, overrides_of}
use Rattle.precedence.proofs.overriding.Overriding.cuts.Goals as goal

pub returns-in-Some : goal.returns-in-Some
returns-in-Some c =
    let held = c.in-Some.held in
    let kept : IsKindIndex override_cmp (λ (o : Override). o.range)
    (arc_value held.overrides).rows (arc_value held.index) =
    subst AreHeld c.in-Some.is c.self.invariant in
    subst (λ (o : Option OverridesParts). AreCutsOf (map (λ (r : Override). r.range) (rows_in o))
    c.cuts.result.now) (ap (option_map overrides_of) (sym c.in-Some.is) ∙ c.self.view_is)
    (cuts_told (λ (o : Override). o.range) (arc_value held.overrides).rows
    (arc_value held.index).firsts c.cuts.result.now kept.cuts
    (c.cuts.ensures.same
    ∙ ap (λ (k : KindIndex). map (λ (b : Boundary). b.at) k.firsts) c.deref.ensures)
    c.cuts.ensures.ascending)
