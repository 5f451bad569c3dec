use Rattle.std.proofs.Common.{◌∙◌, List, Some, None, ap, map, refl, subst, sym}
use Rattle.std.specs.Arc.{arc_value}
use Rattle.std.specs.List.{find}
use Rattle.geo_terms.specs.PlaceForm.{same_text}
use Rattle.geo_terms.specs.SlotOrder.{removed}
use Rattle.geo_terms.specs.SourceForm.{StatsParts}
use Rattle.precedence.specs.Delegations.{AreFiles}
use Rattle.precedence.proofs.StatisticsLemmas.{file_found, files_removed}
use Rattle.precedence.proofs.statistics.Statistics.remove.Goals as goal

pub invariant_of-self : goal.invariant_of-self
invariant_of-self c = record { slots = c.take.ensures.order; made = tt }

pub invariant_of-self-in-None : goal.invariant_of-self-in-None
invariant_of-self-in-None c =
    subst (λ ts. AreFiles ts c.self.inside.delegations) (sym (c.in-None.ensures.absent refl))
    c.self.invariant

pub returns-in-Some-clause-new : goal.returns-in-Some-clause-new
returns-in-Some-clause-new c =
    files_removed c.args.slot.now c.self.inside.files.items c.take.new.shelf.items
    c.take.ensures.new
    ∙ ap (λ (ts : List StatsParts). removed (λ t. t.slot) c.args.slot.now ts) c.self.view_is

pub returns-in-Some-clause-old : goal.returns-in-Some-clause-old
returns-in-Some-clause-old c =
    file_found c.args.slot.now c.self.inside.files.items (Some c.in-Some.old) c.in-Some.ensures.old
    ∙ ap (find (λ (t : StatsParts). same_text t.slot c.args.slot.now)) c.self.view_is

pub returns-in-None-clause-not_there : goal.returns-in-None-clause-not_there
returns-in-None-clause-not_there c = (
  refl,
  ap (find (λ (t : StatsParts). same_text t.slot c.args.slot.now)) (sym c.self.view_is)
      ∙ sym (file_found c.args.slot.now c.self.inside.files.items None c.in-None.ensures.old),
)

pub returns-in-None-clause-err : goal.returns-in-None-clause-err
returns-in-None-clause-err c =
    ap (λ ts. map (arc_value {X = StatsParts}) ts) (c.in-None.ensures.absent refl) ∙ c.self.view_is
