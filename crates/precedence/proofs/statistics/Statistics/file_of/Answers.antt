use Rattle.std.proofs.Common.{◌∙◌, Some, None, ap, map}
use Rattle.std.specs.Arc.{arc_value}
use Rattle.std.specs.List.{find}
use Rattle.std.specs.Option.{option_copied}
use Rattle.geo_terms.specs.PlaceForm.{same_text}
use Rattle.geo_terms.specs.SourceForm.{StatsParts}
use Rattle.precedence.proofs.StatisticsLemmas.{file_found}
use Rattle.precedence.proofs.statistics.Statistics.file_of.Goals as goal

pub returns-in_err-file : goal.returns-in_err-file
returns-in_err-file c =
    ap option_copied c.from_residual.ensures
    ∙ file_found c.args.slot.now c.as_slice.result.now None c.in_err-file.ensures
    ∙ ap (λ ts. find (λ (t : StatsParts). same_text t.slot c.args.slot.now)
    (map (arc_value {X = StatsParts}) ts)) c.as_slice.ensures.value
    ∙ ap (find (λ (t : StatsParts). same_text t.slot c.args.slot.now)) c.self.view_is

pub returns : goal.returns
returns c =
    ap Some c.deref.ensures
    ∙ file_found c.args.slot.now c.as_slice.result.now (Some c.in_ok-file.file.now)
    c.in_ok-file.ensures
    ∙ ap (λ ts. find (λ (t : StatsParts). same_text t.slot c.args.slot.now)
    (map (arc_value {X = StatsParts}) ts)) c.as_slice.ensures.value
    ∙ ap (find (λ (t : StatsParts). same_text t.slot c.args.slot.now)) c.self.view_is
