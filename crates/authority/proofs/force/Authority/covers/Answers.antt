use Rattle.std.proofs.Common.{◌∙◌, ap, map, subst, sym}
use Rattle.std.specs.Arc.{arc_value}
use Rattle.std.specs.Prelude.{is_some}
use Rattle.geo_terms.specs.Covering.{covering}
use Rattle.geo_terms.specs.Report.{is_covered}
use Rattle.geo_terms.specs.Sources.{InForce, references}
use Rattle.geo_terms.specs.SourceForm.{DumpParts}
use Rattle.authority.specs.Held.{AreMade, AreSpeakers, references_in}
use Rattle.authority.specs.declared.speakers.Speakers.{Speakers}
use Rattle.authority.proofs.CoverLemmas.{covered_by_one, still_there}
use Rattle.authority.proofs.force.Authority.covers.Goals as goal

pub returns-in-Some : goal.returns-in-Some
returns-in-Some c =
    let rs = references_in (map (arc_value {X = DumpParts}) c.self.inside.dumps.items) in
    let made : AreSpeakers rs (arc_value c.in-Some.made) =
    subst (λ o. AreMade rs o) c.in-Some.is c.self.invariant.made in
    c.covers.ensures
    ∙ ap (λ (k : Speakers). is_covered k.index c.args.url.now c.args.block) c.deref.ensures
    ∙ sym (made.index.covered c.args.url.now c.args.block)
    ∙ sym (covered_by_one rs c.args.url.now c.args.block)
    ∙ ap (λ (s : InForce). is_some (covering (references s) c.args.url.now c.args.block))
    c.self.view_is

pub returns-in-None : goal.returns-in-None
returns-in-None c =
    c.is_some.ensures ∙ still_there c.covering_of_all.result (λ x. x.now)
    ∙ ap is_some c.covering_of_all.ensures
    ∙ ap (λ ds. is_some (covering (references_in (map (arc_value {X = DumpParts}) ds))
    c.args.url.now c.args.block)) c.as_slice.ensures.value
    ∙ ap (λ (s : InForce). is_some (covering (references s) c.args.url.now c.args.block))
    c.self.view_is
