use Rattle.std.proofs.Common.{◌∙◌, ap, map, subst, sym}
use Rattle.std.specs.Arc.{arc_value}
use Rattle.geo_terms.specs.Covering.{covering}
use Rattle.geo_terms.specs.Sources.{InForce, references}
use Rattle.geo_terms.specs.SourceForm.{DumpParts}
use Rattle.authority.specs.Held.{AreMade, AreSpeakers, references_in}
use Rattle.authority.specs.declared.speakers.Speakers.{Speakers}
use Rattle.authority.proofs.force.Authority.covering.Goals as goal

pub returns-in-Some : goal.returns-in-Some
returns-in-Some c =
    let rs = references_in (map (arc_value {X = DumpParts}) c.self.inside.dumps.items) in
    let made : AreSpeakers rs (arc_value c.in-Some.made) =
    subst (λ o. AreMade rs o) c.in-Some.is c.self.invariant.made in
    c.covering.ensures
    ∙ ap (λ (k : Speakers). covering k.index c.args.url.now c.args.block) c.deref.ensures
    ∙ sym (made.index.covering c.args.url.now c.args.block)
    ∙ ap (λ (s : InForce). covering (references s) c.args.url.now c.args.block) c.self.view_is

pub returns-in-None : goal.returns-in-None
returns-in-None c =
    c.covering_of_all.ensures
    ∙ ap (λ ds. covering (references_in (map (arc_value {X = DumpParts}) ds)) c.args.url.now
    c.args.block) c.as_slice.ensures.value
    ∙ ap (λ (s : InForce). covering (references s) c.args.url.now c.args.block) c.self.view_is
