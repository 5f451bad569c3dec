use Rattle.std.proofs.Common.{◌∙◌, ap, map, subst, sym}
use Rattle.std.specs.Arc.{arc_value}
use Rattle.geo_terms.specs.First.{first_at}
use Rattle.geo_terms.specs.Precedence.{reference_before, speaker}
use Rattle.geo_terms.specs.Sources.{InForce}
use Rattle.geo_terms.specs.SourceForm.{DumpParts}
use Rattle.authority.specs.Held.{AreMade, AreSpeakers, references_in}
use Rattle.authority.specs.declared.speakers.Speakers.{Speakers}
use Rattle.authority.proofs.force.Authority.speaker_at.Goals as goal

pub returns-in-Some : goal.returns-in-Some
unfolding speaker
returns-in-Some c =
    let rs = references_in (map (arc_value {X = DumpParts}) c.self.inside.dumps.items) in
    let made : AreSpeakers rs (arc_value c.in-Some.made) =
    subst (λ o. AreMade rs o) c.in-Some.is c.self.invariant.made in
    c.best_at.ensures
    ∙ ap (λ (k : Speakers). first_at reference_before (λ r. r.range) k.index c.args.at.0)
    c.deref.ensures
    ∙ sym (made.index.best c.args.at.0)
    ∙ ap (λ (s : InForce). speaker s c.args.at.0) c.self.view_is

pub returns-in-None : goal.returns-in-None
unfolding speaker
returns-in-None c =
    c.first_of_all.ensures
    ∙ ap (λ ds. first_at reference_before (λ r. r.range)
    (references_in (map (arc_value {X = DumpParts}) ds)) c.args.at.0) c.as_slice.ensures.value
    ∙ ap (λ (s : InForce). speaker s c.args.at.0) c.self.view_is
