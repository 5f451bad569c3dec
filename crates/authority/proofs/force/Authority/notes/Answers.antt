use Rattle.std.proofs.Common.{◌∙◌, List, ap}
use Rattle.std.specs.Arc.{arc_value}
use Rattle.geo_terms.specs.NoteText.{note_cmp}
use Rattle.geo_terms.specs.Report.{in_order}
use Rattle.geo_terms.specs.SourceForm.{FeedParts}
use Rattle.geo_terms.specs.Sources.{InForce, references}
use Rattle.authority.specs.Ranked.{joint_in}
use Rattle.authority.specs.declared.speakers.Speakers.{Speakers}
use Rattle.authority.proofs.NoteLemmas.{joint_alike}
use Rattle.authority.proofs.NoteOrder.{note_exact, note_total}
use Rattle.authority.proofs.Ordered.{order_alike}
use Rattle.authority.proofs.force.Authority.notes.Goals as goal

pub returns : goal.returns
returns c =
    c.in_ok-notes.ensures
    ∙ ap (λ (k : Speakers). in_order note_cmp (joint_in k.index c.as_slice.result.now))
    c.deref.ensures
    ∙ ap (λ (fs : List FeedParts). in_order note_cmp
    (joint_in (arc_value {X = Speakers} c.in_ok-made.made).index fs))
    (c.as_slice.ensures.value ∙ ap (λ (s : InForce). s.feeds) c.self.view_is)
    ∙ order_alike note_cmp note_total note_exact
    (joint_in (references c.args.self.now) c.args.self.now.feeds)
    (joint_in (arc_value {X = Speakers} c.in_ok-made.made).index c.args.self.now.feeds)
    (joint_alike (references c.args.self.now) (arc_value {X = Speakers} c.in_ok-made.made).index
    c.args.self.now.feeds c.in_ok-made.ensures.index)
