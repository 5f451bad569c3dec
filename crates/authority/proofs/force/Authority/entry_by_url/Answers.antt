use Rattle.std.proofs.Common.{◌∙◌, List, Some, ap}
use Rattle.std.specs.List.{find}
use Rattle.std.specs.Option.{option_copied}
use Rattle.geo_terms.specs.First.{first_of}
use Rattle.geo_terms.specs.PlaceForm.{same_text}
use Rattle.geo_terms.specs.Precedence.{entries_within, entry_before, entry_of, speaking_entry}
use Rattle.geo_terms.specs.SourceForm.{FeedParts}
use Rattle.geo_terms.specs.Sources.{InForce, entries_in}
use Rattle.authority.proofs.force.Authority.entry_by_url.Goals as goal

pub returns-in_err-speaker : goal.returns-in_err-speaker
unfolding speaking_entry
returns-in_err-speaker c =
    ap option_copied c.from_residual.ensures
    ∙ ap (λ o. entry_of c.args.self.now o c.args.at.0) c.in_err-speaker.ensures

pub returns : goal.returns
unfolding speaking_entry
returns c =
    c.entry_of.ensures
    ∙ ap (λ (fs : List FeedParts). first_of entry_before (entries_within (entries_in
    (find (λ (f : FeedParts). same_text f.url c.in_ok-speaker.speaker.now.url) fs))
    c.in_ok-speaker.speaker.now.range c.args.at.0)) c.as_slice.ensures.value
    ∙ ap (λ (s : InForce). entry_of s (Some c.in_ok-speaker.speaker.now) c.args.at.0) c.self.view_is
    ∙ ap (λ o. entry_of c.args.self.now o c.args.at.0) c.in_ok-speaker.ensures
