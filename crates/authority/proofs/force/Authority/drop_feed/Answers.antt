use Rattle.std.proofs.Common.{◌∙◌, ap}
use Rattle.std.specs.List.{find}
use Rattle.geo_terms.specs.PlaceForm.{same_text}
use Rattle.geo_terms.specs.SourceForm.{FeedParts}
use Rattle.geo_terms.specs.Sources.{InForce}
use Rattle.authority.proofs.force.Authority.drop_feed.Goals as goal

pub returns-clause-old : goal.returns-clause-old
returns-clause-old c =
    c.in-Some.ensures ∙ c.take.ensures.old
    ∙ ap (λ (s : InForce). find (λ (f : FeedParts). same_text f.url c.args.url.now) s.feeds)
    c.self.view_is
