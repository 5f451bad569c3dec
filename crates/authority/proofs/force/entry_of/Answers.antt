use Rattle.std.proofs.Common.{◌≡◌, ◌∙◌, ℕ, List, Option, Some, None, ap, subst}
use Rattle.std.specs.List.{find}
use Rattle.std.specs.Option.{option_copied}
use Rattle.geo_terms.specs.First.{first_of}
use Rattle.geo_terms.specs.PlaceForm.{same_text}
use Rattle.geo_terms.specs.Precedence.{entries_within, entry_before}
use Rattle.geo_terms.specs.SourceForm.{FeedParts}
use Rattle.geo_terms.specs.Sources.{entries_in}
use Rattle.authority.proofs.force.entry_of.Goals as goal

pub returns-in_err-feed : goal.returns-in_err-feed
returns-in_err-feed c =
    let found : None ≡ find (λ (f : FeedParts). same_text f.url c.args.speaker.now.url)
    c.args.feeds.now =
    subst (λ (u : List ℕ). None ≡ find (λ (f : FeedParts). same_text f.url u) c.args.feeds.now)
    c.as_str.ensures c.in_err-feed.ensures in
    ap option_copied c.from_residual.ensures ∙ ap (λ (o : Option FeedParts). first_of entry_before
    (entries_within (entries_in o) c.args.speaker.now.range c.args.at.0)) found

pub returns : goal.returns
returns c =
    let found : Some c.in_ok-feed.feed.now
    ≡ find (λ (f : FeedParts). same_text f.url c.args.speaker.now.url) c.args.feeds.now =
    subst (λ (u : List ℕ). Some c.in_ok-feed.feed.now
    ≡ find (λ (f : FeedParts). same_text f.url u) c.args.feeds.now)
    c.as_str.ensures c.in_ok-feed.ensures in
    c.entry_within.ensures ∙ ap (λ (o : Option FeedParts). first_of entry_before
    (entries_within (entries_in o) c.args.speaker.now.range c.args.at.0)) found
