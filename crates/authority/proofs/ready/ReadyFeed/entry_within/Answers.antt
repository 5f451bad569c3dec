use Rattle.std.proofs.Common.{◌≡◌, ◌∙◌, Some, None, ap, slice_get}
use Rattle.std.specs.Arc.{arc_value}
use Rattle.std.specs.Option.{option_and_then, option_copied}
use Rattle.first_index.specs.Boundaries.{told}
use Rattle.geo_terms.specs.First.{first_of}
use Rattle.geo_terms.specs.Precedence.{entries_within, entry_before}
use Rattle.geo_terms.specs.SourceForm.{FeedParts}
use Rattle.authority.specs.declared.kind_index.KindIndex.{KindIndex}
use Rattle.authority.proofs.EntryLemmas.{by_index, kept}
use Rattle.authority.proofs.ready.ReadyFeed.entry_within.Goals as goal

pub returns-in_err-entry : goal.returns-in_err-entry
returns-in_err-entry c =
    let f : FeedParts = arc_value c.self.inside.feed in
    let index : KindIndex = arc_value c.self.inside.index in
    let none : None ≡ option_and_then (slice_get f.entries) (told None index.firsts c.args.at.0) =
    c.in_err-entry.ensures.told
    ∙ ap (λ (g : FeedParts). option_and_then (slice_get g.entries)
    (told None c.deref-2.result.now.firsts c.args.at.0)) c.deref.ensures
    ∙ ap (λ (k : KindIndex). option_and_then (slice_get f.entries)
    (told None k.firsts c.args.at.0)) c.deref-2.ensures in
    ap option_copied c.from_residual.ensures ∙ ap (kept c.args.range) none
    ∙ by_index f index c.args.range c.args.at.0 c.self.invariant c.longest_at.ensures.range
    ∙ ap (λ (g : FeedParts). first_of entry_before
    (entries_within g.entries c.args.range c.args.at.0)) c.self.view_is

pub returns : goal.returns
returns c =
    let f : FeedParts = arc_value c.self.inside.feed in
    let index : KindIndex = arc_value c.self.inside.index in
    let some : Some c.in_ok-entry.entry.now
    ≡ option_and_then (slice_get f.entries) (told None index.firsts c.args.at.0) =
    c.in_ok-entry.ensures.told
    ∙ ap (λ (g : FeedParts). option_and_then (slice_get g.entries)
    (told None c.deref-2.result.now.firsts c.args.at.0)) c.deref.ensures
    ∙ ap (λ (k : KindIndex). option_and_then (slice_get f.entries)
    (told None k.firsts c.args.at.0)) c.deref-2.ensures in
    c.within.ensures ∙ ap (kept c.args.range) some
    ∙ by_index f index c.args.range c.args.at.0 c.self.invariant c.longest_at.ensures.range
    ∙ ap (λ (g : FeedParts). first_of entry_before
    (entries_within g.entries c.args.range c.args.at.0)) c.self.view_is
