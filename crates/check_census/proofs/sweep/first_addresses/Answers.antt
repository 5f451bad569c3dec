-- The pass goes over all cut points, with the lines of all entries.
use Rattle.std.proofs.Common.{◌≡◌, ◌++◌, ℕ, List, map, ap, subst, ◌∙◌}
use Rattle.geo_addr.specs.Ranges.{AreCuts, Ends, range_of_block}
use Rattle.geo_terms.specs.SourceForm.{FeedParts}
use Rattle.geo_terms.specs.Sources.{entries_in, feed_of, references}
use Rattle.geo_terms.specs.declared.statement.Entry.{Entry}
use Rattle.geo_terms.specs.declared.statement.Reference.{Reference}
use Rattle.check_census.specs.Sweep.{all_addresses, hearing_ranges, swept}
use Rattle.check_census.specs.Verdicts.{first_heard}
use Rattle.check_census.proofs.SweepLemmas.{map_map, swept_all}
use Rattle.check_census.proofs.sweep.first_addresses.Goals as goal

pub returns : goal.returns
returns c =
    let s = c.args.sources.now in
    let f = c.args.feed.now in
    let url : c.as_str-url.result.now ≡ c.args.feed.now.url =
    c.as_str-url.ensures ∙ ap (λ (g : FeedParts). g.url) c.feed.view_is in
    let entries : c.as_slice.result.now ≡ c.args.feed.now.entries =
    c.as_slice.ensures ∙ ap (λ (g : FeedParts). g.entries) c.feed.view_is in
    let lines : c.as_slice-2.result.now ≡ map (λ (e : Entry). e.line) c.args.feed.now.entries =
    c.as_slice-2.ensures.value ∙ c.in_ok-lines.ensures ∙ ap (map (λ (e : Entry). e.line)) entries in
    let there : entries_in (feed_of s c.as_str-url.result.now) ≡ f.entries =
    ap (λ (u : List ℕ). entries_in (feed_of s u)) url ∙ ap entries_in c.requires in
    let cuts : AreCuts (hearing_ranges s f.entries) all_addresses c.in_ok-points.points.items =
    subst (λ (es : List Entry). AreCuts (hearing_ranges s es) all_addresses
    c.in_ok-points.points.items) there
    (subst (λ (more : List Ends). AreCuts (map (λ (r : Reference). r.range) (references s)
    ++ (map (λ (e : Entry). range_of_block e.block)
    (entries_in (feed_of s c.as_str-url.result.now)) ++ more)) all_addresses
    c.in_ok-points.points.items) c.fixed_ranges.ensures c.in_ok-points.ensures.exact) in
    c.in_ok-firsts.ensures ∙ ap (λ
    (u : List ℕ). swept s u c.as_slice-2.result.now c.as_slice-3.result.now) url
    ∙ ap (λ (ls : List ℕ). swept s f.url ls c.as_slice-3.result.now) lines
    ∙ ap (swept s f.url (map (λ (e : Entry). e.line) f.entries)) c.as_slice-3.ensures.value
    ∙ swept_all s f c.requires (map (λ (e : Entry). e.line) f.entries) c.in_ok-points.points.items
    cuts c.in_ok-points.ensures.ascending
    ∙ map_map (first_heard s f.url) (λ (e : Entry). e.line) f.entries
