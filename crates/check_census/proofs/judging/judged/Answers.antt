-- The lines of a feed's entries and notes rise, and none is of both.
use Rattle.std.proofs.Common.{◌≡◌, ℕ, List, map, ap, subst, sym, ◌∙◌}
use Rattle.std.specs.List.Sorted.{IsStrictlyIncreasing}
use Rattle.geo_terms.specs.SourceForm.{FeedParts}
use Rattle.geo_terms.specs.declared.statement.Entry.{Entry}
use Rattle.check_census.specs.Verdicts.{merged}
use Rattle.check_census.specs.declared.verdict.Verdict.{Verdict}
use Rattle.check_census.proofs.AscendLemmas.{verdicts_rise}
use Rattle.check_census.proofs.judging.judged.Goals as goal

pub returns-clause-ascending : goal.returns-clause-ascending
returns-clause-ascending c =
    let s = c.args.sources.now in
    let f : FeedParts = record {
      url = c.feed.inside.url;
      entries = c.feed.inside.entries;
      notes =
          c.feed.inside.notes;
    } in
    let is : c.in_ok-list.list.items
    ≡ merged s c.feed.inside.url c.feed.inside.entries c.feed.inside.notes =
    c.in_ok-list.ensures ∙ ap (λ (u : List ℕ). merged s u c.as_slice-entries.result.now
    c.as_slice-notes.result.now) c.as_str-url.ensures
    ∙ ap (λ (es : List Entry). merged s c.feed.inside.url es c.as_slice-notes.result.now)
    c.as_slice-entries.ensures ∙ ap
    (merged s c.feed.inside.url c.feed.inside.entries) c.as_slice-notes.ensures in
    subst (λ (vs : List Verdict). IsStrictlyIncreasing (map (λ (v : Verdict). v.line) vs)) (sym is)
    (verdicts_rise s f c.feed.invariant)
