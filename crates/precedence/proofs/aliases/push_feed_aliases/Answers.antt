use Rattle.std.proofs.Common.{◌∙◌, ◌++◌, List, ap}
use Rattle.std.specs.List.{flat_map}
use Rattle.geo_addr.specs.Ranges.{range_of_block}
use Rattle.geo_terms.specs.Report.{alias_note}
use Rattle.geo_terms.specs.SourceForm.{FeedParts}
use Rattle.geo_terms.specs.declared.note.Note.{Note}
use Rattle.geo_terms.specs.declared.note.Origin.{Origin}
use Rattle.precedence.proofs.SharedLemmas.{next_of}
use Rattle.precedence.proofs.aliases.push_feed_aliases.Goals as goal

pub loop-ready-preserved : goal.loop-ready-preserved
loop-ready-preserved c =
    let make : FeedParts → List Note = λ (f : FeedParts).
    flat_map (λ e. alias_note (Origin.Feed f.url) (range_of_block e.block) e.line) f.entries in
    next_of make c.args.feeds.now c.loop-ready.ready-index
    c.ready-item.result c.loop-ready.notes.items c.note_entries.new.notes.items
    (c.args.notes.now.items ++ flat_map make c.args.feeds.now)
    c.loop-ready-test.true c.ready-item.is c.loop-ready.invariant
    (c.in_ok-note_entries.ensures
    ∙ ap (λ (f : FeedParts). c.loop-ready.notes.items ++ make f) c.feed.ensures.feed)
