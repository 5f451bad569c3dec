use Rattle.std.proofs.Common.{◌<◌, length, arith}
use Rattle.feed_refs.specs.Dumps.{notes_of, references_of}
use Rattle.feed_refs.proofs.ItemLemmas.{taken}
use Rattle.feed_refs.proofs.found.RefsAndNotes.of.Goals as goal

pub loop-index-preserved : goal.loop-index-preserved
loop-index-preserved c =
    let inside : c.loop-index.index < length c.args.seen.now.items = omega (
      arith,
      c.loop-index-test.true,
      c.len-index-end.ensures,
    ) in (
      taken (references_of c.args.slot.now) c.args.seen.now.items c.loop-index.found.refs.items
          c.take_item.new.found.refs.items _ c.at.result c.loop-index.index inside
          (c.at.ensures c.at.result) c.in_ok-take_item.ensures.refs c.loop-index.invariant.0,
      taken (notes_of c.args.slot.now) c.args.seen.now.items c.loop-index.found.notes.items
          c.take_item.new.found.notes.items _ c.at.result c.loop-index.index inside
          (c.at.ensures c.at.result) c.in_ok-take_item.ensures.notes c.loop-index.invariant.1,
    )
