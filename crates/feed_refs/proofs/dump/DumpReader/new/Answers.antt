-- Before the first byte nothing was found.
use Rattle.std.proofs.Common.{[], ap, sym}
use Rattle.feed_refs.specs.Readings.{Kept}
use Rattle.feed_refs.proofs.ReadingLemmas.{first_reading}
use Rattle.feed_refs.proofs.dump.DumpReader.new.Goals as goal

pub invariant_of-result : goal.invariant_of-result
invariant_of-result c =
    let k : Kept =
    record {
      reader = c.new.result;
      refs = c.new-2.result.refs.items;
      notes = c.new-2.result.notes.items;
    } in
    let first =
    first_reading c.in_ok-slot.slot k c.new.ensures c.new-2.ensures.refs
    c.new-2.ensures.notes in
    record {
      asked = c.in_ok-selection.ensures;
      counted = sym (ap (λ r. r.fed) c.new.ensures);
      fed = ([], (λ i. record { slot = c.in_ok-slot.slot; kept = first i }));
    }

pub returns : goal.returns
returns c =
    let k : Kept =
    record {
      reader = c.new.result;
      refs = c.new-2.result.refs.items;
      notes = c.new-2.result.notes.items;
    } in
    let first =
    first_reading c.args.slot.now k c.new.ensures c.new-2.ensures.refs c.new-2.ensures.notes in
    λ i. record { slot = c.in_ok-slot.ensures i; kept = first i }
