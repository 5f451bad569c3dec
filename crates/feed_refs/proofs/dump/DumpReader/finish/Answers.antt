-- The end of the text ends its last object, and the notes are put in line order.
use Rattle.std.proofs.Common.{◌++◌, Ok, Err, refl, sym, ap, ◌∙◌}
use Rattle.std.proofs.lemmas.Result.{err_from_is_err_and}
use Rattle.geo_terms.specs.SourceForm.{DumpParts}
use Rattle.rpsl_reader.specs.Reading.{last}
use Rattle.rpsl_reader.specs.Selections.{wanted}
use Rattle.feed_refs.specs.Readings.{Kept}
use Rattle.feed_refs.proofs.FeedLemmas.{behind_fault, ends_in_form, ends_many, ends_ok}
use Rattle.feed_refs.proofs.FeedLemmas.{ends_read, fault_dump}
use Rattle.feed_refs.proofs.FeedLemmas.{is_faulty, no_fault, notes_are, refs_are}
use Rattle.feed_refs.proofs.dump.DumpReader.finish.Goals as goal

pub returns-in-Some-clause-answer : goal.returns-in-Some-clause-answer
returns-in-Some-clause-answer c = λ ne text h.
    let k : Kept =
    record {
      reader = c.self.inside.reader;
      refs = c.self.inside.found.refs.items;
      notes = c.self.inside.found.notes.items;
    } in
    fault_dump c.self.inside.slot c.in-Some.refusal c.args.self (is_faulty c.self.inside.slot k
    c.self.inside.fault c.in-Some.refusal c.in-Some.is c.args.self c.self.view_is) text h

pub returns-in-Some-clause-refused : goal.returns-in-Some-clause-refused
returns-in-Some-clause-refused c =
    let k : Kept =
    record {
      reader = c.self.inside.reader;
      refs = c.self.inside.found.refs.items;
      notes = c.self.inside.found.notes.items;
    } in
    behind_fault c.self.inside.slot c.in-Some.refusal c.args.self (is_faulty c.self.inside.slot k
    c.self.inside.fault c.in-Some.refusal c.in-Some.is c.args.self c.self.view_is) _ refl

pub returns-in_err-whole-clause-answer : goal.returns-in_err-whole-clause-answer
returns-in_err-whole-clause-answer c = λ ne text h.
    let k : Kept =
    record {
      reader = c.self.inside.reader;
      refs = c.self.inside.found.refs.items;
      notes = c.self.inside.found.notes.items;
    } in
    let all = wanted c.self.inside.selection (last k.reader.state) in
    let said =
    refs_are c.self.inside.slot all all (last k.reader.state) c.self.inside.selection refl refl
    c.self.invariant.asked c.in_ok-more.more.refs.items c.in_ok-more.ensures.refs in
    let p = err_from_is_err_and c.from_residual-in_err-whole.result
    c.from_residual-in_err-whole.ensures.1 in
    let is = p.1 ∙ ap (λ f. Err f) p.2 in
    let many = c.in_err-whole.ensures.many (λ e. ne (is ∙ ap (λ f. Err f) e)) in
    ends_read c.self.inside.slot k c.self.inside.fault c.in_default.is c.args.self c.self.view_is
    c.from_residual-in_err-whole.result
    (λ t o. is ∙ ap (λ f. Err f) many.0
    ∙ sym (ends_many c.self.inside.slot k c.in_ok-more.more.refs.items said many.1 t o))
    text h

pub invariant_of-result : goal.invariant_of-result
invariant_of-result c =
    let k : Kept =
    record {
      reader = c.self.inside.reader;
      refs = c.self.inside.found.refs.items;
      notes = c.self.inside.found.notes.items;
    } in
    let all = wanted c.self.inside.selection (last k.reader.state) in
    let said =
    refs_are c.self.inside.slot all all (last k.reader.state) c.self.inside.selection refl refl
    c.self.invariant.asked c.in_ok-more.more.refs.items c.in_ok-more.ensures.refs in
    let told =
    notes_are c.self.inside.slot all all (last k.reader.state) c.self.inside.selection refl refl
    c.self.invariant.asked c.in_ok-more.more.notes.items c.in_ok-more.ensures.notes in
    let raw = k.notes ++ c.in_ok-more.more.notes.items in
    let d : DumpParts =
    record { slot = c.self.inside.slot; refs = c.of.result; notes = c.of-2.result } in
    ends_in_form c.self.inside.slot k c.in_ok-more.more.refs.items said raw
    c.in_ok-whole.whole.notes.items (ap (λ t. k.notes ++ t) told) c.in_ok-whole.ensures.notes
    c.self.inside.fault c.in_default.is c.self.invariant.fed d refl
    (c.of.ensures ∙ c.in_ok-whole.ensures.refs) c.of-2.ensures

pub returns-clause-answer : goal.returns-clause-answer
returns-clause-answer c = λ ne text h.
    let k : Kept =
    record {
      reader = c.self.inside.reader;
      refs = c.self.inside.found.refs.items;
      notes = c.self.inside.found.notes.items;
    } in
    let all = wanted c.self.inside.selection (last k.reader.state) in
    let said =
    refs_are c.self.inside.slot all all (last k.reader.state) c.self.inside.selection refl refl
    c.self.invariant.asked c.in_ok-more.more.refs.items c.in_ok-more.ensures.refs in
    let told =
    notes_are c.self.inside.slot all all (last k.reader.state) c.self.inside.selection refl refl
    c.self.invariant.asked c.in_ok-more.more.notes.items c.in_ok-more.ensures.notes in
    let raw = k.notes ++ c.in_ok-more.more.notes.items in
    let d : DumpParts =
    record { slot = c.self.inside.slot; refs = c.of.result; notes = c.of-2.result } in
    ends_read c.self.inside.slot k c.self.inside.fault c.in_default.is c.args.self c.self.view_is
    (Ok d)
    (ends_ok c.self.inside.slot k c.in_ok-more.more.refs.items said raw
    c.in_ok-whole.whole.notes.items (ap (λ t. k.notes ++ t) told) c.in_ok-whole.ensures.notes
    c.in_ok-whole.ensures.few d refl (c.of.ensures ∙ c.in_ok-whole.ensures.refs) c.of-2.ensures)
    text h

pub returns-in_err-whole-clause-refused : goal.returns-in_err-whole-clause-refused
returns-in_err-whole-clause-refused c =
    let k : Kept =
    record {
      reader = c.self.inside.reader;
      refs = c.self.inside.found.refs.items;
      notes = c.self.inside.found.notes.items;
    } in
    no_fault c.self.inside.slot k c.self.inside.fault c.in_default.is c.args.self
    c.self.view_is _

pub returns-clause-refused : goal.returns-clause-refused
returns-clause-refused c =
    let k : Kept =
    record {
      reader = c.self.inside.reader;
      refs = c.self.inside.found.refs.items;
      notes = c.self.inside.found.notes.items;
    } in
    no_fault c.self.inside.slot k c.self.inside.fault c.in_default.is c.args.self
    c.self.view_is _
