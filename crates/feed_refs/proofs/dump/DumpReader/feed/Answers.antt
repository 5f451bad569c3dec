-- The reader stands for the text and the piece, by what the items of the piece say.
use Rattle.std.proofs.Common.{◌≡◌, ◌+◌, ◌-◌, ◌<◌, ◌≤◌, length, ap, refl, arith, ◌∙◌}
use Rattle.geo_terms.specs.declared.source.SourceFault.TheVariants.{TooLong, TooMany}
use Rattle.rpsl_reader.specs.Reading.{Fed, given}
use Rattle.feed_refs.specs.Dumps.{longest, most}
use Rattle.feed_refs.specs.Readings.{Kept}
use Rattle.feed_refs.proofs.FeedLemmas.{behind_fault, cut_is, fault_found, fault_held}
use Rattle.feed_refs.proofs.FeedLemmas.{fault_read, fed-le-longest}
use Rattle.feed_refs.proofs.FeedLemmas.{held_on, is_faulty, is_whole, leads_long, leads_many}
use Rattle.feed_refs.proofs.FeedLemmas.{leads_on, length-cut-le, no_fault, notes_are}
use Rattle.feed_refs.proofs.FeedLemmas.{read_on, refs_are}
use Rattle.feed_refs.proofs.dump.DumpReader.feed.Goals as goal

pub returns-in-Some-clause-read : goal.returns-in-Some-clause-read
returns-in-Some-clause-read c = λ ne text h.
    let k : Kept =
    record {
      reader = c.self.inside.reader;
      refs = c.self.inside.found.refs.items;
      notes = c.self.inside.found.notes.items;
    } in
    (fault_read c.self.inside.slot c.in-Some.fault c.args.self.now
    (is_faulty c.self.inside.slot k c.self.inside.fault c.in-Some.fault c.in-Some.is c.args.self.now
    c.self.view_is) text c.args.piece.now h).0

pub returns-in-Some-clause-answer : goal.returns-in-Some-clause-answer
returns-in-Some-clause-answer c = λ ne text h.
    let k : Kept =
    record {
      reader = c.self.inside.reader;
      refs = c.self.inside.found.refs.items;
      notes = c.self.inside.found.notes.items;
    } in
    (fault_read c.self.inside.slot c.in-Some.fault c.args.self.now
    (is_faulty c.self.inside.slot k c.self.inside.fault c.in-Some.fault c.in-Some.is c.args.self.now
    c.self.view_is) text c.args.piece.now h).1

pub returns-in-Some-clause-refused : goal.returns-in-Some-clause-refused
returns-in-Some-clause-refused c =
    let k : Kept =
    record {
      reader = c.self.inside.reader;
      refs = c.self.inside.found.refs.items;
      notes = c.self.inside.found.notes.items;
    } in
    behind_fault c.self.inside.slot c.in-Some.fault c.args.self.now
    (is_faulty c.self.inside.slot k c.self.inside.fault c.in-Some.fault c.in-Some.is c.args.self.now
    c.self.view_is) _ (refl, refl)

pub more_in_piece-requires : goal.more_in_piece-requires
more_in_piece-requires c =
    let k : Kept =
    record {
      reader = c.self.inside.reader;
      refs = c.self.inside.found.refs.items;
      notes = c.self.inside.found.notes.items;
    } in
    let few : k.reader.fed ≤ longest =
    fed-le-longest c.self.inside.slot k c.self.inside.fault c.in_default.is
    c.self.invariant.fed in
    let is =
    cut_is k.reader.fed c.self.inside.fed c.saturating_sub.result c.args.piece.now
    c.first_bytes-within.result.now c.first_bytes-within.ensures c.saturating_sub.ensures
    c.self.invariant.counted in
    let short : length c.first_bytes-within.result.now ≤ longest - k.reader.fed =
    length-cut-le k.reader.fed c.args.piece.now c.first_bytes-within.result.now is in
    omega arith

pub invariant_of-self-then-len-gt-MOST : goal.invariant_of-self-then-len-gt-MOST
invariant_of-self-then-len-gt-MOST c =
    let k : Kept =
    record {
      reader = c.self.inside.reader;
      refs = c.self.inside.found.refs.items;
      notes = c.self.inside.found.notes.items;
    } in
    let is =
    cut_is k.reader.fed c.self.inside.fed c.saturating_sub.result c.args.piece.now
    c.first_bytes-within.result.now c.first_bytes-within.ensures c.saturating_sub.ensures
    c.self.invariant.counted in
    let said =
    refs_are c.self.inside.slot _ _ (given k.reader.state c.first_bytes-within.result.now)
    c.self.inside.selection refl refl c.self.invariant.asked
    c.in_ok-progress.more.refs.items c.in_ok-progress.ensures.refs in
    let over : most < length k.refs + length c.in_ok-progress.more.refs.items = omega (
      arith,
      c.if-len-gt-MOST.true,
      c.len.ensures,
      c.len-2.ensures,
      c.self.inside.found.refs.ok,
      c.in_ok-progress.more.refs.ok,
    ) in
    record {
      asked = c.self.invariant.asked;
      counted = c.self.invariant.counted;
      fed =
          fault_held c.self.inside.slot k c.self.inside.fault c.in_default.is c.args.piece.now
          TooMany (leads_many c.self.inside.slot k c.args.piece.now c.first_bytes-within.result.now
          c.in_ok-progress.more.refs.items is said over) c.self.invariant.fed;
    }

pub returns-then-len-gt-MOST-clause-read : goal.returns-then-len-gt-MOST-clause-read
returns-then-len-gt-MOST-clause-read c = λ ne text h.
    let k : Kept =
    record {
      reader = c.self.inside.reader;
      refs = c.self.inside.found.refs.items;
      notes = c.self.inside.found.notes.items;
    } in
    let is =
    cut_is k.reader.fed c.self.inside.fed c.saturating_sub.result c.args.piece.now
    c.first_bytes-within.result.now c.first_bytes-within.ensures c.saturating_sub.ensures
    c.self.invariant.counted in
    let said =
    refs_are c.self.inside.slot _ _ (given k.reader.state c.first_bytes-within.result.now)
    c.self.inside.selection refl refl c.self.invariant.asked
    c.in_ok-progress.more.refs.items c.in_ok-progress.ensures.refs in
    let over : most < length k.refs + length c.in_ok-progress.more.refs.items = omega (
      arith,
      c.if-len-gt-MOST.true,
      c.len.ensures,
      c.len-2.ensures,
      c.self.inside.found.refs.ok,
      c.in_ok-progress.more.refs.ok,
    ) in
    (fault_found c.self.inside.slot k c.self.inside.fault c.in_default.is c.args.piece.now TooMany
    (leads_many c.self.inside.slot k c.args.piece.now c.first_bytes-within.result.now
    c.in_ok-progress.more.refs.items is said over) c.args.self.now c.self.view_is text h).0

pub returns-then-len-gt-MOST-clause-answer : goal.returns-then-len-gt-MOST-clause-answer
returns-then-len-gt-MOST-clause-answer c = λ ne text h.
    let k : Kept =
    record {
      reader = c.self.inside.reader;
      refs = c.self.inside.found.refs.items;
      notes = c.self.inside.found.notes.items;
    } in
    let is =
    cut_is k.reader.fed c.self.inside.fed c.saturating_sub.result c.args.piece.now
    c.first_bytes-within.result.now c.first_bytes-within.ensures c.saturating_sub.ensures
    c.self.invariant.counted in
    let said =
    refs_are c.self.inside.slot _ _ (given k.reader.state c.first_bytes-within.result.now)
    c.self.inside.selection refl refl c.self.invariant.asked
    c.in_ok-progress.more.refs.items c.in_ok-progress.ensures.refs in
    let over : most < length k.refs + length c.in_ok-progress.more.refs.items = omega (
      arith,
      c.if-len-gt-MOST.true,
      c.len.ensures,
      c.len-2.ensures,
      c.self.inside.found.refs.ok,
      c.in_ok-progress.more.refs.ok,
    ) in
    (fault_found c.self.inside.slot k c.self.inside.fault c.in_default.is c.args.piece.now TooMany
    (leads_many c.self.inside.slot k c.args.piece.now c.first_bytes-within.result.now
    c.in_ok-progress.more.refs.items is said over) c.args.self.now c.self.view_is text h).1

pub invariant_of-self-then-within-piece : goal.invariant_of-self-then-within-piece
invariant_of-self-then-within-piece c =
    let k : Kept =
    record {
      reader = c.self.inside.reader;
      refs = c.self.inside.found.refs.items;
      notes = c.self.inside.found.notes.items;
    } in
    let is =
    cut_is k.reader.fed c.self.inside.fed c.saturating_sub.result c.args.piece.now
    c.first_bytes-within.result.now c.first_bytes-within.ensures c.saturating_sub.ensures
    c.self.invariant.counted in
    let said =
    refs_are c.self.inside.slot _ _ (given k.reader.state c.first_bytes-within.result.now)
    c.self.inside.selection refl refl c.self.invariant.asked
    c.in_ok-progress.more.refs.items c.in_ok-progress.ensures.refs in
    let few : length k.refs + length c.in_ok-progress.more.refs.items ≤ most = omega (
      arith,
      c.if-len-gt-MOST.false,
      c.len.ensures,
      c.len-2.ensures,
      c.self.inside.found.refs.ok,
      c.in_ok-progress.more.refs.ok,
    ) in
    record {
      asked = c.self.invariant.asked;
      counted = c.self.invariant.counted;
      fed =
          fault_held c.self.inside.slot k c.self.inside.fault c.in_default.is c.args.piece.now
          TooLong (leads_long c.self.inside.slot k c.args.piece.now c.first_bytes-within.result.now
          c.in_ok-progress.more.refs.items is said few c.if-within-piece.true) c.self.invariant.fed;
    }

pub returns-then-within-piece-clause-read : goal.returns-then-within-piece-clause-read
returns-then-within-piece-clause-read c = λ ne text h.
    let k : Kept =
    record {
      reader = c.self.inside.reader;
      refs = c.self.inside.found.refs.items;
      notes = c.self.inside.found.notes.items;
    } in
    let is =
    cut_is k.reader.fed c.self.inside.fed c.saturating_sub.result c.args.piece.now
    c.first_bytes-within.result.now c.first_bytes-within.ensures c.saturating_sub.ensures
    c.self.invariant.counted in
    let said =
    refs_are c.self.inside.slot _ _ (given k.reader.state c.first_bytes-within.result.now)
    c.self.inside.selection refl refl c.self.invariant.asked
    c.in_ok-progress.more.refs.items c.in_ok-progress.ensures.refs in
    let few : length k.refs + length c.in_ok-progress.more.refs.items ≤ most = omega (
      arith,
      c.if-len-gt-MOST.false,
      c.len.ensures,
      c.len-2.ensures,
      c.self.inside.found.refs.ok,
      c.in_ok-progress.more.refs.ok,
    ) in
    (fault_found c.self.inside.slot k c.self.inside.fault c.in_default.is c.args.piece.now TooLong
    (leads_long c.self.inside.slot k c.args.piece.now c.first_bytes-within.result.now
    c.in_ok-progress.more.refs.items is said few c.if-within-piece.true) c.args.self.now
    c.self.view_is text h).0

pub returns-then-within-piece-clause-answer : goal.returns-then-within-piece-clause-answer
returns-then-within-piece-clause-answer c = λ ne text h.
    let k : Kept =
    record {
      reader = c.self.inside.reader;
      refs = c.self.inside.found.refs.items;
      notes = c.self.inside.found.notes.items;
    } in
    let is =
    cut_is k.reader.fed c.self.inside.fed c.saturating_sub.result c.args.piece.now
    c.first_bytes-within.result.now c.first_bytes-within.ensures c.saturating_sub.ensures
    c.self.invariant.counted in
    let said =
    refs_are c.self.inside.slot _ _ (given k.reader.state c.first_bytes-within.result.now)
    c.self.inside.selection refl refl c.self.invariant.asked
    c.in_ok-progress.more.refs.items c.in_ok-progress.ensures.refs in
    let few : length k.refs + length c.in_ok-progress.more.refs.items ≤ most = omega (
      arith,
      c.if-len-gt-MOST.false,
      c.len.ensures,
      c.len-2.ensures,
      c.self.inside.found.refs.ok,
      c.in_ok-progress.more.refs.ok,
    ) in
    (fault_found c.self.inside.slot k c.self.inside.fault c.in_default.is c.args.piece.now TooLong
    (leads_long c.self.inside.slot k c.args.piece.now c.first_bytes-within.result.now
    c.in_ok-progress.more.refs.items is said few c.if-within-piece.true) c.args.self.now
    c.self.view_is text h).1

pub invariant_of-self-2 : goal.invariant_of-self-2
invariant_of-self-2 c =
    let k : Kept =
    record {
      reader = c.self.inside.reader;
      refs = c.self.inside.found.refs.items;
      notes = c.self.inside.found.notes.items;
    } in
    let is =
    cut_is k.reader.fed c.self.inside.fed c.saturating_sub.result c.args.piece.now
    c.first_bytes-within.result.now c.first_bytes-within.ensures c.saturating_sub.ensures
    c.self.invariant.counted in
    let said =
    refs_are c.self.inside.slot _ _ (given k.reader.state c.first_bytes-within.result.now)
    c.self.inside.selection refl refl c.self.invariant.asked
    c.in_ok-progress.more.refs.items c.in_ok-progress.ensures.refs in
    let told =
    notes_are c.self.inside.slot _ _ (given k.reader.state c.first_bytes-within.result.now)
    c.self.inside.selection refl refl c.self.invariant.asked
    c.in_ok-progress.more.notes.items c.in_ok-progress.ensures.notes in
    let few : length k.refs + length c.in_ok-progress.more.refs.items ≤ most = omega (
      arith,
      c.if-len-gt-MOST.false,
      c.len.ensures,
      c.len-2.ensures,
      c.self.inside.found.refs.ok,
      c.in_ok-progress.more.refs.ok,
    ) in
    let next : Kept =
    record {
      reader = c.go_on.new.reader;
      refs = c.go_on.new.found.refs.items;
      notes = c.go_on.new.found.notes.items;
    } in
    let fed : next.reader.fed ≡ k.reader.fed + length c.first_bytes-within.result.now =
    ap (λ (r : Fed). r.fed) c.in_ok-go_on.ensures.reader ∙ c.in_ok-progress.ensures.fed in
    let leads =
    leads_on c.self.inside.slot k c.args.piece.now c.first_bytes-within.result.now
    c.in_ok-progress.more.refs.items is said few c.if-within-piece.false
    c.in_ok-progress.more.notes.items told next fed
    (ap (λ (r : Fed). r.state) c.in_ok-go_on.ensures.reader ∙ c.in_ok-progress.ensures.state)
    c.in_ok-go_on.ensures.refs c.in_ok-go_on.ensures.notes in
    let short : k.reader.fed ≤ longest =
    fed-le-longest c.self.inside.slot k c.self.inside.fault c.in_default.is
    c.self.invariant.fed in
    let whole =
    is_whole k.reader.fed c.args.piece.now c.first_bytes-within.result.now short is
    c.if-within-piece.false in
    record {
      asked = c.self.invariant.asked;
      counted = omega (arith, fed, c.self.invariant.counted, ap length whole.1);
      fed =
          held_on c.self.inside.slot k c.self.inside.fault c.in_default.is c.args.piece.now next
          leads c.self.invariant.fed;
    }

pub returns-clause-read : goal.returns-clause-read
returns-clause-read c = λ ne text h.
    let k : Kept =
    record {
      reader = c.self.inside.reader;
      refs = c.self.inside.found.refs.items;
      notes = c.self.inside.found.notes.items;
    } in
    let is =
    cut_is k.reader.fed c.self.inside.fed c.saturating_sub.result c.args.piece.now
    c.first_bytes-within.result.now c.first_bytes-within.ensures c.saturating_sub.ensures
    c.self.invariant.counted in
    let said =
    refs_are c.self.inside.slot _ _ (given k.reader.state c.first_bytes-within.result.now)
    c.self.inside.selection refl refl c.self.invariant.asked
    c.in_ok-progress.more.refs.items c.in_ok-progress.ensures.refs in
    let told =
    notes_are c.self.inside.slot _ _ (given k.reader.state c.first_bytes-within.result.now)
    c.self.inside.selection refl refl c.self.invariant.asked
    c.in_ok-progress.more.notes.items c.in_ok-progress.ensures.notes in
    let few : length k.refs + length c.in_ok-progress.more.refs.items ≤ most = omega (
      arith,
      c.if-len-gt-MOST.false,
      c.len.ensures,
      c.len-2.ensures,
      c.self.inside.found.refs.ok,
      c.in_ok-progress.more.refs.ok,
    ) in
    let next : Kept =
    record {
      reader = c.go_on.new.reader;
      refs = c.go_on.new.found.refs.items;
      notes = c.go_on.new.found.notes.items;
    } in
    let fed : next.reader.fed ≡ k.reader.fed + length c.first_bytes-within.result.now =
    ap (λ (r : Fed). r.fed) c.in_ok-go_on.ensures.reader ∙ c.in_ok-progress.ensures.fed in
    let leads =
    leads_on c.self.inside.slot k c.args.piece.now c.first_bytes-within.result.now
    c.in_ok-progress.more.refs.items is said few c.if-within-piece.false
    c.in_ok-progress.more.notes.items told next fed
    (ap (λ (r : Fed). r.state) c.in_ok-go_on.ensures.reader ∙ c.in_ok-progress.ensures.state)
    c.in_ok-go_on.ensures.refs c.in_ok-go_on.ensures.notes in
    (read_on c.self.inside.slot k c.self.inside.fault c.in_default.is c.args.piece.now next leads
    c.args.self.now c.self.view_is text h).0

pub returns-clause-answer : goal.returns-clause-answer
returns-clause-answer c = λ ne text h.
    let k : Kept =
    record {
      reader = c.self.inside.reader;
      refs = c.self.inside.found.refs.items;
      notes = c.self.inside.found.notes.items;
    } in
    let is =
    cut_is k.reader.fed c.self.inside.fed c.saturating_sub.result c.args.piece.now
    c.first_bytes-within.result.now c.first_bytes-within.ensures c.saturating_sub.ensures
    c.self.invariant.counted in
    let said =
    refs_are c.self.inside.slot _ _ (given k.reader.state c.first_bytes-within.result.now)
    c.self.inside.selection refl refl c.self.invariant.asked
    c.in_ok-progress.more.refs.items c.in_ok-progress.ensures.refs in
    let told =
    notes_are c.self.inside.slot _ _ (given k.reader.state c.first_bytes-within.result.now)
    c.self.inside.selection refl refl c.self.invariant.asked
    c.in_ok-progress.more.notes.items c.in_ok-progress.ensures.notes in
    let few : length k.refs + length c.in_ok-progress.more.refs.items ≤ most = omega (
      arith,
      c.if-len-gt-MOST.false,
      c.len.ensures,
      c.len-2.ensures,
      c.self.inside.found.refs.ok,
      c.in_ok-progress.more.refs.ok,
    ) in
    let next : Kept =
    record {
      reader = c.go_on.new.reader;
      refs = c.go_on.new.found.refs.items;
      notes = c.go_on.new.found.notes.items;
    } in
    let fed : next.reader.fed ≡ k.reader.fed + length c.first_bytes-within.result.now =
    ap (λ (r : Fed). r.fed) c.in_ok-go_on.ensures.reader ∙ c.in_ok-progress.ensures.fed in
    let leads =
    leads_on c.self.inside.slot k c.args.piece.now c.first_bytes-within.result.now
    c.in_ok-progress.more.refs.items is said few c.if-within-piece.false
    c.in_ok-progress.more.notes.items told next fed
    (ap (λ (r : Fed). r.state) c.in_ok-go_on.ensures.reader ∙ c.in_ok-progress.ensures.state)
    c.in_ok-go_on.ensures.refs c.in_ok-go_on.ensures.notes in
    (read_on c.self.inside.slot k c.self.inside.fault c.in_default.is c.args.piece.now next leads
    c.args.self.now c.self.view_is text h).1

pub returns-then-len-gt-MOST-clause-refused : goal.returns-then-len-gt-MOST-clause-refused
returns-then-len-gt-MOST-clause-refused c =
    let k : Kept =
    record {
      reader = c.self.inside.reader;
      refs = c.self.inside.found.refs.items;
      notes = c.self.inside.found.notes.items;
    } in
    no_fault c.self.inside.slot k c.self.inside.fault c.in_default.is c.args.self.now
    c.self.view_is _

pub returns-then-within-piece-clause-refused : goal.returns-then-within-piece-clause-refused
returns-then-within-piece-clause-refused c =
    let k : Kept =
    record {
      reader = c.self.inside.reader;
      refs = c.self.inside.found.refs.items;
      notes = c.self.inside.found.notes.items;
    } in
    no_fault c.self.inside.slot k c.self.inside.fault c.in_default.is c.args.self.now
    c.self.view_is _

pub returns-clause-refused : goal.returns-clause-refused
returns-clause-refused c =
    let k : Kept =
    record {
      reader = c.self.inside.reader;
      refs = c.self.inside.found.refs.items;
      notes = c.self.inside.found.notes.items;
    } in
    no_fault c.self.inside.slot k c.self.inside.fault c.in_default.is c.args.self.now
    c.self.view_is _
