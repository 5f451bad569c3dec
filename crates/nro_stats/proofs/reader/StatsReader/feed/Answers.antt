-- The piece stands behind what was left.
use Rattle.std.proofs.Common.{◌++◌, arith, refl, subst, sym}
use Rattle.nro_stats.specs.Reading.{Kept, WasFed}
use Rattle.nro_stats.proofs.ReadingLemmas.{fed_more, held_more}
use Rattle.nro_stats.proofs.reader.StatsReader.feed.Goals as goal

pub invariant_of-self-then-len-enough_for : goal.invariant_of-self-then-len-enough_for
invariant_of-self-then-len-enough_for g c =
    let k : Kept =
    record {
      slot = c.self.inside.slot;
      fed = c.self.inside.fed;
      before = c.self.inside.before;
      rows = c.self.inside.all.rows.items;
      notes = c.self.inside.all.notes.items;
      left = c.self.inside.left.items;
    } in
    held_more c.args.piece.now k _ _ c.self.invariant refl c.in_ok-put_behind.ensures.items
    (let few = c.self.invariant.few in omega (arith, few, c.if-piece-self.false))

pub invariant_of-self-else-len-enough_for : goal.invariant_of-self-else-len-enough_for
invariant_of-self-else-len-enough_for g c =
    let k : Kept =
    record {
      slot = c.self.inside.slot;
      fed = c.self.inside.fed;
      before = c.self.inside.before;
      rows = c.self.inside.all.rows.items;
      notes = c.self.inside.all.notes.items;
      left = c.self.inside.left.items;
    } in
    held_more c.args.piece.now k _ _ c.self.invariant refl c.in_ok-put_behind.ensures.items
    (let few = c.self.invariant.few in omega (arith, few, c.if-piece-self.false))

pub returns-in_ok-read_round-clause-read : goal.returns-in_ok-read_round-clause-read
returns-in_ok-read_round-clause-read g c = λ slot text fed.
    let k : Kept =
    record {
      slot = c.self.inside.slot;
      fed = c.self.inside.fed;
      before = c.self.inside.before;
      rows = c.self.inside.all.rows.items;
      notes = c.self.inside.all.notes.items;
      left = c.self.inside.left.items;
    } in
    c.in_ok-read_round.ensures slot (text ++ c.args.piece.now)
    (fed_more slot text c.args.piece.now k _ _ (subst (WasFed slot text) (sym c.self.view_is) fed)
    refl c.in_ok-put_behind.ensures.items)

pub returns-else-len-enough_for-clause-read : goal.returns-else-len-enough_for-clause-read
returns-else-len-enough_for-clause-read g c = λ slot text fed.
    let k : Kept =
    record {
      slot = c.self.inside.slot;
      fed = c.self.inside.fed;
      before = c.self.inside.before;
      rows = c.self.inside.all.rows.items;
      notes = c.self.inside.all.notes.items;
      left = c.self.inside.left.items;
    } in
    fed_more slot text c.args.piece.now k _ _ (subst (WasFed slot text) (sym c.self.view_is) fed)
    refl c.in_ok-put_behind.ensures.items
