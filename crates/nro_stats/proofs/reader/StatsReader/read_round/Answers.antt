-- The lines that were read are put to those before, and the others are left.
use Rattle.std.proofs.Common.{◌+◌, ◌∙◌, ap, drop, length, refl, subst, sym}
use Rattle.nro_stats.specs.Reading.{Kept, WasFed}
use Rattle.nro_stats.proofs.ReadingLemmas.{found_there, held_none, held_read, joined_there}
use Rattle.nro_stats.proofs.ReadingLemmas.{left_over, read_more, split_there}
use Rattle.nro_stats.proofs.reader.StatsReader.read_round.Goals as goal

pub invariant_of-self-in-Err : goal.invariant_of-self-in-Err
invariant_of-self-in-Err g c =
    held_none c.self.inside.slot _ _ _ c.clear.ensures.items c.clear-in-Err.ensures.items
    c.clear-in-Err-2.ensures.items

pub invariant_of-self-2 : goal.invariant_of-self-2
invariant_of-self-2 g c =
    let k : Kept =
    record {
      slot = c.self.inside.slot;
      fed = c.self.inside.fed;
      before = c.self.inside.before;
      rows = c.self.inside.all.rows.items;
      notes = c.self.inside.all.notes.items;
      left = c.self.inside.left.items;
    } in
    let left =
    left_over c.whole_lines.result.0.now c.whole_lines.result.1.now c.as_slice.result.now
    c.let_go.new.bytes.items c.whole_lines.ensures.joined
    (c.let_go.ensures
    ∙ ap (drop (length c.whole_lines.result.0.now)) (sym c.as_slice.ensures.value)) in
    held_read k _ _ _ _ _ c.as_str.result.now c.self.invariant c.as_str.ensures refl
    (ap (λ n. c.self.inside.before + n) c.count_feeds.ensures)
    (found_there _ _ _ _ c.in-Ok.ensures.rows c.reserve.ensures.items) c.in-Ok.ensures.notes
    (split_there c.whole_lines.result.0.now c.whole_lines.result.1.now c.as_slice.result.now
    c.let_go.new.bytes.items k.left c.as_slice.ensures.value left c.whole_lines.ensures.lines)
    (joined_there c.whole_lines.result.0.now c.whole_lines.result.1.now c.as_slice.result.now
    c.let_go.new.bytes.items k.left c.whole_lines.ensures.joined c.as_slice.ensures.value left)

pub returns : goal.returns
returns g c = λ slot text fed.
    let k : Kept =
    record {
      slot = c.self.inside.slot;
      fed = c.self.inside.fed;
      before = c.self.inside.before;
      rows = c.self.inside.all.rows.items;
      notes = c.self.inside.all.notes.items;
      left = c.self.inside.left.items;
    } in
    let left =
    left_over c.whole_lines.result.0.now c.whole_lines.result.1.now c.as_slice.result.now
    c.let_go.new.bytes.items c.whole_lines.ensures.joined
    (c.let_go.ensures
    ∙ ap (drop (length c.whole_lines.result.0.now)) (sym c.as_slice.ensures.value)) in
    read_more slot text k _ _ _ _ _ c.as_str.result.now
    (subst (WasFed slot text) (sym c.self.view_is) fed) c.as_str.ensures refl
    (ap (λ n. c.self.inside.before + n) c.count_feeds.ensures)
    (found_there _ _ _ _ c.in-Ok.ensures.rows c.reserve.ensures.items) c.in-Ok.ensures.notes
    (split_there c.whole_lines.result.0.now c.whole_lines.result.1.now c.as_slice.result.now
    c.let_go.new.bytes.items k.left c.as_slice.ensures.value left c.whole_lines.ensures.lines)
