-- The lists are those of the file, which are in form.
use Rattle.std.proofs.Common.{◌∙◌, ap, filter_map}
use Rattle.nro_stats.specs.File.{note_of, row_of, rows}
use Rattle.nro_stats.proofs.FileLemmas.{stats_in_form}
use Rattle.nro_stats.proofs.read.read_stats.Goals as goal

pub invariant_of-result : goal.invariant_of-result
invariant_of-result c =
    stats_in_form c.args.slot.now c.args.bytes.now _ _ _ c.in_ok-slot.ensures
    (c.of-2.ensures ∙ c.in_ok-found.ensures.rows
    ∙ ap (filter_map (row_of c.in_ok-slot.slot)) c.whole.ensures
    ∙ ap (λ slot. rows slot c.args.bytes.now) c.in_ok-slot.ensures)
    (c.of-3.ensures ∙ c.in_ok-found.ensures.notes
    ∙ ap (filter_map note_of) c.whole.ensures)
