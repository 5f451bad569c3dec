-- What was found in the parts is what they say.
use Rattle.std.proofs.Common.{◌++◌, ◌∙◌, ap}
use Rattle.nro_stats.proofs.PartLemmas.{notes_by_parts, rows_by_parts}
use Rattle.nro_stats.proofs.parts.read_parts.Goals as goal

pub returns-clause-rows : goal.returns-clause-rows
returns-clause-rows g c =
    c.in_ok-put_all.ensures.rows
    ∙ ap (λ t. c.args.all.now.rows.items ++ t)
    (rows_by_parts c.args.slot.now c.args.parts.now _ c.in_ok-found.ensures.related)

pub returns-clause-notes : goal.returns-clause-notes
returns-clause-notes g c =
    c.in_ok-put_all.ensures.notes
    ∙ ap (λ t. c.args.all.now.notes.items ++ t)
    (notes_by_parts c.args.slot.now c.args.parts.now _ c.in_ok-found.ensures.related)
