-- What was found in the parts so far is put to what was found before.
use Rattle.std.proofs.Common.{◌≡◌, ◌++◌}
use Rattle.std.specs.List.{flat_map}
use Rattle.nro_stats.specs.Parts.{found_notes, found_rows}
use Rattle.nro_stats.proofs.parts.put_all.Given as goal

abbrev pub invariant-loop-part : goal.invariant-loop-part
invariant-loop-part l =
    (l.all.rows.items ≡ l.initial.all.rows.items ++ flat_map found_rows l.yielded)
    × (l.all.notes.items ≡ l.initial.all.notes.items ++ flat_map found_notes l.yielded)
