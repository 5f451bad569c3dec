-- What was found in the parts so far is put to what was found before.
use Rattle.std.proofs.Common.{◌≡◌, ◌++◌}
use Rattle.std.specs.List.{flat_map}
use Rattle.feed_csv.specs.Parts.{found_entries, found_faults}
use Rattle.feed_csv.proofs.parts.put_all.Given as goal

abbrev pub invariant-loop-part : goal.invariant-loop-part
invariant-loop-part l =
    (l.all.entries.items ≡ l.initial.all.entries.items ++ flat_map found_entries l.yielded)
    × (l.all.faults.items ≡ l.initial.all.faults.items ++ flat_map found_faults l.yielded)
