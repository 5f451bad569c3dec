-- What was found and what the items that are left say is what all of them say.
use Rattle.std.proofs.Common.{◌≡◌, ◌++◌, drop}
use Rattle.std.specs.List.{flat_map}
use Rattle.feed_refs.specs.Dumps.{notes_of, references_of}
use Rattle.feed_refs.proofs.found.RefsAndNotes.of.Given as goal

abbrev pub invariant-loop-index : goal.invariant-loop-index
invariant-loop-index l =
    (l.found.refs.items ++ flat_map (references_of l.slot) (drop l.index l.seen.items)
    ≡ flat_map (references_of l.slot) l.seen.items)
    × (l.found.notes.items ++ flat_map (notes_of l.slot) (drop l.index l.seen.items)
    ≡ flat_map (notes_of l.slot) l.seen.items)
