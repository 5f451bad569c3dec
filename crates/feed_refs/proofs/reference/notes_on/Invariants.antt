-- What was noted and what the attributes that are left give is what all of them give.
use Rattle.std.proofs.Common.{◌≡◌, ◌++◌, false, drop}
use Rattle.feed_refs.specs.References.{notes_from}
use Rattle.feed_refs.proofs.reference.notes_on.Given as goal

abbrev pub invariant-loop-attribute : goal.invariant-loop-attribute
invariant-loop-attribute l =
    l.notes.items ++ notes_from l.kind l.used l.seen (drop l.attribute-index l.parts) ≡
    notes_from l.kind l.used false l.parts
