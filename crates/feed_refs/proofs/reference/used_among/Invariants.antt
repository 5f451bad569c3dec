use Rattle.std.proofs.Common.{filter, take}
use Rattle.feed_refs.specs.Kinds.{is_of_kind}
use Rattle.feed_refs.specs.Used.{IsUsed}
use Rattle.feed_refs.proofs.reference.used_among.Given as goal

abbrev pub invariant-loop-attribute : goal.invariant-loop-attribute
invariant-loop-attribute l =
    IsUsed (filter (is_of_kind l.kind) (take l.attribute-index l.parts)) l.used
