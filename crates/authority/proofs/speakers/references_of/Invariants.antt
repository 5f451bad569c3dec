use Rattle.std.proofs.Common.{◌≡◌, ◌++◌, drop, map}
use Rattle.std.specs.Arc.{arc_value}
use Rattle.authority.specs.Held.{references_in}
use Rattle.authority.proofs.speakers.references_of.Given as goal

-- the references of the dumps that are left follow what was found
abbrev pub invariant-loop-dump : goal.invariant-loop-dump
invariant-loop-dump l =
    l.refs.items ++ references_in (map arc_value (drop l.dump-index l.dumps))
    ≡ references_in (map arc_value l.dumps)
