use Rattle.std.proofs.Common.{◌≡◌, ◌++◌, drop}
use Rattle.check_census.specs.Verdicts.{merged}
use Rattle.check_census.proofs.judging.merged.Given as goal

abbrev pub invariant-loop-index : goal.invariant-loop-index
invariant-loop-index l = l.verdicts.items
    ++ merged l.sources l.url (drop l.index l.entries) l.left
    ≡ merged l.sources l.url l.entries l.notes
