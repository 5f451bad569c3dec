use Rattle.std.proofs.Common.{◌≡◌, ◌++◌, drop}
use Rattle.authority.specs.Ranked.{unfed_in}
use Rattle.authority.proofs.notes.push_unfed.Given as goal

-- the notes on the references that are left follow what was found
abbrev pub invariant-loop-reference : goal.invariant-loop-reference
invariant-loop-reference l =
    l.notes.items ++ unfed_in (drop l.reference-index l.refs) l.feeds
    ≡ l.fn.notes.items ++ unfed_in l.refs l.feeds
