use Rattle.std.proofs.Common.{◌≡◌, ◌++◌, drop}
use Rattle.authority.specs.Ranked.{uncovered_among}
use Rattle.authority.proofs.notes.push_uncovered_in.Given as goal

-- the notes on the entries that are left follow what was found
abbrev pub invariant-loop-entry : goal.invariant-loop-entry
invariant-loop-entry l =
    l.notes.items
    ++ uncovered_among l.index l.feed.url (drop l.entry-index l.feed.entries)
    ≡ l.fn.notes.items ++ uncovered_among l.index l.feed.url l.feed.entries
