-- The longest so far and the entries that are left give the longest of all.
use Rattle.std.proofs.Common.{◌≡◌, drop, fold}
use Rattle.std.specs.Option.{option_copied}
use Rattle.geo_terms.specs.First.{better, first_of}
use Rattle.geo_terms.specs.Precedence.{entry_before, entries_within}
use Rattle.first_index.proofs.plain.longest_within.Given as goal

abbrev pub invariant-loop-entry : goal.invariant-loop-entry
invariant-loop-entry l =
    fold (better entry_before) (option_copied l.longest)
    (entries_within (drop l.entry-index l.entries) l.range l.at.0)
    ≡ first_of entry_before (entries_within l.entries l.range l.at.0)
