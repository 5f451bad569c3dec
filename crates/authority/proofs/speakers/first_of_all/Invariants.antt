-- The first so far and the dumps that are left give the first of all.
use Rattle.std.proofs.Common.{◌≡◌, drop, fold, map}
use Rattle.std.specs.Arc.{arc_value}
use Rattle.std.specs.Option.{option_copied}
use Rattle.geo_terms.specs.First.{better, first_of, holders}
use Rattle.geo_terms.specs.Precedence.{reference_before}
use Rattle.authority.specs.Held.{references_in}
use Rattle.authority.proofs.speakers.first_of_all.Given as goal

abbrev pub invariant-loop-dump : goal.invariant-loop-dump
invariant-loop-dump l =
    fold (better reference_before) (option_copied l.first)
    (holders (λ r. r.range) (references_in (map arc_value (drop l.dump-index l.dumps))) l.at.0)
    ≡ first_of reference_before
    (holders (λ r. r.range) (references_in (map arc_value l.dumps)) l.at.0)
