-- The first so far and the dumps that are left give the first of all.
use Rattle.std.proofs.Common.{◌≡◌, drop, fold, flat_map}
use Rattle.std.specs.Option.{option_copied}
use Rattle.geo_terms.specs.First.{better, first_of, holders}
use Rattle.geo_terms.specs.Precedence.{reference_before}
use Rattle.first_index.proofs.plain.speaker_at.Given as goal

abbrev pub invariant-loop-dump : goal.invariant-loop-dump
invariant-loop-dump l =
    fold (better reference_before) (option_copied l.first)
    (holders (λ r. r.range) (flat_map (λ d. d.refs) (drop l.dump-index l.dumps)) l.at.0)
    ≡ first_of reference_before (holders (λ r. r.range) (flat_map (λ d. d.refs) l.dumps) l.at.0)
