-- The first so far and the files that are left give the first of all.
use Rattle.std.proofs.Common.{◌≡◌, drop, fold, flat_map}
use Rattle.std.specs.Option.{option_copied}
use Rattle.geo_terms.specs.First.{better, first_of, holders}
use Rattle.geo_terms.specs.Precedence.{delegation_before}
use Rattle.first_index.proofs.plain.delegation_at.Given as goal

abbrev pub invariant-loop-file : goal.invariant-loop-file
invariant-loop-file l =
    fold (better delegation_before) (option_copied l.first)
    (holders (λ d. d.range) (flat_map (λ t. t.rows) (drop l.file-index l.stats)) l.at.0)
    ≡ first_of delegation_before (holders (λ d. d.range) (flat_map (λ t. t.rows) l.stats) l.at.0)
