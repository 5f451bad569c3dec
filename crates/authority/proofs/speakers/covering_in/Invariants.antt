-- The first so far and the references that are left give the first of all.
use Rattle.std.proofs.Common.{◌≡◌, ◌&&◌, drop, fold}
use Rattle.std.specs.List.{filter}
use Rattle.std.specs.Option.{option_copied}
use Rattle.geo_terms.specs.First.{better}
use Rattle.geo_terms.specs.PlaceForm.{same_text}
use Rattle.geo_terms.specs.Precedence.{reference_before}
use Rattle.geo_terms.specs.Report.{covers}
use Rattle.authority.proofs.speakers.covering_in.Given as goal

abbrev pub invariant-loop-reference : goal.invariant-loop-reference
invariant-loop-reference l =
    fold (better reference_before) (option_copied l.first)
    (filter (λ r. same_text r.url l.url && covers r l.block) (drop l.reference-index l.refs))
    ≡ fold (better reference_before) (option_copied l.fn.found)
    (filter (λ r. same_text r.url l.url && covers r l.block) l.refs)
