-- The first so far and the dumps that are left give the first of all.
use Rattle.std.proofs.Common.{◌≡◌, ◌&&◌, drop, fold, map}
use Rattle.std.specs.Arc.{arc_value}
use Rattle.std.specs.List.{filter}
use Rattle.std.specs.Option.{option_copied}
use Rattle.geo_terms.specs.Covering.{covering}
use Rattle.geo_terms.specs.First.{better}
use Rattle.geo_terms.specs.PlaceForm.{same_text}
use Rattle.geo_terms.specs.Precedence.{reference_before}
use Rattle.geo_terms.specs.Report.{covers}
use Rattle.authority.specs.Held.{references_in}
use Rattle.authority.proofs.speakers.covering_of_all.Given as goal

abbrev pub invariant-loop-dump : goal.invariant-loop-dump
invariant-loop-dump l =
    fold (better reference_before) (option_copied l.first)
    (filter (λ r. same_text r.url l.url && covers r l.block)
    (references_in (map arc_value (drop l.dump-index l.dumps))))
    ≡ covering (references_in (map arc_value l.dumps)) l.url l.block
