use Rattle.std.proofs.Common.{List, Contains, sym, subst}
use Rattle.std.specs.List.{All}
use Rattle.std.proofs.lemmas.List.Sorted.{IsPermutation-refl}
use Rattle.geo_addr.specs.Ranges.{Ends, IsRange}
use Rattle.cut_segments.specs.Segments.{AreSegments, starts_of}
use Rattle.cut_segments.proofs.SegmentLemmas.{begun_of_sorted, segments_of_sorted}
use Rattle.cut_segments.proofs.segments.segments_of.Goals as goal

pub returns-clause-segments : goal.returns-clause-segments
returns-clause-segments c =
    let touched = c.args.touched.now in
    let points = c.args.points.now in
    let found = c.in_ok-pieces.ensures.found in
    subst (λ (out : List Ends). AreSegments touched points out) (sym found)
    (segments_of_sorted touched touched points (IsPermutation-refl touched)
    c.requires.order c.requires.ascending
    (subst (λ (out : List Ends). All IsRange out) found c.in_ok-pieces.ensures.ranges))

pub returns-clause-begun : goal.returns-clause-begun
returns-clause-begun c =
    let touched = c.args.touched.now in
    let points = c.args.points.now in
    subst (λ (out : List Ends). All (λ (r : Ends). Contains (starts_of touched points) r.first) out)
    (sym c.in_ok-pieces.ensures.found) (begun_of_sorted touched points)
