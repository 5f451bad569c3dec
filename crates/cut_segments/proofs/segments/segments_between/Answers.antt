use Rattle.std.proofs.Common.{List, subst}
use Rattle.geo_addr.specs.Ranges.{Ends}
use Rattle.cut_segments.specs.Segments.{AreSegments}
use Rattle.cut_segments.proofs.JoinedLemmas.{all_in_whole, segments_of_fewer}
use Rattle.cut_segments.proofs.segments.segments_between.Goals as goal

pub returns : goal.returns
returns c =
    let grounds = c.in_ok-grounds.ensures in
    segments_of_fewer c.args.touched.now c.in_ok-grounds.grounds.items c.args.points.now _
    (all_in_whole c.args.touched.now c.in_ok-grounds.grounds.items c.whole.result c.whole.ensures
    grounds.same grounds.below) grounds.few
    (subst (λ (gs : List Ends). AreSegments gs c.args.points.now c.in_ok-segments.segments.items)
    c.as_slice.ensures.value c.in_ok-segments.ensures.segments)
