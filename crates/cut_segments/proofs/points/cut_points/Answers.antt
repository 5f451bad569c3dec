use Rattle.std.proofs.Common.{subst}
use Rattle.geo_addr.specs.Ranges.{Ends, AreCuts}
use Rattle.cut_segments.proofs.points.cut_points.Goals as goal

pub returns : goal.returns
returns c = record {
  exact =
      subst (λ (w : Ends). AreCuts c.args.ranges.now w c.in_ok-points.points.items) c.whole.ensures
      c.in_ok-points.ensures.exact;
  ascending = c.in_ok-points.ensures.ascending;
}
