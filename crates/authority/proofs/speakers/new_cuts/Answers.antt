use Rattle.std.proofs.Common.{◌∙◌, List, subst}
use Rattle.geo_addr.specs.Ranges.{Ends, AreCuts}
use Rattle.source_changes.specs.CutPoints.{whole}
use Rattle.authority.proofs.speakers.new_cuts.Goals as goal

pub returns : goal.returns
returns c = record {
  exact =
      subst (λ (rs : List Ends). AreCuts rs whole c.in_ok-points.points.items)
      (c.as_slice.ensures.value ∙ c.in_ok-ranges.ensures)
      (subst (λ (w : Ends). AreCuts c.as_slice.result.now w c.in_ok-points.points.items)
      c.whole.ensures c.in_ok-points.ensures.exact);
  ascending = c.in_ok-points.ensures.ascending;
}
