use Rattle.std.proofs.Common.{List, ℕ, subst}
use Rattle.std.proofs.lemmas.List.{take_all}
use Rattle.cut_segments.proofs.InsideLemmas.{AreFound, found_point}
use Rattle.cut_segments.proofs.inside.push_by_point.Goals as goal

pub loop-point-preserved : goal.loop-point-preserved
loop-point-preserved c =
    found_point c.args.found.now.items c.args.points.now c.loop-point.found.items
    c.push_if.new.found.items c.args.ranges.now c.loop-point.point-index 0 c.is_inside.result
    c.loop-point-test.true c.is_inside.ensures c.in_ok-push_if.ensures c.loop-point.invariant

pub returns : goal.returns
returns c =
    subst (λ (ys : List ℕ). AreFound c.args.found.now.items ys
    c.args.ranges.now c.loop-point.found.items) (take_all c.loop-point.point-index c.args.points.now
    c.loop-point-test.false) c.loop-point.invariant
