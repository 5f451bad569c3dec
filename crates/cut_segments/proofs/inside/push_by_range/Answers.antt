use Rattle.std.proofs.Common.{List, ℕ, ◌+◌, take, subst, sym}
use Rattle.std.proofs.lemmas.List.{take_all}
use Rattle.geo_addr.specs.Ranges.{Ends}
use Rattle.cut_segments.proofs.InsideLemmas.{AreFound, found_range}
use Rattle.cut_segments.proofs.inside.push_by_range.Goals as goal

pub loop-range-preserved : goal.loop-range-preserved
loop-range-preserved c =
    subst (λ (xs : List ℕ). AreFound c.args.found.now.items c.args.points.now
    (take (c.loop-range.range-index + 1) c.args.ranges.now) xs)
    (sym c.in_ok-extend_from_slice.ensures.items)
    (found_range c.args.found.now.items c.args.points.now c.part_inside.result.now
    c.loop-range.found.items c.args.ranges.now c.loop-range.range-index c.range-item.result
    c.loop-range-test.true c.range-item.is c.part_inside.ensures c.loop-range.invariant)

pub returns : goal.returns
returns c =
    subst (λ (rs : List Ends). AreFound c.args.found.now.items c.args.points.now
    rs c.loop-range.found.items) (take_all c.loop-range.range-index c.args.ranges.now
    c.loop-range-test.false) c.loop-range.invariant
