use Rattle.std.proofs.Common.{List, ◌≤◌, length, subst, arith}
use Rattle.std.proofs.lemmas.List.{take_all}
use Rattle.geo_addr.specs.Ranges.{Ends, AreCuts}
use Rattle.split_core.proofs.Edges.{cuts_more}
use Rattle.split_core.proofs.points.edges_within.Goals as goal

pub loop-range-preserved : goal.loop-range-preserved
loop-range-preserved c =
    cuts_more c.args.ranges.now c.loop-range.range-index c.range-item.result
    c.loop-range.points.items c.push_edges.new.points.items c.args.within c.loop-range-test.true
    c.range-item.is c.loop-range.invariant c.in_ok-push_edges.ensures

pub returns : goal.returns
returns c =
    let all : length c.args.ranges.now ≤ c.loop-range.range-index =
    omega (arith, c.loop-range-test.false) in
    let P : List Ends → Type 0 = λ rs. AreCuts rs c.args.within c.loop-range.points.items in
    subst P (take_all c.loop-range.range-index c.args.ranges.now all) c.loop-range.invariant
