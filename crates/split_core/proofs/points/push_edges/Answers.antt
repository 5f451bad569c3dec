use Rattle.std.proofs.Common.{◌≡◌, ◌+◌, ◌≤◌, ap, arith}
use Rattle.geo_addr.specs.Ranges.{Ends}
use Rattle.split_core.proofs.Edges.{push_both, push_first}
use Rattle.split_core.proofs.points.push_edges.Goals as goal

pub returns-in_ok-push_within-2 : goal.returns-in_ok-push_within-2
returns-in_ok-push_within-2 c =
    let last_is = ap (λ (r : Ends). r.last) c.range.view_is in
    let past : c.range.inside.last + 1 ≡ c.args.range.last + 1 = omega arith in
    push_both _ c.push_within.new.points.items _ c.args.range c.args.within _ _
    c.ground_first.ensures past c.in_ok-push_within.ensures c.in_ok-push_within-2.ensures

pub returns-else-range-within : goal.returns-else-range-within
returns-else-range-within c =
    let last_is = ap (λ (r : Ends). r.last) c.range.view_is in
    let end_is = ap (λ (r : Ends). r.last) c.within.view_is in
    let outside : c.args.within.last ≤ c.args.range.last = omega (arith, c.if-range-within.false) in
    push_first _ c.push_within.new.points.items c.args.range c.args.within _ c.ground_first.ensures
    outside c.in_ok-push_within.ensures
