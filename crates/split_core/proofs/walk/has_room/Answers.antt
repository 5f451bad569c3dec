use Rattle.std.proofs.Common.{◌-◌, ◌≤◌, ap, arith}
use Rattle.geo_addr.specs.Ranges.{Ends}
use Rattle.split_core.proofs.Rooms.{room_by_mask, no_room_by_mask}
use Rattle.split_core.proofs.walk.has_room.Goals as goal

pub returns-then-range-span-eq0 : goal.returns-then-range-span-eq0
returns-then-range-span-eq0 c =
    let r = c.args.range in
    let here = ap (λ (r : Ends). r.first) c.range.view_is in
    let there = ap (λ (r : Ends). r.last) c.range.view_is in
    let ordered : r.first ≤ r.last = omega (arith, c.range.invariant.ordered) in
    room_by_mask (128 - c.args.len) _ c.size.result r.first r.last _ here c.size.ensures ordered
    c.span_of-span.ensures c.if-range-span-eq0.true

pub returns-else-range-span-eq0 : goal.returns-else-range-span-eq0
returns-else-range-span-eq0 c =
    let here = ap (λ (r : Ends). r.first) c.range.view_is in
    no_room_by_mask (128 - c.args.len) _ c.args.range.first c.args.range.last _ here
    c.span_of-span.ensures c.if-range-span-eq0.false
