use Rattle.std.proofs.Common.{ap, arith}
use Rattle.geo_addr.specs.Ranges.{Ends, IsWithin}
use Rattle.split_core.proofs.Edges.{push_lying}
use Rattle.split_core.proofs.points.push_within.Goals as goal

pub returns-in_ok-push_new : goal.returns-in_ok-push_new
returns-in_ok-push_new c =
    let first_is = ap (λ (r : Ends). r.first) c.within.view_is in
    let last_is = ap (λ (r : Ends). r.last) c.within.view_is in
    let lies : IsWithin c.args.within c.args.point = (
      omega (arith, first_is, c.if-within-point.true),
      omega (arith, last_is, c.if-point-within.true),
    ) in
    push_lying _ c.push_new.new.points.items c.args.within c.args.point lies
    c.in_ok-push_new.ensures
