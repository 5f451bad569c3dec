use Rattle.split_core.proofs.Edges.{cuts_stay}
use Rattle.split_core.proofs.points.cuts.Goals as goal

pub returns-clause-exact : goal.returns-clause-exact
returns-clause-exact c =
    cuts_stay c.args.ranges.now c.args.within c.in_ok-points.points.items
    c.put_in_order.new.points.items c.put_in_order.ensures.same c.in_ok-points.ensures
