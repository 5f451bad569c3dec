use Rattle.split_core.proofs.Edges.{points_ascend, points_stay}
use Rattle.split_core.proofs.points.put_in_order.Goals as goal

pub returns-clause-same : goal.returns-clause-same
returns-clause-same c =
    points_stay c.args.points.now.items c.sort.new.points.items c.dedup.new.self.items
    c.sort.ensures.permutation c.dedup.ensures.filtered

pub returns-clause-ascending : goal.returns-clause-ascending
returns-clause-ascending c =
    points_ascend c.sort.new.points.items c.dedup.new.self.items
    c.sort.ensures.sorted c.dedup.ensures.filtered
