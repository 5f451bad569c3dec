use Rattle.split_core.proofs.Edges.{points_ascend}
use Rattle.cut_segments.proofs.CutLemmas.{gathered_sorted}
use Rattle.precedence.proofs.points.in_order.Goals as goal

pub returns-clause-same : goal.returns-clause-same
returns-clause-same c ranges bounds cuts =
    gathered_sorted ranges bounds c.args.points.items c.sort.new.self.items c.dedup.new.self.items
    c.sort.ensures.permutation c.dedup.ensures.filtered cuts

pub returns-clause-ascending : goal.returns-clause-ascending
returns-clause-ascending c =
    points_ascend c.sort.new.self.items c.dedup.new.self.items c.in_ok-sort.ensures.sorted
    c.dedup.ensures.filtered
