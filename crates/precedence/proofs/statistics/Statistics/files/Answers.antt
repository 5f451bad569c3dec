use Rattle.std.proofs.Common.{List, subst}
use Rattle.std.specs.Arc.{arc_value}
use Rattle.geo_terms.specs.SlotOrder.{AreInOrder}
use Rattle.geo_terms.specs.SourceForm.{StatsParts}
use Rattle.precedence.proofs.StatisticsLemmas.{order_over}
use Rattle.precedence.proofs.statistics.Statistics.files.Goals as goal

pub returns-clause-ascending : goal.returns-clause-ascending
returns-clause-ascending c =
    subst (λ (ts : List StatsParts). AreInOrder (λ (t : StatsParts). t.slot) ts) c.self.view_is
    (order_over (arc_value {X = StatsParts}) (λ t. t.slot) c.self.inside.files.items
    c.self.invariant.slots)
