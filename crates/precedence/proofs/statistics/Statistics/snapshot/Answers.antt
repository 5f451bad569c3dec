use Rattle.std.proofs.Common.{◌∙◌, map, subst, sym}
use Rattle.std.specs.Arc.{arc_value}
use Rattle.geo_terms.specs.SourceForm.{StatsParts}
use Rattle.authority.proofs.HeldLemmas.{clones_same, order_same}
use Rattle.precedence.specs.Delegations.{AreIndexed}
use Rattle.precedence.proofs.StatisticsLemmas.{made_same}
use Rattle.precedence.proofs.statistics.Statistics.snapshot.Goals as goal

pub invariant_of-result : goal.invariant_of-result
invariant_of-result c =
    let files = clones_same (arc_value {X = StatsParts}) c.self.inside.files.items
    c.in_ok-clone.field-0.items c.in_ok-clone.ensures.cases.0 in
    record {
      slots =
          order_same (arc_value {X = StatsParts}) (λ t. t.slot) c.self.inside.files.items
          c.in_ok-clone.field-0.items files c.self.invariant.slots;
      made =
          subst (λ ts. AreIndexed ts c.in_ok-shared.field-0) (sym files)
          (made_same (map arc_value c.self.inside.files.items) c.self.inside.delegations
          c.in_ok-shared.field-0 c.in_ok-shared.ensures c.self.invariant.made);
    }

pub returns : goal.returns
returns c =
    clones_same (arc_value {X = StatsParts}) c.self.inside.files.items
    c.in_ok-clone.field-0.items c.in_ok-clone.ensures.cases.0 ∙ c.self.view_is
