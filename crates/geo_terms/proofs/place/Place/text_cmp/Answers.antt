-- The same texts are in no order.
use Rattle.std.proofs.Common.{sym, ◌∙◌}
use Rattle.geo_terms.specs.PlaceOrder.{text_ties}
use Rattle.geo_terms.proofs.SameLemmas.{equal_where}
use Rattle.geo_terms.proofs.place.Place.text_cmp.Goals as goal

pub returns-then-is_same : goal.returns-then-is_same
returns-then-is_same c =
    equal_where _
    (sym (text_ties c.args.self.now c.args.other.now) ∙ sym c.is_same.ensures ∙ c.if-is_same.true)
