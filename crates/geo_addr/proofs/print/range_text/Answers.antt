use Rattle.std.proofs.Common.{◌≡◌, ◌∙◌, ap, subst, Ok}
use Rattle.geo_addr.specs.Ranges.{Ends, IsRange}
use Rattle.geo_addr.specs.Spans.{span_in}
use Rattle.geo_addr.specs.Printing.{range_text}
use Rattle.geo_addr.proofs.ReadBack.{made_of, range_text-from, range_text-reads}
use Rattle.geo_addr.proofs.print.range_text.Goals as goal

pub returns-clause-text : goal.returns-clause-text
returns-clause-text c =
    made_of c.from_string.result _ (λ t. t ≡ range_text c.args.range) c.from_string.ensures
    (c.in_ok-format.ensures.ok
    ∙ range_text-from c.args.range _ _ _ c.is_v4-six.ensures
    (ap (λ (r : Ends). r.first) c.range.view_is) (ap (λ (r : Ends). r.last) c.range.view_is))

pub returns-clause-reads_back : goal.returns-clause-reads_back
returns-clause-reads_back c =
    let text = range_text-from c.args.range _ _ _ c.is_v4-six.ensures
    (ap (λ (r : Ends). r.first) c.range.view_is) (ap (λ (r : Ends). r.last) c.range.view_is) in
    made_of c.from_string.result _ (λ t. span_in t ≡ Ok c.args.range) c.from_string.ensures
    (ap span_in (c.in_ok-format.ensures.ok ∙ text)
    ∙ range_text-reads c.args.range (subst IsRange c.range.view_is c.range.invariant))
