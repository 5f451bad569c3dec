use Rattle.std.proofs.Common.{◌≡◌, ◌++◌, ◌∷◌, [], None, length, ap, arith, ◌∙◌}
use Rattle.rpsl_reader.specs.declared.item.Item.TheVariants.{Whole}
use Rattle.rpsl_reader.specs.Sights.{items_in}
use Rattle.rpsl_reader.proofs.Rows.{one_more}
use Rattle.rpsl_reader.proofs.seen.Sights.close.Goals as goal

pub returns : goal.returns
returns c =
    let from : c.len-from.result ≡ length c.self.inside.parts.items = omega (
      arith,
      c.len-from.ensures,
      c.self.inside.parts.ok,
    ) in
    let count : c.len-count.result ≡ length c.self.inside.begun.items = omega (
      arith,
      c.len-count.ensures,
      c.self.inside.begun.ok,
    ) in
    (λ i. items_in (c.in_ok-push.ensures.items i) (c.in_ok-append.ensures.items i))
    ∙ (λ i. items_in (c.self.inside.rows.items ++ record {
      line = c.args.line;
      from = from i;
      count = count i;
      rule = None;
    } ∷ []) (c.self.inside.parts.items ++ c.self.inside.begun.items))
    ∙ one_more c.self.inside.rows.items c.self.inside.parts.items c.self.inside.begun.items
    c.args.line c.self.invariant
    ∙ ap (λ s. s.items ++ Whole (record { line = c.args.line; parts = s.begun }) ∷ [])
    c.self.view_is
