use Rattle.std.proofs.Common.{ap, drop, refl, sym, ◌∙◌}
use Rattle.rpsl_reader.specs.Attributes.{continues, joined, said_of}
use Rattle.rpsl_reader.proofs.Sides.{continued_step}
use Rattle.rpsl_reader.proofs.attribute.continue_value.Goals as goal

pub loop-left-preserved-in_ok-join : goal.loop-left-preserved-in_ok-join
loop-left-preserved-in_ok-join c =
    continued_step c.loop-left.value c.join.new.self c.loop-left.left.now _
    c.line-item.result c.in-len1-up.len_at_least c.line-item.is refl
    (ap (λ k. continues k.1) (sym c.line.view_is) ∙ sym c.continues.ensures ∙ c.if-continues.true)
    (c.in_ok-join.ensures ∙ ap (joined c.loop-left.value) (c.said_of.ensures
    ∙ ap said_of (c.without_first.ensures ∙ ap (λ k. drop 1 k.1) c.line.view_is)))
    ∙ c.loop-left.invariant
