-- The bits are one for each line feed.
use Rattle.std.proofs.Common.{◌∙◌, ap, arith, eqb}
use Rattle.std.specs.Prelude.{count_ones}
use Rattle.std.proofs.lemmas.List.{take_all}
use Rattle.std.proofs.lemmas.Simd.{ones-mask_l}
use Rattle.line_parts.specs.Parts.{feeds}
use Rattle.line_parts.proofs.cut.count_together.Goals as goal

pub returns : goal.returns
returns c =
    ap count_ones c.feeds_among.ensures ∙ ones-mask_l (λ b. eqb b 10) _
    ∙ ap feeds (take_all 64 c.args.text.now (omega (arith, c.requires)))
