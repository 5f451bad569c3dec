use Rattle.std.proofs.Common.{◌∷◌, ap, ◌∙◌}
use Rattle.std.specs.Option.{option_copied}
use Rattle.geo_addr.specs.Lines.{pieces_after}
use Rattle.geo_addr.proofs.LineLemmas.{line_before_feed}
use Rattle.geo_addr.proofs.line.cut_line.Goals as goal

pub returns-in-Some-clause-lines : goal.returns-in-Some-clause-lines
returns-in-Some-clause-lines c =
    let cut = c.cut_at.ensures.pieces
    ∙ ap (λ after. c.cut_at.result.0.now ∷ pieces_after 10 (option_copied after)) c.in-Some.is in
    rw c.without_return.ensures
    (line_before_feed c.args.text.now c.cut_at.result.0.now c.in-Some.after.now cut)
