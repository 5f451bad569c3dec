-- Without quotes the fields are the pieces, and the reader stands where it stood.
use Rattle.std.proofs.Common.{◌∙◌, Bor, List, ℕ, Some, subst, sym}
use Rattle.std.proofs.lemmas.Result.{on_ok_weaker}
use Rattle.csv_lines.specs.Rests.{StandsIf}
use Rattle.csv_lines.proofs.BareLemmas.{values_are}
use Rattle.csv_lines.proofs.RestLemmas.{text_kept}
use Rattle.csv_lines.proofs.rows.take_row.Goals as goal

pub returns-then-is_unquoted : goal.returns-then-is_unquoted
returns-then-is_unquoted c left values some is stands =
    let free = sym c.is_unquoted.ensures ∙ c.if-is_unquoted.true in
    on_ok_weaker c.cut_row.result
    (λ cut. (
      cut ∙ values_are c.args.text.now values free is,
      subst (StandsIf (λ (s : Bor (List ℕ)). Some s.now) c.args.reader.now)
          (text_kept c.args.text.now left free) stands,
    ))
    c.cut_row.ensures
