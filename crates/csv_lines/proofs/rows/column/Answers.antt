-- A field by its index.
use Rattle.std.proofs.Common.{◌∙◌, ap, []}
use Rattle.std.specs.Prelude.{unwrap_or}
use Rattle.geo_addr.specs.Lines.{trimmed}
use Rattle.csv_lines.proofs.RestLemmas.{field_is}
use Rattle.csv_lines.proofs.rows.column.Goals as goal

pub returns-in-Some : goal.returns-in-Some
returns-in-Some g c =
    c.trim_blanks.ensures
    ∙ ap trimmed (ap (λ o. unwrap_or o []) c.in-Some.ensures
    ∙ field_is (g.R.Row.fields c.args.row.now) c.args.index)

pub returns-in-None : goal.returns-in-None
returns-in-None g c =
    ap trimmed (ap (λ o. unwrap_or o []) c.in-None.ensures
    ∙ field_is (g.R.Row.fields c.args.row.now) c.args.index)
