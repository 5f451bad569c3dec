-- A file without quotes hands nothing over.
use Rattle.std.proofs.Common.{◌∙◌, rules, sym}
use Rattle.csv_lines.proofs.BareLemmas.{nothing_handed}
use Rattle.csv_lines.proofs.rows.all_handed.Goals as goal

pub returns-then-is_unquoted : goal.returns-then-is_unquoted
returns-then-is_unquoted c =
    rw (nothing_handed c.args.file.now (sym c.is_unquoted.ensures ∙ c.if-is_unquoted.true))
    (search rules)
