use Rattle.std.proofs.Common.{◌∙◌, List, ap, arith, fold, sym}
use Rattle.std.specs.Option.{option_copied}
use Rattle.std.specs.Ordering.{is_lt}
use Rattle.std.proofs.lemmas.List.{drop_all}
use Rattle.geo_terms.specs.First.{better, holders}
use Rattle.first_index.proofs.plain.first_at.Goals as goal

pub returns : goal.returns
returns g c =
    let X = g.row.S.Denot in
    ap (λ (t : List X). fold (better (λ (x y : X). is_lt (g.S.Statement.order x y)))
    (option_copied c.loop-statement.first) (holders g.S.Statement.range t c.args.at.0))
    (sym (drop_all c.loop-statement.statement-index c.args.statements.now (omega arith)))
    ∙ c.loop-statement.invariant
