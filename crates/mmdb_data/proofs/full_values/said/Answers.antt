use Rattle.std.proofs.Common.{sym, ◌∙◌}
use Rattle.std.proofs.Common.{rules}
use Rattle.mmdb_data.proofs.full_values.said.Goals as goal
use Rattle.mmdb_data.proofs.Table.{said_here, said_on}

pub returns-then-eq : goal.returns-then-eq
returns-then-eq c =
    said_here c.args.list.now c.args.held c.in-Some.number c.args.spelled.now
    c.in_ok-own.own.now c.in_ok-own.at (search rules) (search rules)
    (sym c.if-eq.true ∙ c.eq.ensures)

pub returns : goal.returns
returns c =
    said_on c.args.list.now c.args.held c.in-Some.number c.args.spelled.now
    c.in_ok-own.own.now c.in_ok-own.at (search rules) (search rules)
    (sym c.if-eq.false ∙ c.eq.ensures)
