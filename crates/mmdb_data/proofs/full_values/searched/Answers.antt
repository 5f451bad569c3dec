use Rattle.std.proofs.Common.{sym, ◌∙◌}
use Rattle.mmdb_data.proofs.Table.{search_here, search_on}
use Rattle.mmdb_data.proofs.full_values.searched.Goals as goal

pub returns-then-eq : goal.returns-then-eq
returns-then-eq c =
    search_here c.args.spelled.now c.args.list.now c.loop-number.number c.entry-at.result.0.now
    c.entry-at.result.1 c.entry-at.ensures (sym c.if-eq.true ∙ c.eq.ensures)
    ∙ c.loop-number.invariant

pub loop-number-preserved : goal.loop-number-preserved
loop-number-preserved c =
    search_on c.args.spelled.now c.args.list.now c.loop-number.number c.entry-at.result.0.now
    c.entry-at.result.1 c.entry-at.ensures (sym c.if-eq.false ∙ c.eq.ensures)
    ∙ c.loop-number.invariant
