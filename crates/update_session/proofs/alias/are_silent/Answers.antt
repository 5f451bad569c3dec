-- An address that carries an IPv4 address lies in one of the two blocks.
use Rattle.update_session.proofs.AliasLemmas.{silent_in_both}
use Rattle.update_session.proofs.alias.are_silent.Goals as goal

pub returns-then-mapped : goal.returns-then-mapped
returns-then-mapped c silent =
    silent_in_both c.args.sources.now c.range_of.result c.range_of-2.result c.range_of.ensures
    c.range_of-2.ensures (c.in_ok-mapped.ensures c.if-mapped.true)
    (c.in_ok-six_to_four.ensures silent)
