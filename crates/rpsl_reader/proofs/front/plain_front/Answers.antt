use Rattle.std.proofs.Common.{arith}
use Rattle.rpsl_reader.proofs.Lanes.{plain_at}
use Rattle.rpsl_reader.proofs.front.plain_front.Goals as goal

pub returns-clause-named : goal.returns-clause-named
returns-clause-named c k l =
    plain_at c.args.line.now k _ _ _ c.requires (omega (arith, c.leading_zeros.ensures.within, l))
    (c.unless_between-no_letters.ensures.lanes k) (c.unless_between-neither.ensures.lanes k)
    (c.unless_between.ensures.lanes k) (c.leading_zeros.ensures.zeros k l)
