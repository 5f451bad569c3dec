use Rattle.std.proofs.lemmas.Simd.{get_or-replicate}
use Rattle.rpsl_reader.proofs.Lanes.{between}
use Rattle.rpsl_reader.proofs.front.unless_between.Goals as goal

pub returns-clause-lanes : goal.returns-clause-lanes
returns-clause-lanes c k l =
    between _ c.args.low c.args.high _ _ _ _ _ _ (get_or-replicate 16 k c.args.low 0 l)
    (get_or-replicate 16 k c.args.high 0 l) (get_or-replicate 16 k 0 0 l)
    (c.where_less-above.ensures.lanes k l) (c.where_less.ensures.lanes k l)
