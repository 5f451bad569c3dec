use Rattle.std.proofs.Common.{rules}
use Rattle.nro_stats.specs.Outcomes.{v6_range}
use Rattle.nro_stats.proofs.outcome.v6_range.Goals as goal

pub returns : goal.returns
unfolding v6_range
returns c = search rules steps 1000000
