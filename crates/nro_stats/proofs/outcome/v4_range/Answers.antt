use Rattle.std.proofs.Common.{rules}
use Rattle.nro_stats.specs.Outcomes.{v4_range}
use Rattle.nro_stats.proofs.outcome.v4_range.Goals as goal

pub returns : goal.returns
unfolding v4_range
returns c = search rules steps 1000000
