use Rattle.std.proofs.Common.{rules}
use Rattle.nro_stats.proofs.parts.put.Goals as goal

pub returns-clause-notes : goal.returns-clause-notes
returns-clause-notes c = search rules steps 1000000
