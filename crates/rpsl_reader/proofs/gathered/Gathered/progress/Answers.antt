use Rattle.std.proofs.Common.{rules}
use Rattle.rpsl_reader.proofs.gathered.Gathered.progress.Goals as goal

pub returns-clause-progress : goal.returns-clause-progress
returns-clause-progress c = search rules steps 1000000
