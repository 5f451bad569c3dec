use Rattle.std.proofs.Common.{rules}
use Rattle.feed_csv.proofs.parts.put.Goals as goal

pub returns-clause-faults : goal.returns-clause-faults
returns-clause-faults c = search rules steps 1000000
