use Rattle.publish_least.proofs.set.chosen.Goals as goal
use Rattle.std.proofs.Common.{arith}
use Rattle.std.proofs.lemmas.Grind.{common_steps}

pub returns-else-is_in : goal.returns-else-is_in
returns-else-is_in c = grind (arith, common_steps) steps 1000000
