use Rattle.rpsl_reader.proofs.selection.find.Goals as goal
use Rattle.std.proofs.Common.{arith}
use Rattle.std.proofs.lemmas.Grind.{common_steps}

pub loop-left-preserved : goal.loop-left-preserved
loop-left-preserved c = grind (arith, common_steps) steps 1000000
