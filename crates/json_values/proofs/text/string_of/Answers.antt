use Rattle.json_values.proofs.text.string_of.Goals as goal
use Rattle.std.proofs.Common.{arith}
use Rattle.std.proofs.lemmas.Grind.{common_steps}

pub returns : goal.returns
returns c = grind (arith, common_steps) steps 1000000
