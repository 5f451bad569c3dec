use Rattle.generated.specs.Feeds.{line_of}
use Rattle.generated.proofs.feed.push_line.Goals as goal
use Rattle.std.proofs.Common.{arith}
use Rattle.std.proofs.lemmas.Grind.{common_steps}

pub returns : goal.returns
unfolding line_of
returns c = grind (arith, common_steps) steps 1000000
