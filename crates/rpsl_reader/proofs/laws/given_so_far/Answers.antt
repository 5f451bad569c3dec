use Rattle.rpsl_reader.proofs.SoFar.{given_so_far}
use Rattle.rpsl_reader.proofs.laws.given_so_far.Goals as goal

pub returns : goal.returns
returns c = given_so_far
