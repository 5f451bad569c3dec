use Rattle.rpsl_reader.proofs.WholeText.{given_is_whole}
use Rattle.rpsl_reader.proofs.laws.given_is_whole.Goals as goal

pub returns : goal.returns
returns c = given_is_whole
