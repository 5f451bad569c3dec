use Rattle.rpsl_reader.proofs.WholeText.{any_cutting}
use Rattle.rpsl_reader.proofs.laws.any_cutting.Goals as goal

pub returns : goal.returns
returns c = any_cutting
