use Rattle.rpsl_reader.proofs.Bounds.{stays_bounded}
use Rattle.rpsl_reader.proofs.laws.stays_bounded.Goals as goal

pub returns : goal.returns
returns c = stays_bounded
