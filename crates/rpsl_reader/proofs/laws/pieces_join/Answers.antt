use Rattle.rpsl_reader.proofs.Pieces.{pieces_join}
use Rattle.rpsl_reader.proofs.laws.pieces_join.Goals as goal

pub returns : goal.returns
returns c = pieces_join
