use Rattle.geofeed_cmd.proofs.PiecesLemmas.{pieces_change_nothing}
use Rattle.geofeed_cmd.proofs.laws.pieces_change_nothing.Goals as goal

pub returns : goal.returns
returns c = pieces_change_nothing c.accepted_job_says_its_lines.ensures
