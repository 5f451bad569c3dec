use Rattle.geofeed_cmd.proofs.CleanWorlds.{sources_are_clean}
use Rattle.geofeed_cmd.proofs.laws.sources_are_clean.Goals as goal

pub returns : goal.returns
returns c = sources_are_clean
