use Rattle.geofeed_cmd.proofs.LookupEndsLemmas.{ends_by_cases}
use Rattle.geofeed_cmd.proofs.laws.lookup_ends_by_cases.Goals as goal

pub returns : goal.returns
returns c = λ first name address. ends_by_cases first name address
