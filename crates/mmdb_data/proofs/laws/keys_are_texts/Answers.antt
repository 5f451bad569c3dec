use Rattle.mmdb_data.proofs.Keys.{keys_are_texts as holds}
use Rattle.mmdb_data.proofs.laws.keys_are_texts.Goals as goal

pub returns : goal.returns
returns c = holds
