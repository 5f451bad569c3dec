use Rattle.mmdb_file.proofs.MetadataLemmas.{last_is_the_writers}
use Rattle.mmdb_file.proofs.laws.last_marker_is_the_writers.Goals as goal

pub returns : goal.returns
returns c = last_is_the_writers
