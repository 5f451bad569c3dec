use Rattle.mmdb_file.proofs.WalkLemmas.{walked}
use Rattle.mmdb_file.proofs.laws.written_file_is_walked.Goals as goal

pub returns : goal.returns
returns c = walked c.tree_reads_back.ensures
