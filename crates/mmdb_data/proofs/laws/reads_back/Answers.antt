use Rattle.mmdb_data.proofs.ReadsBack.{is_read_again}
use Rattle.mmdb_data.proofs.laws.reads_back.Goals as goal

pub returns : goal.returns
returns c = is_read_again
