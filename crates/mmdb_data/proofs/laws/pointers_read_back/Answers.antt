use Rattle.mmdb_data.proofs.Pointed.{pointers_back}
use Rattle.mmdb_data.proofs.laws.pointers_read_back.Goals as goal

pub returns : goal.returns
returns c = pointers_back
