use Rattle.std.proofs.Common.{rules}
use Rattle.mmdb_data.proofs.writing.put_u16.Goals as goal

pub returns : goal.returns
returns c = search rules steps 1000000
