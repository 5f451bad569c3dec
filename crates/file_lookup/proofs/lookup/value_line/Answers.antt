use Rattle.std.proofs.Common.{rules}
use Rattle.file_lookup.proofs.lookup.value_line.Goals as goal

pub returns : goal.returns
returns c = search rules steps 1000000
