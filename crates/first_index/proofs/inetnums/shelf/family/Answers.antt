use Rattle.std.proofs.Common.{rules}
use Rattle.first_index.proofs.inetnums.shelf.family.Goals as goal

pub returns-else-is_v4 : goal.returns-else-is_v4
returns-else-is_v4 c = search rules steps 1000000
