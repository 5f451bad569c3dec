use Rattle.std.proofs.Common.{rules}
use Rattle.mmdb_tree.proofs.bits.record_bits.Goals as goal

pub returns-then-end : goal.returns-then-end
returns-then-end c = search rules steps 1000000

pub returns-then-end-2 : goal.returns-then-end-2
returns-then-end-2 c = search rules steps 1000000

pub returns-then-end-3 : goal.returns-then-end-3
returns-then-end-3 c = search rules steps 1000000
