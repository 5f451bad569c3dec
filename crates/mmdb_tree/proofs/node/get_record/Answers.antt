use Rattle.mmdb_tree.specs.Nodes.{node_record}
use Rattle.mmdb_tree.proofs.node.get_record.Goals as goal
use Rattle.std.proofs.Common.{arith}
use Rattle.std.proofs.lemmas.Grind.{common_steps}

pub returns-in-B28-false : goal.returns-in-B28-false
unfolding node_record
returns-in-B28-false c = grind (arith, common_steps) steps 1000000
