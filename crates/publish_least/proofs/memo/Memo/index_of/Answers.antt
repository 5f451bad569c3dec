use Rattle.publish_least.proofs.MemoLemmas.{HasIndex-found, known_leaf}
use Rattle.publish_least.specs.Memo.{table_of}
use Rattle.publish_least.proofs.memo.Memo.index_of.Goals as goal

pub returns-in-Leaf : goal.returns-in-Leaf
returns-in-Leaf c =
    HasIndex-found c.args.self.now.order.keys
    c.args.rec c.in-Leaf.leaf c.get_index_of.result c.unwrap_or.result c.in-Leaf.is
    (known_leaf (table_of c.args.self.now) c.args.rec c.in-Leaf.leaf c.in-Leaf.is c.requires)
    c.get_index_of.ensures.index c.get_index_of.ensures.found c.unwrap_or.ensures
