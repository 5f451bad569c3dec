use Rattle.std.proofs.lemmas.Result.{IfOk-weaker}
use Rattle.trie_core.specs.Store.{meaning}
use Rattle.publish_least.specs.Memo.{table_of}
use Rattle.publish_least.proofs.SetLemmas.{IsSet-joined}
use Rattle.publish_least.proofs.MemoLemmas.{IsSet-read}
use Rattle.publish_least.proofs.memo.Memo.best_of_halves.Goals as goal

pub returns : goal.returns
returns c pairs memo =
    let table = table_of c.args.self.now in
    let left = IsSet-read pairs table memo c.args.left c.index_of.result c.set_of.result.now
    c.requires.left c.index_of.ensures c.set_of.ensures in
    let right = IsSet-read pairs table memo c.args.right c.index_of-2.result c.set_of-2.result.now
    c.requires.right c.index_of-2.ensures c.set_of-2.ensures in
    IfOk-weaker c.joined.result _ _
    (λ set joined. IsSet-joined table.order (meaning pairs c.args.left) (meaning pairs c.args.right)
    c.set_of.result.now c.set_of-2.result.now left right set.items joined) c.joined.ensures
