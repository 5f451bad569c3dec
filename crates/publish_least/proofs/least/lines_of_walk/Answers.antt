use Rattle.std.proofs.Common.{◌++◌, get_or, ◌∙◌, ap}
use Rattle.trie_core.specs.Store.{meaning}
use Rattle.publish_least.specs.Choice.{order_after, lines_below}
use Rattle.publish_least.proofs.WriteLemmas.{order-some, lines-of_walk}
use Rattle.publish_least.proofs.least.lines_of_walk.Goals as goal

pub write-requires-clause-index : goal.write-requires-clause-index
write-requires-clause-index c =
    let t = meaning c.args.store.now c.args.rec in
    order-some c.learn.new.self.order.keys t
    (c.in_ok-learn.ensures.order ∙ ap (λ seen. order_after seen t) c.requires.order)

pub returns : goal.returns
returns c =
    let t = meaning c.args.store.now c.args.rec in
    let order = c.learn.new.self.order.keys in
    let lines = lines_below order t c.args.within (get_or order 0 0) in
    lines-of_walk order t c.args.within c.write.new.lines.items
    (c.in_ok-learn.ensures.order ∙ ap (λ seen. order_after seen t) c.requires.order)
    (c.in_ok-write.ensures ∙ ap (λ ls. ls ++ lines) c.new-lines.ensures.items)
