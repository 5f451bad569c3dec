-- A leaf has the line of its root alone, a node those of its halves too.
use Rattle.std.proofs.Common.{◌++◌, get_or, ap, ◌∙◌}
use Rattle.std.proofs.lemmas.Result.{on_ok_weaker}
use Rattle.trie_core.specs.Store.{meaning}
use Rattle.trie_core.proofs.StoreLemmas.{meaning-leaf}
use Rattle.publish_least.proofs.WriteLemmas.{lines-of_leaf, lines-of_node}
use Rattle.publish_least.proofs.walk.+write.Goals as goal

pub returns-in_default : goal.returns-in_default
returns-in_default t c =
    let tree = ap (meaning c.args.store.now) c.in_default.is
    ∙ meaning-leaf c.args.store.now c.in_default.field-0 in
    c.in_ok-standing.ensures.lines c.args.store.now c.requires.memo
    ∙ ap (λ ls. c.args.lines.now.items ++ ls) (lines-of_leaf c.args.memo.now.order.keys
    (meaning c.args.store.now c.args.rec) c.in_default.field-0 c.args.block _ tree)

pub returns : goal.returns
returns t c =
    let pairs = c.args.store.now in
    let order = c.args.memo.now.order.keys in
    let tree = ap (meaning pairs) c.in-Node.is ∙ c.children-left.ensures.meaning in
    on_ok_weaker c.write-2.result
    (λ last. lines-of_node order (meaning pairs c.args.rec) (meaning pairs c.children-left.result.0)
    (meaning pairs c.children-left.result.1) c.args.block (get_or order c.args.inherited 0)
    (get_or order c.in_ok-standing.standing 0) c.args.lines.now.items c.stand.new.lines.items
    c.write.new.lines.items c.write-2.new.lines.items tree
    (c.in_ok-standing.ensures.stands pairs c.requires.memo)
    (c.in_ok-standing.ensures.lines pairs c.requires.memo)
    (rw (← c.halves-lower.ensures.lower) c.in_ok-write.ensures)
    (rw (← c.halves-lower.ensures.upper) last)) c.write-2.ensures
