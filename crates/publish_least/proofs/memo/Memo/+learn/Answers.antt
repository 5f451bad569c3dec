-- A leaf gets its index; a node gets its set, behind those of its children.
use Rattle.std.proofs.Common.{ap, sym, ◌∙◌, subst}
use Rattle.std.proofs.lemmas.Result.{on_ok_weaker}
use Rattle.trie_core.specs.Store.{meaning}
use Rattle.trie_core.proofs.StoreLemmas.{meaning-leaf}
use Rattle.publish_least.specs.Choice.{order_after}
use Rattle.publish_least.specs.Memo.{table_of, IsKnown, IsSet}
use Rattle.publish_least.proofs.MemoLemmas.{order_after-known, order_after-node, IsMemo-leaf}
use Rattle.publish_least.proofs.MemoLemmas.{Stays-leaf, IsMemo-node}
use Rattle.publish_least.proofs.memo.Memo.+learn.Goals as goal

pub returns-then-is_seen-clause-order : goal.returns-then-is_seen-clause-order
returns-then-is_seen-clause-order t c =
    order_after-known c.args.store.now (table_of c.args.self.now) c.requires.memo c.args.rec
    (subst (IsKnown (table_of c.args.self.now)) (sym c.in-Node.is) c.if-is_seen.ensures)

pub returns-in-Leaf-clause-order : goal.returns-in-Leaf-clause-order
returns-in-Leaf-clause-order t c =
    let tree =
    ap (meaning c.args.store.now) c.in-Leaf.is ∙ meaning-leaf c.args.store.now c.in-Leaf.leaf in
    on_ok_weaker c.note_leaf.result
    (λ is. is ∙ ap (order_after c.args.self.now.order.keys) (sym tree)) c.note_leaf.ensures.order

pub returns-in-Leaf-clause-memo : goal.returns-in-Leaf-clause-memo
returns-in-Leaf-clause-memo t c =
    on_ok_weaker c.note_leaf.result (λ grows. IsMemo-leaf c.args.store.now
    (table_of c.args.self.now) (table_of c.note_leaf.new.self) c.in-Leaf.leaf c.requires.memo grows
    c.note_leaf.ensures.find) c.note_leaf.ensures.order

pub returns-in-Leaf-clause-stays : goal.returns-in-Leaf-clause-stays
returns-in-Leaf-clause-stays t c =
    on_ok_weaker c.note_leaf.result (λ grows. Stays-leaf c.args.store.now (table_of c.args.self.now)
    (table_of c.note_leaf.new.self) c.in-Leaf.leaf c.requires.memo grows c.note_leaf.ensures.find)
    c.note_leaf.ensures.order

pub returns-in_ok-set-in-Node-clause-order : goal.returns-in_ok-set-in-Node-clause-order
returns-in_ok-set-in-Node-clause-order t c =
    let l = meaning c.args.store.now c.children-left.result.0 in
    let r = meaning c.args.store.now c.children-left.result.1 in
    let tree = ap (meaning c.args.store.now) c.in-Node.is ∙ c.children-left.ensures.meaning in
    let old = c.args.self.now.order.keys in
    on_ok_weaker c.note.result
    (λ noted. noted.order ∙ c.in_ok-learn-in-Node-2.ensures.order
    ∙ ap (λ seen. order_after seen r) c.in_ok-learn-in-Node.ensures.order
    ∙ sym (order_after-node old l r) ∙ ap (order_after old) (sym tree)) c.note.ensures

pub returns-in_ok-set-in-Node-clause-memo : goal.returns-in_ok-set-in-Node-clause-memo
returns-in_ok-set-in-Node-clause-memo t c =
    let table = table_of c.learn-in-Node.new.self in
    let memo = c.in_ok-learn-in-Node-2.ensures.memo in
    let set = c.in_ok-set-in-Node.set.items in
    let is-set = subst (λ tree. IsSet table.order tree set) (sym c.children-left.ensures.meaning)
    (c.in_ok-set-in-Node.ensures c.args.store.now memo) in
    on_ok_weaker c.note.result
    (λ noted.
    IsMemo-node c.args.store.now table (table_of c.note.new.self) c.in-Node.id set memo noted
    c.children-left.result.0 c.children-left.result.1 c.children-left.ensures.pair is-set
    (c.in_ok-learn-in-Node-2.ensures.stays c.children-left.result.0
    c.in_ok-learn-in-Node.ensures.known) c.in_ok-learn-in-Node-2.ensures.known) c.note.ensures
