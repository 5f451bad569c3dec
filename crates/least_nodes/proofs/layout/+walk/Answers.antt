use Rattle.std.proofs.Common.{◌∙◌, sym, ap, subst, subst₂, arith}
use Rattle.std.proofs.lemmas.Result.{on_ok_weaker}
use Rattle.trie_core.specs.Tree.{height}
use Rattle.trie_core.specs.Store.{meaning, IsOf}
use Rattle.trie_core.proofs.StoreLemmas.{meaning-leaf}
use Rattle.least_nodes.specs.Order.{trees_of, nodes_after, places_after, IsDoneBelow}
use Rattle.least_nodes.proofs.WalkLemmas.{IsNotedNode-from_noted, WalksOn-from_noted}
use Rattle.least_nodes.proofs.layout.+walk.Goals as goal

pub visit-visit_children-requires : goal.visit-visit_children-requires
visit-visit_children-requires t c =
    let pairs = c.args.store.now in
    let on =
    IsNotedNode-from_noted pairs c.args.seen.now.nodes c.note_node.new.self.nodes
    c.args.seen.now.places c.args.rec c.in-Node.id c.in_ok-note_node-in-Node.field-0
    c.len.ensures.sound c.requires.known c.requires.of c.requires.done c.in-Node.is
    c.if-not-branch.false c.in_ok-note_node-in-Node.ensures.noted in
    let same = sym c.in_ok-note_node-in-Node.ensures.places in
    let low = ap (λ r. height (meaning pairs r)) c.in-Node.is in
    let done = subst (IsDoneBelow _ (trees_of pairs c.note_node.new.self.nodes)) same on.done in
    let calls = c.in_ok-note_node-in-Node.ensures.calls in
    let of = subst (IsOf pairs) c.in-Node.is c.requires.of in (
      omega (arith, c.decreases, low),
      (
        of,
        (
          on.known,
          (
            on.noted,
            (
              done,
              omega (arith, calls, on.long, c.requires.calls),
            ),
          ),
        ),
      ),
    )

pub visit-returns-in-Leaf-clause-nodes : goal.visit-returns-in-Leaf-clause-nodes
visit-returns-in-Leaf-clause-nodes t c =
    let pairs = c.args.store.now in
    let tree = ap (meaning pairs) c.in-Leaf.is ∙ meaning-leaf pairs c.in-Leaf.number in
    let ids = c.args.seen.now.nodes in
    let same = ap (trees_of pairs) c.note_leaf.ensures.nodes
    ∙ ap (nodes_after (trees_of pairs ids)) (sym tree) in
    on_ok_weaker c.note_leaf.result (λ _. same) c.note_leaf.ensures.places

pub visit-returns-in-Leaf-clause-places : goal.visit-returns-in-Leaf-clause-places
visit-returns-in-Leaf-clause-places t c =
    let pairs = c.args.store.now in
    let tree = ap (meaning pairs) c.in-Leaf.is ∙ meaning-leaf pairs c.in-Leaf.number in
    on_ok_weaker c.note_leaf.result
    (λ is. is ∙ ap (places_after c.args.seen.now.places) (sym tree)) c.note_leaf.ensures.places

pub visit-returns-else-not-branch-clause-nodes : goal.visit-returns-else-not-branch-clause-nodes
visit-returns-else-not-branch-clause-nodes t c =
    let pairs = c.args.store.now in
    let on =
    IsNotedNode-from_noted pairs c.args.seen.now.nodes c.note_node.new.self.nodes
    c.args.seen.now.places c.args.rec c.in-Node.id c.in_ok-note_node-in-Node.field-0
    c.len.ensures.sound c.requires.known c.requires.of c.requires.done c.in-Node.is
    c.if-not-branch.false c.in_ok-note_node-in-Node.ensures.noted in
    on_ok_weaker c.visit_children.result (λ is. is ∙ on.nodes_are) c.visit_children.ensures.nodes

pub visit_children-visit-requires-2 : goal.visit_children-visit-requires-2
visit_children-visit-requires-2 t c =
    let pairs = c.args.store.now in
    let ids = c.args.seen.now.nodes in
    let l = meaning pairs c.children-left.result.0 in
    let r = meaning pairs c.children-left.result.1 in
    let on =
    WalksOn-from_noted pairs ids c.args.seen.now.places c.args.id l r c.requires.noted
    c.requires.done c.children-left.ensures.meaning in
    let left = c.in_ok-visit.ensures in
    let done = subst₂ (IsDoneBelow (height r)) (sym left.nodes) (sym left.places) on.right_done in (
      omega (arith, c.decreases, on.right_lower),
      (
        c.children-left.ensures.of.1,
        (left.known, (done, omega (arith, left.calls, c.requires.calls))),
      ),
    )

pub visit_children-returns-clause-nodes : goal.visit_children-returns-clause-nodes
visit_children-returns-clause-nodes t c =
    let pairs = c.args.store.now in
    let ids = c.args.seen.now.nodes in
    let l = meaning pairs c.children-left.result.0 in
    let r = meaning pairs c.children-left.result.1 in
    let on =
    WalksOn-from_noted pairs ids c.args.seen.now.places c.args.id l r c.requires.noted
    c.requires.done c.children-left.ensures.meaning in
    let first = ap (λ ts. nodes_after ts r) c.in_ok-visit.ensures.nodes in
    on_ok_weaker c.visit-2.result (λ is. is ∙ first ∙ sym on.nodes_are) c.visit-2.ensures.nodes

pub visit_children-returns-clause-places : goal.visit_children-returns-clause-places
visit_children-returns-clause-places t c =
    let pairs = c.args.store.now in
    let ids = c.args.seen.now.nodes in
    let l = meaning pairs c.children-left.result.0 in
    let r = meaning pairs c.children-left.result.1 in
    let on =
    WalksOn-from_noted pairs ids c.args.seen.now.places c.args.id l r c.requires.noted
    c.requires.done c.children-left.ensures.meaning in
    let first = ap (λ ps. places_after ps r) c.in_ok-visit.ensures.places in
    on_ok_weaker c.visit-2.result (λ is. is ∙ first ∙ sym on.places_are) c.visit-2.ensures.places
