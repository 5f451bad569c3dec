-- What a node is in the new store, once its children are there.
use Rattle.std.proofs.Common.{◌≡◌, ◌∙◌, sym, ap, ap₂, subst}
use Rattle.trie_core.specs.declared.node.Rec.TheVariants.{Node}
use Rattle.trie_core.specs.Tree.{node}
use Rattle.trie_core.specs.Store.{meaning, IsOf}
use Rattle.trie_core.proofs.StoreLemmas.{IsKept-trans}
use Rattle.trie_core.proofs.PaintLemmas.{AddedUnder-join}
use Rattle.trie_core.proofs.CompactLemmas.{same-leaf, IsTakenAs-before, IsTakenAs-from_number}
use Rattle.trie_core.proofs.CompactLemmas.{join-taken}
use Rattle.trie_core.proofs.store.Store.+take.Goals as goal

pub returns-in_default-clause-meaning : goal.returns-in_default-clause-meaning
returns-in_default-clause-meaning t c =
    same-leaf c.args.taken.now.pairs c.args.self.now c.args.rec c.in_default.not-Node

pub returns-in-Some-clause-of : goal.returns-in-Some-clause-of
returns-in-Some-clause-of t c =
    (IsTakenAs-before c.args.self.now c.args.taken.now.nodes.keys c.args.taken.now.pairs
    c.in-Node.id c.in-Some.number c.requires.taken c.in-Some.ensures).of

pub returns-clause-taken : goal.returns-clause-taken
returns-clause-taken t c =
    let means : meaning c.args.self.now (Node c.in-Node.id)
    ≡ node (meaning c.take-2.new.taken.pairs c.in_ok-left.left)
    (meaning c.take-2.new.taken.pairs c.in_ok-right.right) =
    c.children-left.ensures.meaning
    ∙ ap₂ node (sym ((c.in_ok-right.ensures.kept c.in_ok-left.left c.in_ok-left.ensures.of).1
    ∙ c.in_ok-left.ensures.meaning)) (sym c.in_ok-right.ensures.meaning) in
    let made = IsTakenAs-from_number c.args.self.now c.children-left.ensures.sound
    c.take-2.new.taken.nodes.keys c.take-2.new.taken.pairs c.in_ok-right.ensures.taken
    c.in-Node.id
    (subst (IsOf c.args.self.now) c.in-Node.is c.requires.of) c.in_ok-left.left c.in_ok-right.right
    (c.in_ok-right.ensures.kept c.in_ok-left.left c.in_ok-left.ensures.of).0
    c.in_ok-right.ensures.of means c.add.new.self.nodes.keys c.add.new.self.pairs
    c.in_ok-number.number c.in_ok-number.ensures in
    made.taken

pub returns-clause-of : goal.returns-clause-of
returns-clause-of t c =
    let means : meaning c.args.self.now (Node c.in-Node.id)
    ≡ node (meaning c.take-2.new.taken.pairs c.in_ok-left.left)
    (meaning c.take-2.new.taken.pairs c.in_ok-right.right) =
    c.children-left.ensures.meaning
    ∙ ap₂ node (sym ((c.in_ok-right.ensures.kept c.in_ok-left.left c.in_ok-left.ensures.of).1
    ∙ c.in_ok-left.ensures.meaning)) (sym c.in_ok-right.ensures.meaning) in
    let made = IsTakenAs-from_number c.args.self.now c.children-left.ensures.sound
    c.take-2.new.taken.nodes.keys c.take-2.new.taken.pairs c.in_ok-right.ensures.taken
    c.in-Node.id
    (subst (IsOf c.args.self.now) c.in-Node.is c.requires.of) c.in_ok-left.left c.in_ok-right.right
    (c.in_ok-right.ensures.kept c.in_ok-left.left c.in_ok-left.ensures.of).0
    c.in_ok-right.ensures.of means c.add.new.self.nodes.keys c.add.new.self.pairs
    c.in_ok-number.number c.in_ok-number.ensures in
    made.of

pub returns-clause-meaning : goal.returns-clause-meaning
returns-clause-meaning t c =
    let means : meaning c.args.self.now (Node c.in-Node.id)
    ≡ node (meaning c.take-2.new.taken.pairs c.in_ok-left.left)
    (meaning c.take-2.new.taken.pairs c.in_ok-right.right) =
    c.children-left.ensures.meaning
    ∙ ap₂ node (sym ((c.in_ok-right.ensures.kept c.in_ok-left.left c.in_ok-left.ensures.of).1
    ∙ c.in_ok-left.ensures.meaning)) (sym c.in_ok-right.ensures.meaning) in
    let made = IsTakenAs-from_number c.args.self.now c.children-left.ensures.sound
    c.take-2.new.taken.nodes.keys c.take-2.new.taken.pairs c.in_ok-right.ensures.taken
    c.in-Node.id
    (subst (IsOf c.args.self.now) c.in-Node.is c.requires.of) c.in_ok-left.left c.in_ok-right.right
    (c.in_ok-right.ensures.kept c.in_ok-left.left c.in_ok-left.ensures.of).0
    c.in_ok-right.ensures.of means c.add.new.self.nodes.keys c.add.new.self.pairs
    c.in_ok-number.number c.in_ok-number.ensures in
    made.means ∙ sym (ap (meaning c.args.self.now) c.in-Node.is)

pub returns-clause-kept : goal.returns-clause-kept
returns-clause-kept t c =
    let means : meaning c.args.self.now (Node c.in-Node.id)
    ≡ node (meaning c.take-2.new.taken.pairs c.in_ok-left.left)
    (meaning c.take-2.new.taken.pairs c.in_ok-right.right) =
    c.children-left.ensures.meaning
    ∙ ap₂ node (sym ((c.in_ok-right.ensures.kept c.in_ok-left.left c.in_ok-left.ensures.of).1
    ∙ c.in_ok-left.ensures.meaning)) (sym c.in_ok-right.ensures.meaning) in
    let made = IsTakenAs-from_number c.args.self.now c.children-left.ensures.sound
    c.take-2.new.taken.nodes.keys c.take-2.new.taken.pairs c.in_ok-right.ensures.taken
    c.in-Node.id
    (subst (IsOf c.args.self.now) c.in-Node.is c.requires.of) c.in_ok-left.left c.in_ok-right.right
    (c.in_ok-right.ensures.kept c.in_ok-left.left c.in_ok-left.ensures.of).0
    c.in_ok-right.ensures.of means c.add.new.self.nodes.keys c.add.new.self.pairs
    c.in_ok-number.number c.in_ok-number.ensures in
    IsKept-trans _ _ _
    (IsKept-trans _ _ _ c.in_ok-left.ensures.kept c.in_ok-right.ensures.kept) made.kept

pub returns-clause-under : goal.returns-clause-under
returns-clause-under t c =
    let means : meaning c.args.self.now (Node c.in-Node.id)
    ≡ node (meaning c.take-2.new.taken.pairs c.in_ok-left.left)
    (meaning c.take-2.new.taken.pairs c.in_ok-right.right) =
    c.children-left.ensures.meaning
    ∙ ap₂ node (sym ((c.in_ok-right.ensures.kept c.in_ok-left.left c.in_ok-left.ensures.of).1
    ∙ c.in_ok-left.ensures.meaning)) (sym c.in_ok-right.ensures.meaning) in
    let made = IsTakenAs-from_number c.args.self.now c.children-left.ensures.sound
    c.take-2.new.taken.nodes.keys c.take-2.new.taken.pairs c.in_ok-right.ensures.taken
    c.in-Node.id
    (subst (IsOf c.args.self.now) c.in-Node.is c.requires.of) c.in_ok-left.left c.in_ok-right.right
    (c.in_ok-right.ensures.kept c.in_ok-left.left c.in_ok-left.ensures.of).0
    c.in_ok-right.ensures.of means c.add.new.self.nodes.keys c.add.new.self.pairs
    c.in_ok-number.number c.in_ok-number.ensures in
    AddedUnder-join c.args.taken.now.pairs c.take.new.taken.pairs
    c.take-2.new.taken.pairs c.add.new.self.pairs c.in_ok-left.left c.in_ok-right.right
    (Node (record { 0 = c.in_ok-number.number })) made.taken.sound c.in_ok-left.ensures.of
    c.in_ok-right.ensures.of
    c.in_ok-right.ensures.kept made.kept (made.means
    ∙ sym (join-taken c.args.self.now c.children-left.ensures.sound c.take-2.new.taken.nodes.keys
    c.take-2.new.taken.pairs c.in_ok-right.ensures.taken c.in-Node.id
    (subst (IsOf c.args.self.now) c.in-Node.is c.requires.of) c.in_ok-left.left c.in_ok-right.right
    (c.in_ok-right.ensures.kept c.in_ok-left.left c.in_ok-left.ensures.of).0
    c.in_ok-right.ensures.of means)) c.in_ok-left.ensures.under
    c.in_ok-right.ensures.under made.under
