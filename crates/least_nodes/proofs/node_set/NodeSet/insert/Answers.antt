use Rattle.std.proofs.Common.{◌≡◌, ◌+◌, ◌∙◌, refl, sym, ap, subst, arith}
use Rattle.std.proofs.Common.{List, ◌++◌, ◌∷◌, [], Contains, length, set}
use Rattle.trie_core.specs.declared.node.NodeId.{NodeId}
use Rattle.trie_core.specs.Store.{node_number}
use Rattle.least_nodes.specs.Order.{same_node}
use Rattle.least_nodes.proofs.WalkLemmas.{same_node_equality, node_numbers_differ}
use Rattle.least_nodes.specs.NumberSet.{IsFoundBy, AreMarked}
use Rattle.least_nodes.proofs.NumberSetLemmas.{IsFoundBy-zeros, AreMarked-zeros, AreMarked-put}
use Rattle.least_nodes.proofs.NumberSetLemmas.{Contains-marked, absent_unmarked}
use Rattle.least_nodes.proofs.NumberSetLemmas.{IsFoundBy-unmarked}
use Rattle.least_nodes.proofs.node_set.NodeSet.insert.Goals as goal

pub returns-then-has-clause-noted : goal.returns-then-has-clause-noted
returns-then-has-clause-noted c =
    let ids = c.self.inside.ids.items in
    let next = c.self.inside.next.items in
    let words = c.self.inside.marks.words.items in
    let has = Contains-marked node_number same_node same_node_equality node_numbers_differ
    ids next words c.self.invariant.0 c.self.invariant.1 c.args.id c.number-number.result
    c.number-number.ensures (sym c.has.ensures ∙ c.if-has.true) in
    (subst (λ (xs : List NodeId). Contains xs c.args.id) c.self.view_is has, refl)

pub invariant_of-self-in_err-reserve : goal.invariant_of-self-in_err-reserve
invariant_of-self-in_err-reserve c =
    let ids = c.self.inside.ids.items in
    let next = c.self.inside.next.items in
    let words = c.self.inside.marks.words.items in
    let longer = c.make_room.new.next.items in
    let found = IsFoundBy-zeros node_number same_node same_node_equality node_numbers_differ
    ids next c.self.invariant.0 _ _ c.make_room.ensures.zeros in
    let marked = AreMarked-zeros node_number same_node same_node_equality node_numbers_differ
    ids next words c.self.invariant.0 c.self.invariant.1 _ _ c.make_room.ensures.zeros in (
      subst (λ (xs : List NodeId). IsFoundBy node_number xs longer)
          (sym c.in_err-reserve.ensures.items) found,
      marked,
    )

pub invariant_of-self-in_err-put : goal.invariant_of-self-in_err-put
invariant_of-self-in_err-put c =
    let ids = c.self.inside.ids.items in
    let next = c.self.inside.next.items in
    let words = c.self.inside.marks.words.items in
    let longer = c.make_room.new.next.items in
    let found = IsFoundBy-zeros node_number same_node same_node_equality node_numbers_differ
    ids next c.self.invariant.0 _ _ c.make_room.ensures.zeros in
    let marked = AreMarked-zeros node_number same_node same_node_equality node_numbers_differ
    ids next words c.self.invariant.0 c.self.invariant.1 _ _ c.make_room.ensures.zeros in (
      subst (λ (xs : List NodeId). IsFoundBy node_number xs longer)
          (sym c.in_ok-reserve.ensures.items) found,
      subst (AreMarked longer) (sym c.in_err-put.ensures.err) marked,
    )

pub invariant_of-self-2 : goal.invariant_of-self-2
invariant_of-self-2 c =
    let ids = c.self.inside.ids.items in
    let next = c.self.inside.next.items in
    let words = c.self.inside.marks.words.items in
    let longer = c.make_room.new.next.items in
    let found = IsFoundBy-zeros node_number same_node same_node_equality node_numbers_differ
    ids next c.self.invariant.0 _ _ c.make_room.ensures.zeros in
    let marked = AreMarked-zeros node_number same_node same_node_equality node_numbers_differ
    ids next words c.self.invariant.0 c.self.invariant.1 _ _ c.make_room.ensures.zeros in
    let n = c.number-number.result in
    let within = c.in_ok-make_room.ensures.within in
    let unmarked = sym c.has.ensures ∙ c.if-has.false in
    let last : c.len-len.result + 1 ≡ length ids + 1 = omega (arith, c.len-len.ensures) in
    let put = IsFoundBy-unmarked node_number same_node same_node_equality node_numbers_differ
    ids longer words found marked c.args.id n c.number-number.ensures within unmarked
    (c.len-len.result + 1) last (omega (arith, last, found.few, c.if-len-eq-MOST_NODES.false)) in
    let grown = ap (λ (xs : List NodeId). xs ++ c.args.id ∷ []) c.in_ok-reserve.ensures.items in
    let items = sym (c.push_reserved.ensures.items ∙ grown) in (
      subst (λ (xs : List NodeId). IsFoundBy node_number xs (set longer n (c.len-len.result + 1)))
          items put,
      AreMarked-put node_number same_node same_node_equality node_numbers_differ ids longer words
          found marked n (c.len-len.result + 1) c.put.new.self.words.items within (omega arith)
          c.in_ok-put.ensures.put c.in_ok-put.ensures.others,
    )

pub returns-clause-noted : goal.returns-clause-noted
returns-clause-noted c =
    let ids = c.self.inside.ids.items in
    let next = c.self.inside.next.items in
    let words = c.self.inside.marks.words.items in
    let new = absent_unmarked node_number same_node same_node_equality node_numbers_differ
    ids next words c.self.invariant.0 c.self.invariant.1 c.args.id c.number-number.result
    c.number-number.ensures (sym c.has.ensures ∙ c.if-has.false) in
    let grown = ap (λ (xs : List NodeId). xs ++ c.args.id ∷ []) c.self.view_is in
    let missing = subst (λ (xs : List NodeId). Contains xs c.args.id → ⊥) c.self.view_is new in
    let items = ap (λ (xs : List NodeId). xs ++ c.args.id ∷ []) c.in_ok-reserve.ensures.items in
    (missing, c.push_reserved.ensures.items ∙ items ∙ grown)
