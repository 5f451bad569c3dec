use Rattle.std.proofs.Common.{◌≤◌, ◌<◌, ◌∙◌, sym, ap, length, slice_index_or, arith}
use Rattle.std.specs.List.{position}
use Rattle.std.proofs.lemmas.Bool.{ltb-true, ltb-false}
use Rattle.trie_core.specs.Store.{node_number}
use Rattle.least_nodes.specs.Order.{same_node}
use Rattle.least_nodes.proofs.WalkLemmas.{same_node_equality, node_numbers_differ}
use Rattle.least_nodes.proofs.NumberSetLemmas.{position_from_read, position_past}
use Rattle.least_nodes.proofs.node_set.NodeSet.index_of.Goals as goal

pub returns-in_err-next : goal.returns-in_err-next
returns-in_err-next c =
    let ids = c.self.inside.ids.items in
    let next = c.self.inside.next.items in
    let len = length c.deref.result.now in
    let past = ltb-false c.number.result len (sym c.in_err-next.ensures.lookup.0) in
    let beyond : length next ≤ c.number.result =
    omega (arith, past, ap length c.deref.ensures.value) in
    let none =
    position_past node_number same_node same_node_equality node_numbers_differ ids next
    c.self.invariant.0 c.args.id c.number.result c.number.ensures beyond in
    c.from_residual.ensures ∙ sym none ∙ ap (position (same_node c.args.id)) c.self.view_is

pub returns : goal.returns
returns c =
    let ids = c.self.inside.ids.items in
    let next = c.self.inside.next.items in
    let n = c.number.result in
    let v = c.in_ok-next.next.now in
    let len = length c.deref.result.now in
    let less = ltb-true n len (sym c.in_ok-next.ensures.lookup.0) in
    let within : n < length next = omega (arith, less, ap length c.deref.ensures.value) in
    let same = ap (λ xs. slice_index_or xs n v) c.deref.ensures.value in
    let read = c.in_ok-next.ensures.lookup.1 ∙ same in
    let is =
    position_from_read node_number same_node same_node_equality node_numbers_differ ids next
    c.self.invariant.0 c.args.id n v c.number.ensures within read in
    is c.checked_sub.result c.checked_sub.ensures
    ∙ ap (position (same_node c.args.id)) c.self.view_is
