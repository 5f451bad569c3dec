use Rattle.std.proofs.Common.{◌≤◌, ◌<◌, nat_eq, refl, ◌∙◌, sym, ap, length, slice_index_or, arith}
use Rattle.std.specs.List.{position}
use Rattle.std.proofs.lemmas.Bool.{ltb-true, ltb-false}
use Rattle.trie_core.proofs.TreeLemmas.{nat_equality}
use Rattle.least_nodes.specs.NumberSet.{own_number}
use Rattle.least_nodes.proofs.NumberSetLemmas.{position_from_read, position_past}
use Rattle.least_nodes.proofs.place_set.PlaceSet.index_of.Goals as goal

pub returns-in_err-next : goal.returns-in_err-next
returns-in_err-next c =
    let numbers = c.self.inside.numbers.items in
    let next = c.self.inside.next.items in
    let len = length c.deref.result.now in
    let past = ltb-false c.args.number len (sym c.in_err-next.ensures.lookup.0) in
    let beyond : length next ≤ c.args.number =
    omega (arith, past, ap length c.deref.ensures.value) in
    let none =
    position_past own_number nat_eq nat_equality (λ x y even. even) numbers next c.self.invariant
    c.args.number c.args.number refl beyond in
    c.from_residual.ensures ∙ sym none ∙ ap (position (nat_eq c.args.number)) c.self.view_is

pub returns : goal.returns
returns c =
    let numbers = c.self.inside.numbers.items in
    let next = c.self.inside.next.items in
    let n = c.args.number in
    let v = c.in_ok-next.next.now in
    let len = length c.deref.result.now in
    let less = ltb-true n len (sym c.in_ok-next.ensures.lookup.0) in
    let within : n < length next = omega (arith, less, ap length c.deref.ensures.value) in
    let same = ap (λ xs. slice_index_or xs n v) c.deref.ensures.value in
    let read = c.in_ok-next.ensures.lookup.1 ∙ same in
    let is =
    position_from_read own_number nat_eq nat_equality (λ x y even. even) numbers next
    c.self.invariant c.args.number n v refl within read in
    is c.checked_sub.result c.checked_sub.ensures
    ∙ ap (position (nat_eq c.args.number)) c.self.view_is
