-- Addresses wait at a node, and end at a leaf.
use Rattle.std.proofs.Common.{◌≡◌, ℕ, ◌+◌, ◌<◌, length, set, refl, sym, ap, subst, ◌∙◌, arith}
use Rattle.std.specs.Vec.{with_item}
use Rattle.std.proofs.lemmas.List.{get_or_read}
use Rattle.trie_core.specs.declared.node.Rec.{Rec}
use Rattle.trie_core.specs.Store.{meaning, IsOf}
use Rattle.trie_core.specs.Tree.{Tree, height}
use Rattle.trie_core.proofs.StoreLemmas.{meaning-leaf}
use Rattle.check_census.specs.Spread.{IsPlain, node_at, sum_of}
use Rattle.check_census.specs.Tally.{IsEven, tally}
use Rattle.check_census.specs.declared.spread.Weights.{Weights}
use Rattle.check_census.proofs.PassLemmas.{node_is}
use Rattle.check_census.proofs.SpreadLemmas.{ended_at_most, waits_at_most, gains_at_leaf}
use Rattle.check_census.proofs.SpreadLemmas.{total_at_leaf, weights_at_leaf, gains_at_node}
use Rattle.check_census.proofs.SpreadLemmas.{total_at_node, weights_with_more}
use Rattle.check_census.proofs.spread.Weights.put.Goals as goal

pub overflow_add-index_mut : goal.overflow_add-index_mut
overflow_add-index_mut c =
    let w = c.args.self.now in
    let here : c.slot_of-slot.result < length w.ended.items =
    omega (arith, c.slot_of-slot.ensures.within, c.len.ensures, w.ended.ok.0) in
    let value = get_or_read w.ended.items c.slot_of-slot.result c.index_mut.result.now here
    c.index_mut.ensures.value 0 in
    let most = ended_at_most c.args.store.now w c.slot_of-slot.result here in
    let room = c.requires.room in
    omega arith

pub overflow_add-index_mut-in-Node : goal.overflow_add-index_mut-in-Node
overflow_add-index_mut-in-Node c =
    let w = c.args.self.now in
    let number = c.number-number.ensures in
    let of : c.in-Node.id.0 < length c.args.store.now =
    subst (λ (r : Rec). IsOf c.args.store.now r) c.in-Node.is c.requires.of in
    let within : c.number-number.result < length c.args.store.now = omega arith in
    let nodes = c.requires.weights.nodes in
    let value = get_or_read w.waiting.items c.number-number.result c.index_mut-in-Node.result.now
    (omega arith) c.index_mut-in-Node.ensures.value 0 in
    let most = waits_at_most c.args.store.now
    (length w.ended.items) w c.requires.weights c.number-number.result within in
    let room = c.requires.room in
    omega arith

pub returns-in-Leaf-clause-weights : goal.returns-in-Leaf-clause-weights
returns-in-Leaf-clause-weights c =
    let w = c.args.self.now in
    let slot = c.slot_of-slot.result in
    let here : c.slot_of-slot.result < length w.ended.items =
    omega (arith, c.slot_of-slot.ensures.within, c.len.ensures, w.ended.ok.0) in
    let long : length w.ended.items ≡ c.len.result = omega (arith, c.len.ensures, w.ended.ok.0) in
    let value = get_or_read w.ended.items c.slot_of-slot.result c.index_mut.result.now here
    c.index_mut.ensures.value 0 in
    let new : Weights = record {
      waiting = w.waiting;
      ended =
          with_item w.ended slot (c.index_mut.result.now + c.args.weight);
    } in
    weights_at_leaf c.args.store.now
    (length w.ended.items) w new c.requires.weights slot c.in-Leaf.leaf c.args.weight here
    (λ test plain. c.slot_of-slot.ensures.same test (subst (λ n. IsPlain n test) long plain)) refl
    (ap (λ x. set w.ended.items slot (x + c.args.weight)) value)
    (meaning c.args.store.now c.args.rec)
    (ap (meaning c.args.store.now) c.in-Leaf.is ∙ meaning-leaf c.args.store.now c.in-Leaf.leaf)
    c.requires.room

pub returns-in-Leaf-clause-gains : goal.returns-in-Leaf-clause-gains
returns-in-Leaf-clause-gains c =
    let w = c.args.self.now in
    let slot = c.slot_of-slot.result in
    let here : c.slot_of-slot.result < length w.ended.items =
    omega (arith, c.slot_of-slot.ensures.within, c.len.ensures, w.ended.ok.0) in
    let long : length w.ended.items ≡ c.len.result = omega (arith, c.len.ensures, w.ended.ok.0) in
    let value = get_or_read w.ended.items c.slot_of-slot.result c.index_mut.result.now here
    c.index_mut.ensures.value 0 in
    let new : Weights = record {
      waiting = w.waiting;
      ended =
          with_item w.ended slot (c.index_mut.result.now + c.args.weight);
    } in
    gains_at_leaf c.args.store.now
    (length w.ended.items) w new c.requires.weights slot c.in-Leaf.leaf c.args.weight here
    (λ test plain. c.slot_of-slot.ensures.same test (subst (λ n. IsPlain n test) long plain)) refl
    (ap (λ x. set w.ended.items slot (x + c.args.weight)) value)
    (meaning c.args.store.now c.args.rec)
    (ap (meaning c.args.store.now) c.in-Leaf.is ∙ meaning-leaf c.args.store.now c.in-Leaf.leaf)

pub returns-in-Leaf-clause-total : goal.returns-in-Leaf-clause-total
returns-in-Leaf-clause-total c =
    let w = c.args.self.now in
    let slot = c.slot_of-slot.result in
    let here : c.slot_of-slot.result < length w.ended.items =
    omega (arith, c.slot_of-slot.ensures.within, c.len.ensures, w.ended.ok.0) in
    let long : length w.ended.items ≡ c.len.result = omega (arith, c.len.ensures, w.ended.ok.0) in
    let value = get_or_read w.ended.items c.slot_of-slot.result c.index_mut.result.now here
    c.index_mut.ensures.value 0 in
    let new : Weights = record {
      waiting = w.waiting;
      ended =
          with_item w.ended slot (c.index_mut.result.now + c.args.weight);
    } in
    total_at_leaf c.args.store.now
    (length w.ended.items) w new c.requires.weights slot c.in-Leaf.leaf c.args.weight here
    (λ test plain. c.slot_of-slot.ensures.same test (subst (λ n. IsPlain n test) long plain)) refl
    (ap (λ x. set w.ended.items slot (x + c.args.weight)) value)
    (meaning c.args.store.now c.args.rec)
    (ap (meaning c.args.store.now) c.in-Leaf.is ∙ meaning-leaf c.args.store.now c.in-Leaf.leaf)

pub returns-in-Node-clause-weights : goal.returns-in-Node-clause-weights
returns-in-Node-clause-weights c =
    let w = c.args.self.now in
    let i = c.number-number.result in
    let number = c.number-number.ensures in
    let of : c.in-Node.id.0 < length c.args.store.now =
    subst (λ (r : Rec). IsOf c.args.store.now r) c.in-Node.is c.requires.of in
    let within : c.number-number.result < length c.args.store.now = omega arith in
    let nodes = c.requires.weights.nodes in
    let value = get_or_read w.waiting.items c.number-number.result c.index_mut-in-Node.result.now
    (omega arith) c.index_mut-in-Node.ensures.value 0 in
    let new : Weights = record {
      waiting =
          with_item w.waiting i (c.index_mut-in-Node.result.now + c.args.weight);
      ended = w.ended;
    } in
    let tree : node_at c.args.store.now i ≡ meaning c.args.store.now c.args.rec =
    node_is c.args.store.now c.in-Node.id i (sym number)
    ∙ sym (ap (meaning c.args.store.now) c.in-Node.is) in
    weights_with_more c.args.store.now
    (length w.ended.items) w new c.requires.weights i c.args.weight within
    (subst (λ (t : Tree ℕ). IsEven (height t) c.args.weight) (sym tree) c.requires.even)
    (ap (λ x. set w.waiting.items i (x + c.args.weight)) value) refl c.requires.room

pub returns-in-Node-clause-gains : goal.returns-in-Node-clause-gains
returns-in-Node-clause-gains c test plain =
    let w = c.args.self.now in
    let i = c.number-number.result in
    let number = c.number-number.ensures in
    let of : c.in-Node.id.0 < length c.args.store.now =
    subst (λ (r : Rec). IsOf c.args.store.now r) c.in-Node.is c.requires.of in
    let within : c.number-number.result < length c.args.store.now = omega arith in
    let nodes = c.requires.weights.nodes in
    let value = get_or_read w.waiting.items c.number-number.result c.index_mut-in-Node.result.now
    (omega arith) c.index_mut-in-Node.ensures.value 0 in
    let new : Weights = record {
      waiting =
          with_item w.waiting i (c.index_mut-in-Node.result.now + c.args.weight);
      ended = w.ended;
    } in
    let tree : node_at c.args.store.now i ≡ meaning c.args.store.now c.args.rec =
    node_is c.args.store.now c.in-Node.id i (sym number)
    ∙ sym (ap (meaning c.args.store.now) c.in-Node.is) in
    gains_at_node c.args.store.now
    (length w.ended.items) w new c.requires.weights i c.args.weight within
    (subst (λ (t : Tree ℕ). IsEven (height t) c.args.weight) (sym tree) c.requires.even)
    (ap (λ x. set w.waiting.items i (x + c.args.weight)) value) refl test plain
    ∙ ap (λ (t : Tree ℕ). sum_of test c.args.store.now w + tally test c.args.weight t) tree

pub returns-in-Node-clause-total : goal.returns-in-Node-clause-total
returns-in-Node-clause-total c =
    let w = c.args.self.now in
    let i = c.number-number.result in
    let number = c.number-number.ensures in
    let of : c.in-Node.id.0 < length c.args.store.now =
    subst (λ (r : Rec). IsOf c.args.store.now r) c.in-Node.is c.requires.of in
    let within : c.number-number.result < length c.args.store.now = omega arith in
    let nodes = c.requires.weights.nodes in
    let value = get_or_read w.waiting.items c.number-number.result c.index_mut-in-Node.result.now
    (omega arith) c.index_mut-in-Node.ensures.value 0 in
    let new : Weights = record {
      waiting =
          with_item w.waiting i (c.index_mut-in-Node.result.now + c.args.weight);
      ended = w.ended;
    } in
    let tree : node_at c.args.store.now i ≡ meaning c.args.store.now c.args.rec =
    node_is c.args.store.now c.in-Node.id i (sym number)
    ∙ sym (ap (meaning c.args.store.now) c.in-Node.is) in
    total_at_node c.args.store.now
    (length w.ended.items) w new c.requires.weights i c.args.weight within
    (subst (λ (t : Tree ℕ). IsEven (height t) c.args.weight) (sym tree) c.requires.even)
    (ap (λ x. set w.waiting.items i (x + c.args.weight)) value) refl
