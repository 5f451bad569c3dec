-- The addresses of a node are taken away.
use Rattle.std.proofs.Common.{◌+◌, length, refl, sym, ap, subst, ◌∙◌, arith}
use Rattle.std.specs.Vec.{with_item}
use Rattle.std.proofs.lemmas.List.{get_or_read}
use Rattle.trie_core.specs.Tree.{height}
use Rattle.check_census.specs.Spread.{every, node_at, sum_of}
use Rattle.check_census.specs.Tally.{IsEven, tally}
use Rattle.check_census.specs.declared.spread.Weights.{Weights}
use Rattle.check_census.proofs.SpreadLemmas.{loses_at_node, loss_at_node, weights_with_less}
use Rattle.check_census.proofs.spread.Weights.take.Goals as goal

pub returns-clause-weights : goal.returns-clause-weights
returns-clause-weights c =
    let w = c.args.self.now in
    let new : Weights = record { waiting = with_item w.waiting c.args.number 0; ended = w.ended } in
    weights_with_less c.args.store.now
    (length w.ended.items) w new c.requires.weights c.args.number c.requires.number refl refl

pub returns-clause-even : goal.returns-clause-even
returns-clause-even c =
    let w = c.args.self.now in
    let nodes = c.requires.weights.nodes in
    let number = c.requires.number in
    let value = get_or_read w.waiting.items c.args.number c.index-weight.result.now
    (omega arith) c.index-weight.ensures 0 in
    subst (λ x. IsEven (height (node_at c.args.store.now c.args.number)) x) (sym value)
    (c.requires.weights.even c.args.number c.requires.number)

pub returns-clause-loses : goal.returns-clause-loses
returns-clause-loses c test =
    let w = c.args.self.now in
    let nodes = c.requires.weights.nodes in
    let number = c.requires.number in
    let value = get_or_read w.waiting.items c.args.number c.index-weight.result.now
    (omega arith) c.index-weight.ensures 0 in
    let new : Weights = record { waiting = with_item w.waiting c.args.number 0; ended = w.ended } in
    loses_at_node c.args.store.now
    (length w.ended.items) w new c.requires.weights c.args.number c.requires.number refl refl
    test
    ∙ ap (λ x. sum_of test c.args.store.now
    (record { waiting = with_item w.waiting c.args.number 0; ended = w.ended }) + tally test x
    (node_at c.args.store.now c.args.number)) (sym value)

pub returns-clause-total : goal.returns-clause-total
returns-clause-total c =
    let w = c.args.self.now in
    let nodes = c.requires.weights.nodes in
    let number = c.requires.number in
    let value = get_or_read w.waiting.items c.args.number c.index-weight.result.now
    (omega arith) c.index-weight.ensures 0 in
    let new : Weights = record { waiting = with_item w.waiting c.args.number 0; ended = w.ended } in
    loss_at_node c.args.store.now
    (length w.ended.items) w new c.requires.weights c.args.number c.requires.number refl refl
    ∙ ap (λ x. sum_of every c.args.store.now
    (record { waiting = with_item w.waiting c.args.number 0; ended = w.ended }) + x) (sym value)
