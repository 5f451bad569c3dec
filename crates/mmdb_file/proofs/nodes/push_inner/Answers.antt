use Rattle.std.proofs.Common.{◌∙◌, ap, ℕ, get_or, arith}
use Rattle.mmdb_file.specs.Writing.{number_of, node_numbers}
use Rattle.mmdb_file.proofs.WritingLemmas.{bytes_step, node_by_children, number_fits}
use Rattle.mmdb_file.proofs.nodes.push_inner.Goals as goal

pub loop-id-preserved : goal.loop-id-preserved
loop-id-preserved c =
    bytes_step c.args.bits (node_numbers c.args.store.now (number_of c.args.numbers.now))
    c.args.ids.now c.loop-id.id-index (record { 0 = 0 }) c.loop-id.tree.items _ _
    c.«record».result c.record-in-loop-id.result c.loop-id-test.true c.loop-id.invariant
    c.in_ok-push_node.ensures.appended
    (ap (λ (n : ℕ). (n, c.record-in-loop-id.result)) c.«record».ensures
    ∙ ap (λ (n : ℕ). (number_of c.args.numbers.now c.children-left.result.0, n))
    c.record-in-loop-id.ensures
    ∙ node_by_children c.args.store.now (number_of c.args.numbers.now)
    (get_or c.args.ids.now c.loop-id.id-index (record { 0 = 0 })) c.children-left.result.0
    c.children-left.result.1 c.children-left.ensures.pair)

pub push_node-requires-clause-left_fits : goal.push_node-requires-clause-left_fits
push_node-requires-clause-left_fits c =
    let fits = number_fits c.args.bits c.args.numbers.now c.requires.keys c.requires.low
    c.children-left.result.0 in
    omega (arith, fits, c.«record».ensures)

pub push_node-requires-clause-right_fits : goal.push_node-requires-clause-right_fits
push_node-requires-clause-right_fits c =
    let fits = number_fits c.args.bits c.args.numbers.now c.requires.keys c.requires.low
    c.children-left.result.1 in
    omega (arith, fits, c.record-in-loop-id.ensures)
