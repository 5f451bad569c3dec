-- Both children come before their node, and half goes to each.
use Rattle.std.proofs.Common.{subst, ◌∙◌, arith}
use Rattle.trie_core.specs.Store.{meaning, IsBelow}
use Rattle.check_census.specs.Spread.{node_at}
use Rattle.check_census.proofs.PassLemmas.{even_left, even_right, node_is}
use Rattle.check_census.proofs.spread.Weights.pass.Goals as goal

pub put-requires-clause-even : goal.put-requires-clause-even
put-requires-clause-even c =
    even_left (node_at c.args.store.now c.args.number)
    (meaning c.args.store.now c.children-left.result.0)
    (meaning c.args.store.now c.children-left.result.1) c.take-weight.result
    (node_is c.args.store.now c.node.result c.args.number c.node.ensures.number
    ∙ c.children-left.ensures.meaning) c.take-weight.ensures.even

pub put-requires-2-clause-even : goal.put-requires-2-clause-even
put-requires-2-clause-even c =
    even_right (node_at c.args.store.now c.args.number)
    (meaning c.args.store.now c.children-left.result.0)
    (meaning c.args.store.now c.children-left.result.1) c.take-weight.result
    (node_is c.args.store.now c.node.result c.args.number c.node.ensures.number
    ∙ c.children-left.ensures.meaning) c.take-weight.ensures.even

pub returns-clause-gone : goal.returns-clause-gone
returns-clause-gone c =
    let earlier = c.children-left.ensures.sound.earlier c.node.result.0 _
    c.children-left.ensures.pair in
    let left : IsBelow c.args.number c.children-left.result.0 =
    subst (λ n. IsBelow n c.children-left.result.0) c.node.ensures.number earlier.0 in
    let right : IsBelow c.args.number c.children-left.result.1 =
    subst (λ n. IsBelow n c.children-left.result.1) c.node.ensures.number earlier.1 in
    c.put-2.ensures.above c.args.number right c.args.number (omega arith)
    ∙ c.put.ensures.above c.args.number left c.args.number (omega arith)
    ∙ c.take-weight.ensures.gone

pub returns-clause-above : goal.returns-clause-above
returns-clause-above c k lt =
    let earlier = c.children-left.ensures.sound.earlier c.node.result.0 _
    c.children-left.ensures.pair in
    let left : IsBelow c.args.number c.children-left.result.0 =
    subst (λ n. IsBelow n c.children-left.result.0) c.node.ensures.number earlier.0 in
    let right : IsBelow c.args.number c.children-left.result.1 =
    subst (λ n. IsBelow n c.children-left.result.1) c.node.ensures.number earlier.1 in
    c.put-2.ensures.above c.args.number right k (omega arith)
    ∙ c.put.ensures.above c.args.number left k (omega arith) ∙ c.take-weight.ensures.above k lt
