-- What holds of the lines of the tree under the block holds of the root.
use Rattle.std.proofs.lemmas.Result.{IfOk-weaker}
use Rattle.trie_core.specs.Store.{meaning}
use Rattle.publish_least.proofs.LeastLemmas.{are_inside, in_preorder, answer_as}
use Rattle.publish_least.proofs.LeastLemmas.{are_fewest, price_is}
use Rattle.publish_least.proofs.least.least_lines.Goals as goal

pub returns-clause-inside : goal.returns-clause-inside
returns-clause-inside c =
    IfOk-weaker c.lines_under.result _ _
    (λ lines same. are_inside c.args.store.now c.args.root c.args.within
    (meaning c.args.store.now c.part-rec.result) c.part-rec.ensures.meaning c.part-rec.ensures.block
    c.requires.plain c.part-rec.ensures.low lines.items same) c.lines_under.ensures

pub returns-clause-preorder : goal.returns-clause-preorder
returns-clause-preorder c =
    IfOk-weaker c.lines_under.result _ _
    (λ lines same. in_preorder c.args.store.now c.args.root c.args.within
    (meaning c.args.store.now c.part-rec.result) c.part-rec.ensures.meaning c.part-rec.ensures.block
    c.requires.plain c.part-rec.ensures.low lines.items same) c.lines_under.ensures

pub returns-clause-answers : goal.returns-clause-answers
returns-clause-answers c =
    IfOk-weaker c.lines_under.result _ _
    (λ lines same. answer_as c.args.store.now c.args.root c.args.within
    (meaning c.args.store.now c.part-rec.result) c.part-rec.ensures.meaning c.part-rec.ensures.block
    c.requires.plain c.part-rec.ensures.low lines.items same) c.lines_under.ensures

pub returns-clause-fewest : goal.returns-clause-fewest
returns-clause-fewest c =
    IfOk-weaker c.lines_under.result _ _
    (λ lines same. are_fewest c.args.store.now c.args.root c.args.within
    (meaning c.args.store.now c.part-rec.result) c.part-rec.ensures.meaning c.part-rec.ensures.block
    c.requires.plain c.part-rec.ensures.low lines.items same) c.lines_under.ensures

pub returns-clause-price : goal.returns-clause-price
returns-clause-price c =
    IfOk-weaker c.lines_under.result _ _
    (λ lines same. price_is c.args.store.now c.args.root c.args.within
    (meaning c.args.store.now c.part-rec.result) c.part-rec.ensures.meaning c.part-rec.ensures.block
    c.requires.plain c.part-rec.ensures.low lines.items same) c.lines_under.ensures
