-- What stands at a root, and its line, by the set of its best leaves.
use Rattle.std.proofs.Common.{◌++◌, ap, sym, ◌∙◌, append-nil}
use Rattle.trie_core.specs.Store.{meaning}
use Rattle.publish_least.specs.Memo.{table_of}
use Rattle.publish_least.proofs.SetLemmas.{set_some}
use Rattle.publish_least.proofs.MemoLemmas.{IsSet-read}
use Rattle.publish_least.proofs.WriteLemmas.{stands_old, no_line, index_within, stands_new}
use Rattle.publish_least.proofs.WriteLemmas.{one_line}
use Rattle.publish_least.proofs.memo.Memo.stand.Goals as goal

pub chosen-requires-clause-some : goal.chosen-requires-clause-some
chosen-requires-clause-some c =
    let table = table_of c.args.self.now in
    let is-set = IsSet-read c.requires.memo.0 table c.requires.memo.1 c.args.rec c.index_of.result
    c.set_of.result.now c.requires.known c.index_of.ensures c.set_of.ensures in
    set_some table.order (meaning c.requires.memo.0 c.args.rec) c.set_of.result.now is-set

pub returns-in_default-clause-stands : goal.returns-in_default-clause-stands
returns-in_default-clause-stands c pairs memo =
    let table = table_of c.args.self.now in
    let is-set = IsSet-read pairs table memo c.args.rec c.index_of.result c.set_of.result.now
    c.requires.known c.index_of.ensures c.set_of.ensures in
    stands_old table.order (meaning pairs c.args.rec) c.set_of.result.now is-set c.args.inherited
    c.requires.index c.in_default.ensures

pub returns-in_default-clause-lines : goal.returns-in_default-clause-lines
returns-in_default-clause-lines c pairs memo =
    let table = table_of c.args.self.now in
    let is-set = IsSet-read pairs table memo c.args.rec c.index_of.result c.set_of.result.now
    c.requires.known c.index_of.ensures c.set_of.ensures in
    sym (ap (λ ls. c.args.lines.now.items ++ ls) (no_line table.order (meaning pairs c.args.rec)
    c.set_of.result.now is-set c.args.inherited c.requires.index c.in_default.ensures c.args.block)
    ∙ append-nil c.args.lines.now.items)

pub index-leaf-requires : goal.index-leaf-requires
index-leaf-requires c =
    let table = table_of c.args.self.now in
    let is-set = IsSet-read c.requires.memo.0 table c.requires.memo.1 c.args.rec c.index_of.result
    c.set_of.result.now c.requires.known c.index_of.ensures c.set_of.ensures in
    index_within table.order (meaning c.requires.memo.0 c.args.rec) c.set_of.result.now is-set
    c.args.inherited c.requires.index c.in-Some.index c.in-Some.ensures.1

pub returns-clause-index : goal.returns-clause-index
returns-clause-index c =
    let table = table_of c.args.self.now in
    let is-set = IsSet-read c.requires.memo.0 table c.requires.memo.1 c.args.rec c.index_of.result
    c.set_of.result.now c.requires.known c.index_of.ensures c.set_of.ensures in
    index_within table.order (meaning c.requires.memo.0 c.args.rec) c.set_of.result.now is-set
    c.args.inherited c.requires.index c.in-Some.index c.in-Some.ensures.1

pub returns-clause-stands : goal.returns-clause-stands
returns-clause-stands c pairs memo =
    let table = table_of c.args.self.now in
    let is-set = IsSet-read pairs table memo c.args.rec c.index_of.result c.set_of.result.now
    c.requires.known c.index_of.ensures c.set_of.ensures in
    stands_new table.order (meaning pairs c.args.rec) c.set_of.result.now is-set c.args.inherited
    c.requires.index c.in-Some.index c.in-Some.ensures.0 c.in-Some.ensures.1

pub returns-clause-lines : goal.returns-clause-lines
returns-clause-lines c pairs memo =
    let table = table_of c.args.self.now in
    let is-set = IsSet-read pairs table memo c.args.rec c.index_of.result c.set_of.result.now
    c.requires.known c.index_of.ensures c.set_of.ensures in
    c.in_ok-push.ensures.items ∙ ap (λ ls. c.args.lines.now.items ++ ls)
    (one_line table.order (meaning pairs c.args.rec) c.set_of.result.now is-set c.args.inherited
    c.requires.index c.in-Some.index c.index-leaf.result.now c.in-Some.ensures.0 c.in-Some.ensures.1
    c.index-leaf.ensures c.args.block)
