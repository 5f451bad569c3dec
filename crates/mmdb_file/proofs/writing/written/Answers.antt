use Rattle.std.proofs.Common.{◌≡◌, arith, length}
use Rattle.std.proofs.lemmas.Result.{IfOk-weaker}
use Rattle.mmdb_file.specs.Writing.{number_of, nodes_from}
use Rattle.mmdb_file.proofs.WritingLemmas.{limit-le, length-nodes_from, numbers_fit, file_parts}
use Rattle.mmdb_file.proofs.writing.written.Goals as goal

pub overflow_cast-max : goal.overflow_cast-max
overflow_cast-max c =
    omega (arith, c.max.ensures, c.requires.ids, c.requires.low 0, limit-le c.args.bits)

pub returns-clause-bytes : goal.returns-clause-bytes
returns-clause-bytes c =
    let counted : c.max.result
    ≡ length (nodes_from c.args.store.now (number_of c.args.numbers.now) c.args.root
    c.args.ids.now) = omega (
      arith,
      c.max.ensures,
      length-nodes_from c.args.store.now (number_of c.args.numbers.now) c.args.root c.args.ids.now,
    ) in
    IfOk-weaker c.file_bytes.result _ _ (λ bytes whole.
    file_parts c.args.bits (nodes_from c.args.store.now (number_of c.args.numbers.now) c.args.root
    c.args.ids.now) c.args.section.now c.args.meta.now.epoch c.args.meta.now.name
    c.in_ok-tree.tree.items bytes.items c.max.result c.in_ok-tree.ensures counted whole)
    c.file_bytes.ensures.bytes

pub returns-clause-fits : goal.returns-clause-fits
returns-clause-fits c =
    numbers_fit c.args.bits c.args.store.now c.args.numbers.now c.args.root c.args.ids.now
    c.requires.keys c.requires.low

pub returns-in_err-tree-clause-fits : goal.returns-in_err-tree-clause-fits
returns-in_err-tree-clause-fits c =
    numbers_fit c.args.bits c.args.store.now c.args.numbers.now c.args.root c.args.ids.now
    c.requires.keys c.requires.low
