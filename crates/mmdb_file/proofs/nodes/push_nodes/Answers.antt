use Rattle.std.proofs.Common.{arith}
use Rattle.mmdb_file.proofs.WritingLemmas.{limit-le, number_fits}
use Rattle.mmdb_file.proofs.nodes.push_nodes.Goals as goal

pub record-record-requires-clause-few : goal.record-record-requires-clause-few
record-record-requires-clause-few c =
    omega (arith, c.requires.keys, c.requires.low 0, limit-le c.args.bits)

pub push_node-requires-clause-left_fits : goal.push_node-requires-clause-left_fits
push_node-requires-clause-left_fits c =
    let fits = number_fits c.args.bits c.args.numbers.now c.requires.keys c.requires.low
    c.args.root in
    omega (arith, fits, c.record-record.ensures)

pub push_node-requires-clause-right_fits : goal.push_node-requires-clause-right_fits
push_node-requires-clause-right_fits c =
    let fits = number_fits c.args.bits c.args.numbers.now c.requires.keys c.requires.low
    c.args.root in
    omega (arith, fits, c.record-record.ensures)
