use Rattle.std.proofs.Common.{◌∙◌, sym}
use Rattle.mmdb_file.specs.Writing.{same_id}
use Rattle.mmdb_file.proofs.WritingLemmas.{none_is_len}
use Rattle.mmdb_file.proofs.numbers.Numbers.node.Goals as goal
use Rattle.std.proofs.Common.{rules}

pub returns-in-None : goal.returns-in-None
returns-in-None c =
    c.len.ensures.len ∙ sym
    (none_is_len (same_id c.args.id) c.args.self.now.nodes (sym c.index_of.ensures ∙ c.in-None.is))

pub returns-in-Some : goal.returns-in-Some
returns-in-Some c = search rules steps 1000000
