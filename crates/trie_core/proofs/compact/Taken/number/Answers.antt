use Rattle.std.proofs.Common.{sym}
use Rattle.trie_core.proofs.CompactLemmas.{number_from_position}
use Rattle.trie_core.proofs.compact.Taken.number.Goals as goal

pub returns-in-Some : goal.returns-in-Some
returns-in-Some c =
    number_from_position c.args.self.now.nodes.keys c.args.id c.in-Some.index
    (sym c.in-Some.ensures.index)
