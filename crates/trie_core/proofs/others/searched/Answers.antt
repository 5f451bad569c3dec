use Rattle.std.proofs.Common.{arith}
use Rattle.std.proofs.lemmas.Option.{slice_get_within}
use Rattle.trie_core.proofs.StoreLemmas.{slice_get-Contains}
use Rattle.trie_core.proofs.others.searched.Goals as goal

pub returns : goal.returns
returns c = λ has.
    let at = slice_get-Contains c.args.pairs.now c.args.pair has in
    let within = slice_get_within c.args.pairs.now at.0 c.args.pair at.1 in
    c.loop-number.invariant at.0 (omega arith) at.1
