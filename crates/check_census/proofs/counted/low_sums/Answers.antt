use Rattle.trie_core.specs.Store.{meaning}
use Rattle.trie_core.specs.Tree.{height}
use Rattle.check_census.proofs.TallyLemmas.{IsEven-power}
use Rattle.check_census.proofs.counted.low_sums.Goals as goal

pub put-requires-clause-even : goal.put-requires-clause-even
put-requires-clause-even c = IsEven-power
    (height (meaning c.args.store.now c.args.rec)) 32 c.requires.low
