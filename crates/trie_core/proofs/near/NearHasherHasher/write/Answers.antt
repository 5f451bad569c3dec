use Rattle.trie_core.specs.NearHash.{write}
use Rattle.trie_core.proofs.near.NearHasherHasher.write.Goals as goal

pub returns : goal.returns
unfolding write
returns c = rw c.low_number.ensures
