use Rattle.std.proofs.Common.{refl}
use Rattle.trie_core.specs.NearHash.{beside}
use Rattle.trie_core.proofs.near.beside.Goals as goal

pub returns : goal.returns
unfolding beside
returns c = refl
