use Rattle.std.proofs.Common.{refl}
use Rattle.trie_core.specs.NearHash.{mixed}
use Rattle.trie_core.proofs.near.mixed.Goals as goal

pub returns : goal.returns
unfolding mixed
returns c = refl
