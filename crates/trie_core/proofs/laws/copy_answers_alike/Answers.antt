use Rattle.trie_core.proofs.GraftLemmas.{CopyAnswersAlike-holds}
use Rattle.trie_core.proofs.laws.copy_answers_alike.Goals as goal

pub returns : goal.returns
returns g c = CopyAnswersAlike-holds _
