use Rattle.trie_core.proofs.GraftLemmas.{GraftAnswers-holds}
use Rattle.trie_core.proofs.laws.graft_answers.Goals as goal

pub returns : goal.returns
returns g c = GraftAnswers-holds _
