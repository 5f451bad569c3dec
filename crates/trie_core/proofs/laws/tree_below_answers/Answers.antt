use Rattle.trie_core.proofs.GraftLemmas.{BelowAnswers-holds}
use Rattle.trie_core.proofs.laws.tree_below_answers.Goals as goal

pub returns : goal.returns
returns g c = BelowAnswers-holds _
