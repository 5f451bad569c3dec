-- Each way out tells one thing, and nothing of the other two.
use Rattle.trie_core.proofs.WindowLemmas.{missing_not_held, missing_not_unknown, unknown_not_held}
use Rattle.trie_core.proofs.WindowLemmas.{unknown_not_missing, held_not_missing, held_not_unknown}
use Rattle.trie_core.proofs.others.at_slot.Goals as goal

pub returns-in_default-clause-held : goal.returns-in_default-clause-held
returns-in_default-clause-held c = λ k told. absurd (missing_not_held k told)

pub returns-in_default-clause-unknown : goal.returns-in_default-clause-unknown
returns-in_default-clause-unknown c = λ told. absurd (missing_not_unknown told)

pub returns-then-first-eq0-clause-held : goal.returns-then-first-eq0-clause-held
returns-then-first-eq0-clause-held c = λ k told. absurd (missing_not_held k told)

pub returns-then-first-eq0-clause-unknown : goal.returns-then-first-eq0-clause-unknown
returns-then-first-eq0-clause-unknown c = λ told. absurd (missing_not_unknown told)

pub returns-in_default-get-clause-held : goal.returns-in_default-get-clause-held
returns-in_default-get-clause-held c = λ k told. absurd (unknown_not_held k told)

pub returns-in_default-get-clause-missing : goal.returns-in_default-get-clause-missing
returns-in_default-get-clause-missing c = λ told. absurd (unknown_not_missing told)

pub returns-then-eq-clause-missing : goal.returns-then-eq-clause-missing
returns-then-eq-clause-missing c = λ told. absurd (held_not_missing _ told)

pub returns-then-eq-clause-unknown : goal.returns-then-eq-clause-unknown
returns-then-eq-clause-unknown c = λ told. absurd (held_not_unknown _ told)

pub returns-clause-held : goal.returns-clause-held
returns-clause-held c = λ k told. absurd (unknown_not_held k told)

pub returns-clause-missing : goal.returns-clause-missing
returns-clause-missing c = λ told. absurd (unknown_not_missing told)
