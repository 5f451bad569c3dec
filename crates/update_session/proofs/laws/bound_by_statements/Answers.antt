use Rattle.update_session.proofs.TouchLemmas.{bound_by_statements}
use Rattle.update_session.proofs.laws.bound_by_statements.Goals as goal

pub returns : goal.returns
returns c = bound_by_statements
