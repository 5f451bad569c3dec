use Rattle.job_lines.proofs.LimitLemmas.{accepted_within}
use Rattle.job_lines.proofs.laws.accepted_job_is_within_limits.Goals as goal

pub returns : goal.returns
returns c = accepted_within
