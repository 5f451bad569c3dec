use Rattle.job_lines.proofs.OrderLemmas.{in_order}
use Rattle.job_lines.proofs.laws.accepted_job_is_in_order.Goals as goal

pub returns : goal.returns
returns c = in_order
