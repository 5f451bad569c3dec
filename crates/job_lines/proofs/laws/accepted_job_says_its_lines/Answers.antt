use Rattle.job_lines.proofs.LawLemmas.{says_its_lines}
use Rattle.job_lines.proofs.laws.accepted_job_says_its_lines.Goals as goal

pub returns : goal.returns
returns c = says_its_lines
