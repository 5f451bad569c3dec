use Rattle.job_lines.proofs.EmptyJobs.{only_passed_lines, passed_lines_only}
use Rattle.job_lines.proofs.laws.only_passed_lines_have_no_epoch.Goals as goal

pub returns : goal.returns
returns c = λ bytes. (only_passed_lines bytes, λ h. passed_lines_only bytes h.0 h.1 h.2)
