use Rattle.generated_job.proofs.FreeLemmas.{emits_freely}
use Rattle.generated_job.proofs.laws.generated_job_emits_freely.Goals as goal

pub returns : goal.returns
returns c = emits_freely
