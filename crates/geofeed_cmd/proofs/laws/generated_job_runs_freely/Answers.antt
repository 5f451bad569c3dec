use Rattle.geofeed_cmd.proofs.GenFreeLemmas.{runs_freely}
use Rattle.geofeed_cmd.proofs.laws.generated_job_runs_freely.Goals as goal

pub returns : goal.returns
returns c = λ lines file first few. runs_freely lines few file first
