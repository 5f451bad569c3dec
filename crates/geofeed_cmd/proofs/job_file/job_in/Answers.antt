-- A file of too many bytes is no job.
use Rattle.std.specs.FinMap as map
use Rattle.geofeed_cmd.proofs.AnswerLemmas.{held-too-long}
use Rattle.geofeed_cmd.proofs.job_file.job_in.Goals as goal

pub returns-in-Err-TooLong-clause-none : goal.returns-in-Err-TooLong-clause-none
returns-in-Err-TooLong-clause-none g c =
    λ first told. held-too-long (map.get first.held c.args.name.now)
    (c.in-Err-TooLong.ensures.long first told (cc))
