-- The number of pieces changes nothing.
use Rattle.std.specs.Prelude.{◌≡◌, ℕ, List, filter_map, Option, option_map, Ok}
use Rattle.geo_addr.specs.Lines.{numbered_lines}
use Rattle.geo_outside.specs.Files.{Told}
use Rattle.job_lines.specs.declared.act.Act.{Act}
use Rattle.job_lines.specs.declared.job.Job.{Job}
use Rattle.job_lines.specs.Job.{job}
use Rattle.job_lines.specs.Said.{epoch_said, name_said, step_said}
use Rattle.job_run.specs.Course.{course, ended}
use Rattle.job_run.specs.Moves.{moves_of}
use Rattle.job_run.specs.World.{World}
use Rattle.geofeed_cmd.specs.Run.Plans.{start_of}

-- the act that a line says, if it says one
abbrev pub act_said : (ℕ × List ℕ) → Option Act
act_said line = option_map (λ step. step.act) (step_said line)

-- two texts say the same, beside the number of pieces and beside the lines where it is said
pub record SaysTheSame (bytes other : List ℕ) : Type 0 where
  pub epoch : filter_map epoch_said (numbered_lines bytes)
      ≡ filter_map epoch_said (numbered_lines other)
  pub name : filter_map name_said (numbered_lines bytes)
      ≡ filter_map name_said (numbered_lines other)
  pub acts : filter_map act_said (numbered_lines bytes) ≡ filter_map act_said (numbered_lines other)

-- where all is done of one of two such jobs, all is done of the other, and files,
-- puts and text are the same
abbrev pub PiecesChangeNothing : Type 0
PiecesChangeNothing =
    (first : Told) (bytes other : List ℕ) (j k : Job) → job bytes ≡ Ok j → job other ≡ Ok k
    → SaysTheSame bytes other
    → (last : World) → course (moves_of j.steps) (start_of first j) ≡ ended last
    → course (moves_of k.steps) (start_of first k) ≡ ended last
