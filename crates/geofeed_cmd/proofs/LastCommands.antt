-- The command that ends with a move behind the sources of its job.
use Rattle.std.proofs.Common.{◌≡◌, ◌≤◌, true, refl, ap, arith, List, ℕ, [], ◌∷◌, ◌++◌}
use Rattle.std.specs.FinMap as map
use Rattle.std.specs.Prelude.{Some, Result, Ok, Err}
use Rattle.geo_outside.specs.Files.{Told}
use Rattle.job_lines.specs.declared.job.Job.{Job}
use Rattle.job_lines.specs.Commands.{explain, publish, check, census}
use Rattle.job_run.specs.declared.stop.Cause.{Cause}
use Rattle.job_run.specs.declared.stop.Stop.{Stop}
use Rattle.job_run.specs.Moves.{source_moves}
use Rattle.job_run.specs.Stops.{IsHindered}
use Rattle.job_run.specs.World.{World}
use Rattle.geofeed_cmd.specs.declared.last.Last.{Last}
use Rattle.geofeed_cmd.specs.declared.last.Last.TheVariants.{Explain, Publish, Check, Census}
use Rattle.geofeed_cmd.specs.Commands.Last.{ending_with, last_effect, last_move, name_in}
use Rattle.geofeed_cmd.specs.Run.Plans.{file_first, held_job, is_command, job_plan, job_room}
use Rattle.geofeed_cmd.specs.Run.Plans.{plan_of, planned, reads_folder, refused, room_of, start_of}
use Rattle.geofeed_cmd.proofs.AnswerLemmas.{hindered_job}

-- it is a command, which reads a job first
pub record IsOfJob (name : List ℕ) (last : Last) : Type 0 where
  pub is : is_command (Some (ending_with name last)) ≡ true
  pub reads : reads_folder (Some (ending_with name last)) ≡ true
  pub first : file_first (ending_with name last) ≡ Some name
  pub room : (told : Told) → room_of told (Some (ending_with name last))
      ≡ job_room (held_job (map.get told.held name))

pub of_job : (name : List ℕ) (last : Last) → IsOfJob name last
of_job name (Explain address) =
    record { is = refl; reads = refl; first = refl; room = λ told. refl }
of_job name (Publish block file) =
    record { is = refl; reads = refl; first = refl; room = λ told. refl }
of_job name (Check url) = record { is = refl; reads = refl; first = refl; room = λ told. refl }
of_job name Census = record { is = refl; reads = refl; first = refl; room = λ told. refl }

-- its plan, where the job is held
pub last_planned : (name : List ℕ) (last : Last) (first : Told) (job : Job)
    → held_job (map.get first.held name) ≡ Ok job
    → plan_of first (Some (ending_with name last))
    ≡ planned (source_moves job.steps ++ last_move last ∷ []) (start_of first job)
last_planned name (Explain address) first job held =
    ap (job_plan (explain name address.0) first name) held
last_planned name (Publish block file) first job held =
    ap (job_plan (publish name block file.now) first name) held
last_planned name (Check url) first job held = ap (job_plan (check name url.now) first name) held
last_planned name Census first job held = ap (job_plan (census name) first name) held

-- and where it is not
pub last_hindered : (name : List ℕ) (last : Last) (first : Told) (why : Stop)
    → IsHindered why (λ cause. held_job (map.get first.held name) ≡ Err cause)
    → IsHindered why (λ cause. plan_of first (Some (ending_with name last)) ≡ refused cause name)
last_hindered name (Explain address) first why stop =
    hindered_job (explain name address.0) first name why (map.get first.held name) stop
last_hindered name (Publish block file) first why stop =
    hindered_job (publish name block file.now) first name why (map.get first.held name) stop
last_hindered name (Check url) first why stop =
    hindered_job (check name url.now) first name why (map.get first.held name) stop
last_hindered name Census first why stop =
    hindered_job (census name) first name why (map.get first.held name) stop

-- the name in its stop line
pub last_named : (last : Last) (world : World) → name_in last ≡ (last_effect last world).name
last_named (Explain address) world = refl
last_named (Publish block file) world = refl
last_named (Check url) world = refl
last_named Census world = refl

-- a job that is read takes a piece more than it may have
pub least_room : (held : Result Job Cause) → 1114112 ≤ job_room held
least_room (Ok job) = omega arith
least_room (Err cause) = omega arith
