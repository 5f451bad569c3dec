-- What holds of the moves of `gen`, and what they leave where one of them is not made.
use Rattle.std.specs.Prelude.{◌≡◌, ℕ, ◌+◌, ◌≤◌, ◌⊎◌, List, None}
use Rattle.geo_outside.specs.Files.{Told}
use Rattle.job_run.specs.declared.stop.Stop.{Stop}
use Rattle.job_run.specs.declared.stop.Stop.TheVariants.{PutFailed, SinkFailed, Memory}
use Rattle.job_run.specs.Acts.{Move, blocked, effect, line_of}
use Rattle.job_run.specs.Course.{IsAt}
use Rattle.job_run.specs.Seen.{Seen}
use Rattle.job_run.specs.Stops.{Fails, IsSpent}
use Rattle.job_run.specs.World.{World}
use Rattle.geofeed_cmd.specs.Commands.Generate.{gen_moves, gen_start}
use Rattle.geofeed_cmd.specs.Run.Lines.{stop_line}

-- none of the moves is blocked: what they write is never too large. And there are numbers for all
-- nodes and places that the emits make
abbrev pub RunsFreely : Type 0
RunsFreely =
    (lines : ℕ) (file : List ℕ) (first : Told) → lines ≤ 1000000
    → (count : ℕ) (move : Move) (world : World)
    → IsAt (gen_moves lines file) (gen_start first) count move world
    → (blocked move world ≡ None) × (¬ IsSpent move world)

-- what stops it: nothing but the outside is in its way
abbrev pub IsOutside : Stop → Type 0
IsOutside why = (why ≡ PutFailed) ⊎ ((why ≡ SinkFailed) ⊎ (why ≡ Memory))

-- one of its moves was reached and not made; its stop line names the file, and no line of a job
pub record StopsGenerated (why : Stop) (lines : ℕ) (file : List ℕ) (first : Told)
    (old new : Seen) : Type 0 where
  pub count : ℕ
  pub move : Move
  pub world : World
  pub there : IsAt (gen_moves lines file) (gen_start first) count move world
  pub fails : Fails why move world world.text old new
  pub line : stop_line why 0 file ≡ stop_line why (line_of move) (effect move world).name
  pub steps : new.steps ≤ old.steps + (effect move world).session.spent
