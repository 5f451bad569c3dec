-- The moves of `gen`: its sources stand in no file.
use Rattle.std.specs.Prelude.{ℕ, true, false, List, [], ◌∷◌}
use Rattle.geo_outside.specs.Files.{Told}
use Rattle.source_changes.specs.Changes.{SetDump, SetFeed, SetStats}
use Rattle.job_lines.specs.declared.act.Act.TheVariants.{Emit}
use Rattle.job_lines.specs.declared.job.Step.{Step}
use Rattle.generated_job.specs.Job.{begun, the_dump, the_feed, the_stats}
use Rattle.job_run.specs.Acts.{Move, does, sets}
use Rattle.job_run.specs.World.{World}

abbrev pub emit_step : (line : ℕ) → (file : List ℕ) → Step
emit_step line file = record { line = line; act = Emit file }

-- the dump, the statistics and the first feed are set, and the file is written; the second feed is
-- set instead of the first, and the file is written again
unfoldable pub gen_moves : (lines : ℕ) → (file : List ℕ) → List Move
gen_moves lines file =
    sets (SetDump the_dump) ∷ sets (SetStats the_stats) ∷ sets (SetFeed (the_feed false lines))
    ∷ does (emit_step 5 file) ∷ sets (SetFeed (the_feed true lines)) ∷ does (emit_step 7 file) ∷ []

-- the folder's files are there, but none is read
abbrev pub gen_start : Told → World
gen_start first = record { told = first; session = begun; text = [] }
