-- `explain JOB ADDR`: why an address has its record.
use Rattle.std.specs.Prelude.{ℕ}
use Rattle.geo_terms.specs.Precedence.{reasons_at}
use Rattle.explained.specs.Explanation.{explanation}
use Rattle.job_run.specs.World.{World, Effect, printing}

-- the last move shows why, by the sources then in force
abbrev pub explaining : (address : ℕ) → World → Effect
explaining address world =
    printing (explanation address (reasons_at world.session.state.sources address)) world
