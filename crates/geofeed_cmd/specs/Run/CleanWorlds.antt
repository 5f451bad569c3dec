-- The sources of every world that a command reaches.
use Rattle.std.specs.Prelude.{Option}
use Rattle.geo_outside.specs.Files.{Told}
use Rattle.published.specs.CleanSources.{AreCleanSources}
use Rattle.job_lines.specs.Commands.{Command}
use Rattle.job_run.specs.Acts.{Move}
use Rattle.job_run.specs.World.{World}
use Rattle.geofeed_cmd.specs.Run.Plans.{Reaches}

-- each statement of them names a place that a feed can say
abbrev pub SourcesAreClean : Type 0
SourcesAreClean = (command : Option Command) (first : Told) (move : Move) (world : World)
    → Reaches command first move world → AreCleanSources world.session.state.sources
