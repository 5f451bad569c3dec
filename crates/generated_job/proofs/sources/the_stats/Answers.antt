use Rattle.std.proofs.Common.{◌∙◌, ap}
use Rattle.std.specs.Prelude.{codes}
use Rattle.nro_stats.specs.File.{stats}
use Rattle.generated_job.proofs.FitLemmas.{stats_text_is}
use Rattle.generated_job.proofs.sources.the_stats.Goals as goal

pub returns-in-Ok : goal.returns-in-Ok
returns-in-Ok g c =
    c.in-Ok.ensures.read ∙ ap (stats (codes "gen")) (c.as_bytes.ensures.value ∙ stats_text_is)
