-- A place that a country names has the country alone.
use Rattle.std.proofs.Common.{sym, ◌∙◌}
use Rattle.nro_stats.proofs.CountryLemmas.{country_alone}
use Rattle.nro_stats.proofs.outcome.placed.Goals as goal

pub returns-in-Some-clause-alone : goal.returns-in-Some-clause-alone
returns-in-Some-clause-alone c =
    country_alone c.args.country.now _ (sym c.in-Some.is ∙ c.in_ok-place.ensures)
