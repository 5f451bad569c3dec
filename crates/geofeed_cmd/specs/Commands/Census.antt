-- `census JOB`: how many addresses each country has.
use Rattle.std.specs.Prelude.{ℕ, List, [], Option, None, option_map}
use Rattle.geo_terms.specs.PlaceForm.{PlaceParts}
use Rattle.geo_terms.specs.Precedence.{record_at}
use Rattle.geo_terms.specs.Sources.{InForce}
use Rattle.check_census.specs.Census.{census}
use Rattle.check_census.specs.Texts.{count_lines}
use Rattle.job_run.specs.World.{World, Effect, untouched}
use Rattle.update_session.specs.Standing.{emitted}

-- the country of the record of an address
abbrev pub country_by : InForce → ℕ → Option (List ℕ)
country_by s a = option_map (λ (p : PlaceParts). p.country) (record_at s a)

-- the last move shows the counts of all addresses by the sources then in force; their tree is
-- built, so for the bound of steps and the want of numbers it is an emit
abbrev pub counting : World → Effect
counting world = record {
  name = [];
  blocked = None;
  files = untouched;
  session = emitted world.session;
  text = count_lines (census (country_by world.session.state.sources));
}
