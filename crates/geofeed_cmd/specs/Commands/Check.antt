-- `check JOB URL`: what becomes of each line of a feed.
use Rattle.std.specs.Prelude.{ℕ, List, [], Option, Some, None}
use Rattle.geo_terms.specs.SourceForm.{FeedParts}
use Rattle.geo_terms.specs.Sources.{InForce, feed_of}
use Rattle.check_census.specs.Texts.{verdict_lines}
use Rattle.check_census.specs.Verdicts.{verdicts}
use Rattle.job_run.specs.World.{World, Effect, untouched}
use Rattle.job_run.specs.declared.stop.Cause.{Cause}
use Rattle.job_run.specs.declared.stop.Cause.TheVariants.{NoFeed}

-- the feed that is to be checked has to be in force
abbrev pub no_feed : Option FeedParts → Option Cause
no_feed None = Some NoFeed
no_feed (Some f) = None

-- the verdicts on the lines of a feed
abbrev pub checked : InForce → Option FeedParts → List ℕ
checked s None = []
checked s (Some f) = verdict_lines (verdicts s f)

-- the last move shows them, by the sources then in force
abbrev pub checking : (url : List ℕ) → World → Effect
checking url world = record {
  name = url;
  blocked = no_feed (feed_of world.session.state.sources url);
  files = untouched;
  session = world.session;
  text = checked world.session.state.sources (feed_of world.session.state.sources url);
}
