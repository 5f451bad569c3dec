-- The sources that a plain look-up is given.
use Rattle.std.specs.Option.{option_copied}
use Rattle.geo_terms.specs.Sources.{InForce}
use Rattle.first_index.specs.declared.plain.AllSources.{AllSources}

-- what is borrowed, as sources in force
abbrev pub in_force : AllSources → InForce
in_force s = record {
  dumps = s.dumps.now;
  feeds = s.feeds.now;
  stats = s.stats.now;
  overrides = option_copied s.overrides;
}
