use Rattle.feed_refs.proofs.kinds.used_kind.Goals as goal

pub returns-else-has_geofeed : goal.returns-else-has_geofeed
returns-else-has_geofeed c = cc
