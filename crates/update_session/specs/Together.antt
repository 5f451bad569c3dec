-- Feeds that are set together: what they touch, and the last ones of their URLs.
use Rattle.std.specs.Prelude.{◌≡◌, List, ◌++◌, map}
use Rattle.std.specs.List.{AllByRecursion}
use Rattle.geo_addr.specs.Ranges.{Ends}
use Rattle.geo_terms.specs.SlotOrder.{AreInOrder}
use Rattle.geo_terms.specs.SourceForm.{FeedParts}
use Rattle.geo_terms.specs.Sources.{InForce}
use Rattle.source_changes.specs.Changes.{SetFeed, after_all}
use Rattle.source_changes.specs.Keeping.{AreEntries}
use Rattle.source_changes.specs.Placing.{all_placed}
use Rattle.update_session.specs.Calls.{Touch}

-- the sources in force with feeds that stand in the order of their URLs
abbrev pub with_last : List FeedParts → InForce → InForce
with_last last s = record s { feeds = all_placed (λ f. f.url) last s.feeds }

-- the grounds that feeds touch, set one after another, have come; and these are the last of them
pub record HaveCome (s : InForce) (feeds last : List FeedParts) (old new : List Ends) : Type 0 where
  pub more : List Ends
  pub touched : new ≡ old ++ more
  pub touch : Touch (map SetFeed feeds) s more
  pub order : AreInOrder (λ f. f.url) last
  pub same : with_last last s ≡ after_all (map SetFeed feeds) s
  pub sound : AllByRecursion (λ f. AreEntries f.entries) feeds
