-- What `publish` leaves in its file.
use Rattle.std.specs.Prelude.{◌≡◌, List, ℕ, Option, None, Some}
use Rattle.std.specs.FinMap as map
use Rattle.geo_addr.specs.Ranges.{Prefix}
use Rattle.geo_outside.specs.Files.{Told}
use Rattle.geo_terms.specs.Sources.{InForce}
use Rattle.published.specs.Shortest.{IsShortestFeed}
use Rattle.job_lines.specs.Commands.{Command, build, lookup, explain, gen, publish, check, census}
use Rattle.job_run.specs.Acts.{shows}
use Rattle.job_run.specs.World.{World}
use Rattle.geofeed_cmd.specs.Commands.Publish.{publishing}
use Rattle.geofeed_cmd.specs.Run.Plans.{Reaches}

-- the file of a name holds the shortest feed of a block by these sources
pub record HoldsFeed (s : InForce) (block : Prefix) (file : List ℕ)
    (told : Option Told) : Type 0 where
  pub now : Told
  pub tells : told ≡ Some now
  pub bytes : List ℕ
  pub held : map.get now.held file ≡ Some bytes
  pub feed : IsShortestFeed s block bytes

-- the sources are those in force in the world in which the last move is reached
pub record LeavesFeed (command : Option Command) (block : Prefix) (file : List ℕ) (first : Told)
    (told : Option Told) : Type 0 where
  pub world : World
  pub there : Reaches command first (shows (publishing block file)) world
  pub holds : HoldsFeed world.session.state.sources block file told

-- what a command leaves that writes a feed; no other one does
abbrev pub PublishesFeed : Option Command → (first : Told) → (told : Option Told) → Type 0
PublishesFeed None first told = Unit {0}
PublishesFeed (Some (build name)) first told = Unit {0}
PublishesFeed (Some (lookup name address)) first told = Unit {0}
PublishesFeed (Some (explain name address)) first told = Unit {0}
PublishesFeed (Some (gen lines file)) first told = Unit {0}
PublishesFeed (Some (publish name block file)) first told =
    LeavesFeed (Some (publish name block file)) block file first told
PublishesFeed (Some (check name url)) first told = Unit {0}
PublishesFeed (Some (census name)) first told = Unit {0}
