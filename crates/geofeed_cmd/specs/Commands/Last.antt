-- The move with which a command ends behind the sources of its job.
use Rattle.std.specs.Prelude.{ℕ, List, [], Option}
use Rattle.geo_addr.specs.Ranges.{IsBlock}
use Rattle.geo_outside.specs.Files.{Told}
use Rattle.geo_terms.specs.Sources.{InForce}
use Rattle.job_lines.specs.Commands.{Command, explain, publish, check, census}
use Rattle.job_run.specs.Acts.{Move, shows}
use Rattle.job_run.specs.World.{World, Effect}
use Rattle.publish_least.specs.Lines.{IsPlain}
use Rattle.geofeed_cmd.specs.declared.last.Last.{Last}
use Rattle.geofeed_cmd.specs.declared.last.Last.TheVariants.{Explain, Publish, Check, Census}
use Rattle.geofeed_cmd.specs.Commands.Census.{counting}
use Rattle.geofeed_cmd.specs.Commands.Check.{checking}
use Rattle.geofeed_cmd.specs.Commands.Explain.{explaining}
use Rattle.geofeed_cmd.specs.Commands.Publish.{publishing}
use Rattle.geofeed_cmd.specs.Run.Feeds.{HoldsFeed}

-- the command that ends with it, by the job of this name
abbrev pub ending_with : (job : List ℕ) → Last → Command
ending_with job (Explain address) = explain job address.0
ending_with job (Publish block file) = publish job block file.now
ending_with job (Check url) = check job url.now
ending_with job Census = census job

-- what it does
abbrev pub last_effect : Last → World → Effect
last_effect (Explain address) = explaining address.0
last_effect (Publish block file) = publishing block file.now
last_effect (Check url) = checking url.now
last_effect Census = counting

abbrev pub last_move : Last → Move
last_move last = shows (last_effect last)

-- what it writes or asks for
abbrev pub name_in : Last → List ℕ
name_in (Explain address) = []
name_in (Publish block file) = file.now
name_in (Check url) = url.now
name_in Census = []

-- a block that is published has a feed
abbrev pub HasFeed : Last → Type 0
HasFeed (Explain address) = Unit {0}
HasFeed (Publish block file) = IsBlock block × IsPlain block
HasFeed (Check url) = Unit {0}
HasFeed Census = Unit {0}

-- what it leaves in the folder by these sources
abbrev pub LeavesBehind : Last → InForce → (told : Option Told) → Type 0
LeavesBehind (Explain address) s told = Unit {0}
LeavesBehind (Publish block file) s told = HoldsFeed s block file.now told
LeavesBehind (Check url) s told = Unit {0}
LeavesBehind Census s told = Unit {0}
