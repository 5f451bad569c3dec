-- The generated job of the command `gen N FILE`: its sources, which stand in no file.
use Rattle.std.specs.Prelude.{ℕ, Bool, true, false, List, codes}
use Rattle.geo_terms.specs.SourceForm.{DumpParts, FeedParts, StatsParts}
use Rattle.feed_refs.specs.Dumps.{dump_parts}
use Rattle.feed_csv.specs.File.{feed as feed_parts}
use Rattle.nro_stats.specs.File.{stats as stats_parts}
use Rattle.source_changes.specs.Changes.{SetDump, SetFeed, SetStats}
use Rattle.update_session.specs.Standing.{Standing, begun_standing, changed, emitted}
use Rattle.generated.specs.Feeds.{feed}

-- one object that refers to the feed, one delegation of its range, and two feeds, of which the
-- second is the first but for the country of its first line
unfoldable pub dump_text : List ℕ
dump_text =
    codes "inetnum: 10.0.0.0 - 10.255.255.255\ngeofeed: https://gen.example/feed.csv\n"

unfoldable pub stats_text : List ℕ
stats_text = codes "gen|US|ipv4|10.0.0.0|16777216|20200101|allocated\n"

abbrev pub the_dump : DumpParts
the_dump = dump_parts (codes "gen") dump_text

abbrev pub the_stats : StatsParts
the_stats = stats_parts (codes "gen") stats_text

abbrev pub the_feed : (second : Bool) → (lines : ℕ) → FeedParts
the_feed second lines = feed_parts (codes "https://gen.example/feed.csv") (feed second lines)

-- the build epoch and the database type of its files
abbrev pub gen_epoch : ℕ
gen_epoch = 1700000000

abbrev pub gen_name : List ℕ
gen_name = codes "Geofeed-City"

-- where the session stands before anything was set; before the file is written, with the first
-- feed; and before it is written again, with the second one
abbrev pub begun : Standing
begun = begun_standing gen_epoch gen_name

abbrev pub first_set : (lines : ℕ) → Standing
first_set lines =
    changed (SetFeed (the_feed false lines)) (changed (SetStats the_stats)
    (changed (SetDump the_dump) begun))

abbrev pub second_set : (lines : ℕ) → Standing
second_set lines = changed (SetFeed (the_feed true lines)) (emitted (first_set lines))
