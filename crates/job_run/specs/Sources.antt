-- What a line of a job makes of a source: why the file that it names is none, and what the line
-- changes.
use Rattle.std.specs.Prelude.{◌≡◌, ℕ, ◌+◌, Bool, true, nat_lt, List, [], length, Option, Some, None}
use Rattle.std.specs.Prelude.{Result, Ok, Err, is_some, option_map, option_and_then, if◌then◌else◌}
use Rattle.feed_csv.specs.File.{accepted as feed_lines, feed, longest as longest_feed}
use Rattle.feed_csv.specs.File.{most as most_entries}
use Rattle.geo_terms.specs.SourceForm.{DumpParts, StatsParts}
use Rattle.geo_terms.specs.Sources.{InForce}
use Rattle.geo_terms.specs.declared.source.SourceFault.{SourceFault}
use Rattle.feed_refs.specs.Dumps.{dump, longest as longest_dump}
use Rattle.geo_outside.specs.declared.whole.TheConstants.{PIECE}
use Rattle.job_lines.specs.declared.act.Act.{Act}
use Rattle.job_lines.specs.declared.act.Act.TheVariants.{Rpsl, Stats, Feed, Overrides, Drop, Emit}
use Rattle.job_lines.specs.declared.act.Act.TheVariants.{Report, Mark, Back, Compact}
use Rattle.geo_terms.specs.declared.note.Origin.{Origin}
use Rattle.geo_terms.specs.declared.note.Origin.TheVariants as gone
use Rattle.nro_stats.specs.File.{longest as longest_stats, most as most_delegations, rows, stats}
use Rattle.override_rows.specs.File.{accepted as override_lines, longest as longest_overrides}
use Rattle.override_rows.specs.File.{most as most_rows, overrides}
use Rattle.source_changes.specs.Changes.{Change, SetDump, SetFeed, SetStats, SetOverrides, DropDump}
use Rattle.source_changes.specs.Changes.{DropFeed, DropStats, DropOverrides, named}
use Rattle.update_session.specs.Calls.{HasChanged}
use Rattle.update_session.specs.Kept.{Held}
use Rattle.update_session.specs.Standing.{Standing, changed}
use Rattle.job_run.specs.Dumps.{no_dump}
use Rattle.job_run.specs.declared.stop.Cause.{Cause}
use Rattle.job_run.specs.declared.stop.Cause.TheVariants.{Missing, TooLong, TooMany}

-- why a file is not read whole: it is not there, or it has too many bytes
unfoldable pub unreadable : (limit : ℕ) → Option (List ℕ) → Option Cause
unreadable limit None = Some Missing
unreadable limit (Some bytes) = if nat_lt limit (length bytes) then Some TooLong else None

-- why bytes that were read are no source: they have too many statements
unfoldable pub crowded : (room statements : ℕ) → Option Cause
crowded room statements = if nat_lt room statements then Some TooMany else None

-- why a file is no source of so many bytes and statements at most
abbrev pub uncounted : Option Cause → (room : ℕ) → (statements : List ℕ → ℕ) → Option (List ℕ)
    → Option Cause
uncounted (Some cause) room statements held = Some cause
uncounted None room statements None = None
uncounted None room statements (Some bytes) = crowded room (statements bytes)

abbrev pub unusable : (limit room : ℕ) → (statements : List ℕ → ℕ) → Option (List ℕ) → Option Cause
unusable limit room statements held = uncounted (unreadable limit held) room statements held

-- the statements that are counted: the delegations of a statistics file, and the lines of a feed or
-- of overrides that pass the rules of a line by itself
abbrev pub rows_of : (slot bytes : List ℕ) → ℕ
rows_of slot bytes = length (rows slot bytes)

abbrev pub entries_of : List ℕ → ℕ
entries_of bytes = length (feed_lines bytes)

abbrev pub settings_of : List ℕ → ℕ
settings_of bytes = length (override_lines bytes)

-- why what a name holds is no source of each kind
abbrev pub no_stats : (slot : List ℕ) → Option (List ℕ) → Option Cause
no_stats slot held = unusable longest_stats most_delegations (rows_of slot) held

abbrev pub no_feed : Option (List ℕ) → Option Cause
no_feed held = unusable longest_feed most_entries entries_of held

abbrev pub no_overrides : Option (List ℕ) → Option Cause
no_overrides held = unusable longest_overrides most_rows settings_of held

-- what a name holds is this statistics file
pub record HoldsStats (slot : List ℕ) (held : Option (List ℕ)) (found : StatsParts) : Type 0 where
  pub bytes : List ℕ
  pub there : held ≡ Some bytes
  pub is : found ≡ stats slot bytes
  pub usable : no_stats slot held ≡ None

-- the change that a dump is, where there is one
abbrev pub dump_change : Result DumpParts SourceFault → Option Change
dump_change (Ok found) = Some (SetDump found)
dump_change (Err fault) = None

-- the file that an act names
abbrev pub file_named : Act → List ℕ
file_named (Rpsl slot file) = file
file_named (Stats slot file) = file
file_named (Feed url file) = file
file_named (Overrides file) = file
file_named (Drop source) = []
file_named (Emit file) = file
file_named Report = []
file_named (Mark name) = []
file_named (Back name) = []
file_named Compact = []

-- why what the file holds is no source for an act
abbrev pub no_source : Act → Option (List ℕ) → Option Cause
no_source (Rpsl slot file) held = no_dump slot held
no_source (Stats slot file) held = no_stats slot held
no_source (Feed url file) held = no_feed held
no_source (Overrides file) held = no_overrides held
no_source (Drop source) held = None
no_source (Emit file) held = None
no_source Report held = None
no_source (Mark name) held = None
no_source (Back name) held = None
no_source Compact held = None

-- what goes when a source is dropped
abbrev pub drop_change : Origin → Change
drop_change (gone.Rpsl slot) = DropDump slot
drop_change (gone.Stats slot) = DropStats slot
drop_change (gone.Feed url) = DropFeed url
drop_change gone.Overrides = DropOverrides

-- what an act changes of the sources, where its file holds this
abbrev pub change_by : Act → Option (List ℕ) → Option Change
change_by (Rpsl slot file) held = option_and_then (λ bytes. dump_change (dump slot bytes)) held
change_by (Stats slot file) held = option_map (λ bytes. SetStats (stats slot bytes)) held
change_by (Feed url file) held = option_map (λ bytes. SetFeed (feed url bytes)) held
change_by (Overrides file) held = option_map (λ bytes. SetOverrides (overrides bytes)) held
change_by (Drop source) held = Some (drop_change source)
change_by (Emit file) held = None
change_by Report held = None
change_by (Mark name) held = None
change_by (Back name) held = None
change_by Compact held = None

-- whether a source is there to be dropped
abbrev pub is_there : Origin → InForce → Bool
is_there (gone.Rpsl slot) s = is_some (named (λ x. x.slot) slot s.dumps)
is_there (gone.Stats slot) s = is_some (named (λ x. x.slot) slot s.stats)
is_there (gone.Feed url) s = is_some (named (λ x. x.url) url s.feeds)
is_there gone.Overrides s = is_some s.overrides

-- where the session stands after a change, if there is one
abbrev pub sourced : Option Change → Standing → Standing
sourced None session = session
sourced (Some change) session = changed change session

-- a session was set as an act says, where its file holds this
pub record IsSet (act : Act) (held : Option (List ℕ)) (old new : Held) : Type 0 where
  pub usable : no_source act held ≡ None
  pub change : Change
  pub is : change_by act held ≡ Some change
  pub has : HasChanged change old new

-- a source that was there was dropped
pub record IsDropped (source : Origin) (old new : Held) : Type 0 where
  pub there : is_there source old.state.sources ≡ true
  pub has : HasChanged (drop_change source) old new

-- the most bytes that the reads of an act give: those of its file, or one more piece
abbrev pub read_room : Act → ℕ
read_room (Rpsl slot file) = longest_dump + PIECE
read_room (Stats slot file) = longest_stats + PIECE
read_room (Feed url file) = longest_feed + PIECE
read_room (Overrides file) = longest_overrides + PIECE
read_room (Drop source) = 0
read_room (Emit file) = 0
read_room Report = 0
read_room (Mark name) = 0
read_room (Back name) = 0
read_room Compact = 0
