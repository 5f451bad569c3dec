-- What each act of a job does, and the moves of a command.
use Rattle.std.specs.Prelude.{◌≡◌, ℕ, List, [], ◌∷◌, ◌++◌, length, flat_map, codes, decimal, Option}
use Rattle.std.specs.Prelude.{Some, None, is_some, if◌then◌else◌}
use Rattle.feed_csv.specs.File.{longest as longest_feed}
use Rattle.geo_terms.specs.NoteText.{note_line}
use Rattle.geo_terms.specs.Report.{report}
use Rattle.geo_terms.specs.declared.note.Note.{Note}
use Rattle.source_changes.specs.Changes.{Change}
use Rattle.update_session.specs.Standing.{changed, compact_count, compacted, emitted, mark_named}
use Rattle.update_session.specs.Standing.{marked, went_back}
use Rattle.update_session.specs.State.{FileValue, file_of, is_too_large}
use Rattle.job_lines.specs.declared.act.Act.{Act}
use Rattle.job_lines.specs.declared.act.Act.TheVariants.{Rpsl, Stats, Feed, Overrides, Drop, Emit}
use Rattle.job_lines.specs.declared.act.Act.TheVariants.{Report, Mark, Back, Compact}
use Rattle.geo_terms.specs.declared.note.Origin.{Origin}
use Rattle.job_lines.specs.declared.job.Step.{Step}
use Rattle.job_run.specs.Sources.{change_by, file_named, is_there, no_source, sourced, unreadable}
use Rattle.job_run.specs.World.{World, Effect, reads, puts, untouched, printing, made, file_in}
use Rattle.job_run.specs.declared.stop.Cause.{Cause}
use Rattle.job_run.specs.declared.stop.Cause.TheVariants.{NoMark, NotThere, TooLarge}

-- the bytes of a file, and none where there is no file
abbrev pub bytes_in : Option FileValue → List ℕ
bytes_in None = []
bytes_in (Some file) = file.bytes

-- the line that an emit prints: `emit NAME nodes N data D bits B bytes L`
unfoldable pub emit_line : (name : List ℕ) → FileValue → List ℕ
emit_line name file =
    codes "emit " ++ (name ++ (codes " nodes "
    ++ (decimal file.nodes ++ (codes " data "
    ++ (decimal file.section ++ (codes " bits "
    ++ (decimal file.bits ++ (codes " bytes "
    ++ (decimal (length file.bytes) ++ 10 ∷ [])))))))))

abbrev pub emit_line_of : (name : List ℕ) → Option FileValue → List ℕ
emit_line_of name None = []
emit_line_of name (Some file) = emit_line name file

-- what a report prints: a line for each note, and `notes N`
unfoldable pub report_text : List Note → List ℕ
report_text notes = flat_map note_line notes
    ++ (codes "notes " ++ (decimal (length notes) ++ 10 ∷ []))

-- what a compaction prints: `compact nodes N`
unfoldable pub compact_line : ℕ → List ℕ
compact_line count = codes "compact nodes " ++ (decimal count ++ 10 ∷ [])

-- a move of a command. A line that sets a feed makes three: its file is read, its statements are
-- counted, and it is set. Any other line makes one. A command whose sources stand in no file sets
-- each by a move. A command that does no line, or more than its lines, shows something at the end
pub data Move : Type 0 where
  looks : Step → Move
  counts : Step → Move
  does : Step → Move
  sets : Change → Move
  shows : (World → Effect) → Move

-- the effect of a line that sets a source of its file
abbrev pub set_effect : Act → World → Effect
set_effect act world = record {
  name = file_named act;
  blocked = no_source act (file_in world (file_named act));
  files = reads;
  session = sourced (change_by act (file_in world (file_named act))) world.session;
  text = [];
}

-- the effects of the three moves of a line that sets a feed: the file was read before its
-- statements are counted, and these before it is set
abbrev pub look_effect : Act → World → Effect
look_effect act world = record {
  name = file_named act;
  blocked = unreadable longest_feed (file_in world (file_named act));
  files = reads;
  session = world.session;
  text = [];
}

abbrev pub count_effect : Act → World → Effect
count_effect act world = record {
  name = file_named act;
  blocked = no_source act (file_in world (file_named act));
  files = untouched;
  session = world.session;
  text = [];
}

abbrev pub join_effect : Act → World → Effect
join_effect act world = record {
  name = file_named act;
  blocked = None;
  files = untouched;
  session = sourced (change_by act (file_in world (file_named act))) world.session;
  text = [];
}

-- the effect of a line that drops a source
abbrev pub drop_effect : Origin → World → Effect
drop_effect source world = record {
  name = [];
  blocked = if is_there source world.session.state.sources then None else Some NotThere;
  files = untouched;
  session = sourced (change_by (Drop source) None) world.session;
  text = [];
}

-- the effect of a line that writes a file
abbrev pub emit_effect : (file : List ℕ) → World → Effect
emit_effect file world = record {
  name = file;
  blocked = if is_too_large world.session.state then Some TooLarge else None;
  files = puts (bytes_in (file_of world.session.state));
  session = emitted world.session;
  text = emit_line_of file (file_of world.session.state);
}

-- the effects of the lines that keep what is in force under a name, and go back to it
abbrev pub mark_effect : (name : List ℕ) → World → Effect
mark_effect name world = record
    { name = []; blocked = None; files = untouched; session = marked name world.session; text = [] }

abbrev pub back_effect : (name : List ℕ) → World → Effect
back_effect name world = record {
  name = [];
  blocked = if is_some (mark_named name world.session) then None else Some NoMark;
  files = untouched;
  session = went_back name world.session;
  text = [];
}

-- the effect of a line that gives up the nodes to which no root leads
abbrev pub compact_effect : World → Effect
compact_effect world = record {
  name = [];
  blocked = None;
  files = untouched;
  session = compacted world.session;
  text = compact_line (compact_count world.session);
}

-- the effect of a move that sets or drops a source that stands in no file
abbrev pub change_effect : Change → World → Effect
change_effect change world = record {
  name = [];
  blocked = None;
  files = untouched;
  session = changed change world.session;
  text = [];
}

-- the effect of each act
abbrev pub act_effect : Act → World → Effect
act_effect (Rpsl slot file) world = set_effect (Rpsl slot file) world
act_effect (Stats slot file) world = set_effect (Stats slot file) world
act_effect (Feed url file) world = join_effect (Feed url file) world
act_effect (Overrides file) world = set_effect (Overrides file) world
act_effect (Drop source) world = drop_effect source world
act_effect (Emit file) world = emit_effect file world
act_effect Report world = printing (report_text (report world.session.state.sources)) world
act_effect (Mark name) world = mark_effect name world
act_effect (Back name) world = back_effect name world
act_effect Compact world = compact_effect world

abbrev pub effect : Move → World → Effect
effect (looks step) world = look_effect step.act world
effect (counts step) world = count_effect step.act world
effect (does step) world = act_effect step.act world
effect (sets change) world = change_effect change world
effect (shows last) world = last world

-- the step of a job that a move belongs to
abbrev pub step_of : Move → Option Step
step_of (looks step) = Some step
step_of (counts step) = Some step
step_of (does step) = Some step
step_of (sets change) = None
step_of (shows last) = None

-- an act that prints
abbrev pub IsPrintingAct : Act → Type 0
IsPrintingAct (Rpsl slot file) = ⊥
IsPrintingAct (Stats slot file) = ⊥
IsPrintingAct (Feed url file) = ⊥
IsPrintingAct (Overrides file) = ⊥
IsPrintingAct (Drop source) = ⊥
IsPrintingAct (Emit file) = Unit {0}
IsPrintingAct Report = Unit {0}
IsPrintingAct (Mark name) = ⊥
IsPrintingAct (Back name) = ⊥
IsPrintingAct Compact = Unit {0}

-- a move that prints: that of a line that writes a file, reports or compacts, or the last one of a
-- command
abbrev pub IsPrinting : Move → Type 0
IsPrinting (looks step) = ⊥
IsPrinting (counts step) = ⊥
IsPrinting (does step) = IsPrintingAct step.act
IsPrinting (sets change) = ⊥
IsPrinting (shows last) = Unit {0}

-- an act that builds the tree of the sources in force
abbrev pub IsBuildingAct : Act → Type 0
IsBuildingAct (Rpsl slot file) = ⊥
IsBuildingAct (Stats slot file) = ⊥
IsBuildingAct (Feed url file) = ⊥
IsBuildingAct (Overrides file) = ⊥
IsBuildingAct (Drop source) = ⊥
IsBuildingAct (Emit file) = Unit {0}
IsBuildingAct Report = ⊥
IsBuildingAct (Mark name) = ⊥
IsBuildingAct (Back name) = ⊥
IsBuildingAct Compact = ⊥

-- a move that builds a tree: that of a line that writes a file, or the last one of a command where
-- the session stands behind it as behind an emit
abbrev pub IsBuilding : Move → World → Type 0
IsBuilding (looks step) world = ⊥
IsBuilding (counts step) world = ⊥
IsBuilding (does step) world = IsBuildingAct step.act
IsBuilding (sets change) world = ⊥
IsBuilding (shows last) world = (last world).session ≡ emitted world.session

-- the line of the job that a move belongs to, and 0 where it belongs to none
abbrev pub line_of : Move → ℕ
line_of (looks step) = step.line
line_of (counts step) = step.line
line_of (does step) = step.line
line_of (sets change) = 0
line_of (shows last) = 0

-- why a move cannot be made here, if it cannot
abbrev pub blocked : Move → World → Option Cause
blocked move world = (effect move world).blocked

-- what there is after a move that was made
abbrev pub after : Move → World → World
after move world = made (effect move world) world
