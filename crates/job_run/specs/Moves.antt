-- The moves that the lines of a job make.
use Rattle.std.specs.Prelude.{ℕ, ◌+◌, Bool, true, false, nat_lt, List, [], ◌∷◌, ◌++◌, length}
use Rattle.std.specs.Prelude.{map, if◌then◌else◌}
use Rattle.job_lines.specs.declared.act.Act.{Act}
use Rattle.job_lines.specs.declared.act.Act.TheVariants.{Rpsl, Stats, Feed, Overrides, Drop, Emit}
use Rattle.job_lines.specs.declared.act.Act.TheVariants.{Report, Mark, Back, Compact}
use Rattle.job_lines.specs.declared.job.Step.{Step}
use Rattle.job_run.specs.Acts.{Move, looks, counts, does}
use Rattle.job_run.specs.Sources.{read_room}
use Rattle.job_run.specs.declared.scope.Scope.{Scope}
use Rattle.job_run.specs.declared.scope.Scope.TheVariants.{Whole, Sources}

-- the most lines that set feeds together
abbrev pub most_together : ℕ
most_together = 16

abbrev pub sets_feed : Act → Bool
sets_feed (Rpsl slot file) = false
sets_feed (Stats slot file) = false
sets_feed (Feed url file) = true
sets_feed (Overrides file) = false
sets_feed (Drop source) = false
sets_feed (Emit file) = false
sets_feed Report = false
sets_feed (Mark name) = false
sets_feed (Back name) = false
sets_feed Compact = false

-- whether a command that does so much of a job does an act
abbrev pub takes : Scope → Act → Bool
takes Whole act = true
takes Sources (Rpsl slot file) = true
takes Sources (Stats slot file) = true
takes Sources (Feed url file) = true
takes Sources (Overrides file) = true
takes Sources (Drop source) = true
takes Sources (Emit file) = false
takes Sources Report = false
takes Sources (Mark name) = true
takes Sources (Back name) = true
takes Sources Compact = false

-- lines that set feeds together: all files are read, then all statements are counted, then all
-- feeds are set
abbrev pub together : List Step → List Move
together group = map looks group ++ (map counts group ++ map does group)

-- whether the first line sets a feed
abbrev pub begins_feed : List Step → Bool
begins_feed [] = false
begins_feed (step ∷ steps) = sets_feed step.act

-- the one move of a line that sets no feed, where it is done
abbrev pub alone : Scope → Step → List Move
alone scope step = if takes scope step.act then does step ∷ [] else []

-- the moves of lines behind a group that has begun: neighbours that set feeds are one group, up to
-- 16 of them counted from the first
abbrev pub moves_from : Scope → (group steps : List Step) → List Move
moves_from scope group [] = together group
moves_from scope group (step ∷ steps) =
    if sets_feed step.act then
    (if nat_lt (length group) most_together then moves_from scope (group ++ step ∷ []) steps
    else together group ++ moves_from scope (step ∷ []) steps)
    else together group ++ (alone scope step ++ moves_from scope [] steps)

-- the moves of a job, all of them or those that set and drop sources; the groups are those of all
-- lines
abbrev pub moves_by : Scope → List Step → List Move
moves_by scope steps = moves_from scope [] steps

abbrev pub moves_of : List Step → List Move
moves_of steps = moves_by Whole steps

abbrev pub source_moves : List Step → List Move
source_moves steps = moves_by Sources steps

-- the most bytes that the reads of these lines give
abbrev pub read_rooms : List Step → ℕ
read_rooms [] = 0
read_rooms (step ∷ steps) = read_room step.act + read_rooms steps
