-- The sources of each world that a command reaches are clean: each was made by a reader.
use Rattle.std.proofs.Common.{◌≡◌, ℕ, zero, suc, Bool, true, false, cond, not, nat_lt, List, []}
use Rattle.std.proofs.Common.{◌∷◌, ◌++◌, length, map, take, find, Option, None, Some}
use Rattle.std.proofs.Common.{subst, Less, Equal, Greater}
use Rattle.std.specs.List.{AllByRecursion as Each}
use Rattle.std.specs.FinMap as files
use Rattle.std.specs.Ordering.{match_ordering}
use Rattle.std.specs.Prelude.{Result, Ok, Err, codes, slice_get}
use Rattle.geo_outside.specs.Files.{Told}
use Rattle.geo_terms.specs.PlaceForm.{same_text}
use Rattle.geo_terms.specs.Precedence.{text_cmp}
use Rattle.geo_terms.specs.SlotOrder.{placed}
use Rattle.geo_terms.specs.SourceForm.{DumpParts}
use Rattle.geo_terms.specs.Sources.{InForce}
use Rattle.geo_terms.specs.declared.source.SourceFault.{SourceFault}
use Rattle.csv_lines.specs.Clean.{IsCleanPlace, IsCleanSaid}
use Rattle.feed_refs.specs.Dumps.{dump}
use Rattle.source_changes.specs.Changes.{Change, SetDump, SetFeed, SetStats, SetOverrides, DropDump}
use Rattle.source_changes.specs.Changes.{DropFeed, DropStats, DropOverrides, after as after_change}
use Rattle.update_session.specs.Standing.{Standing, StandingMark, at_mark, begun_standing}
use Rattle.update_session.specs.Standing.{mark_named, marked, went_back}
use Rattle.generated.specs.Feeds.{feed}
use Rattle.file_lookup.specs.Lookup.{answer}
use Rattle.file_lookup.specs.declared.lookup.LookupFault.{LookupFault}
use Rattle.job_lines.specs.Commands.{Command, build, lookup, explain, gen, publish, check, census}
use Rattle.job_lines.specs.declared.act.Act.{Act}
use Rattle.job_lines.specs.declared.act.Act.TheVariants as acts
use Rattle.geo_terms.specs.declared.note.Origin.{Origin}
use Rattle.geo_terms.specs.declared.note.Origin.TheVariants as gone
use Rattle.job_lines.specs.declared.job.Job.{Job}
use Rattle.job_lines.specs.declared.job.Step.{Step}
use Rattle.job_run.specs.Acts.{Move, looks, counts, does, sets, shows, act_effect, after, blocked}
use Rattle.job_run.specs.Course.{course, ended, unless}
use Rattle.job_run.specs.Moves.{alone, moves_from, moves_of, most_together, sets_feed}
use Rattle.job_run.specs.Moves.{source_moves, takes, together}
use Rattle.job_run.specs.Sources.{change_by, drop_change, dump_change, file_named, sourced}
use Rattle.job_run.specs.Sources.{unreadable}
use Rattle.job_run.specs.World.{World, file_in}
use Rattle.job_run.specs.declared.scope.Scope.{Scope}
use Rattle.job_run.specs.declared.scope.Scope.TheVariants.{Sources, Whole}
use Rattle.job_run.specs.declared.stop.Cause.{Cause}
use Rattle.generated_job.specs.Job.{gen_epoch, gen_name, stats_text}
use Rattle.published.specs.CleanSources.{AreCleanSources}
use Rattle.published.proofs.CleanFeeds.{feed_is_clean}
use Rattle.published.proofs.CleanRows.{overrides_are_clean}
use Rattle.published.proofs.CleanStats.{stats_are_clean}
use Rattle.published.proofs.EachLemmas.{IfAny, each_filter}
use Rattle.geofeed_cmd.specs.Commands.Census.{counting}
use Rattle.geofeed_cmd.specs.Commands.Check.{checking}
use Rattle.geofeed_cmd.specs.Commands.Explain.{explaining}
use Rattle.geofeed_cmd.specs.Commands.Generate.{gen_moves}
use Rattle.geofeed_cmd.specs.Commands.Publish.{publishing}
use Rattle.geofeed_cmd.specs.Run.CleanWorlds.{SourcesAreClean}
use Rattle.geofeed_cmd.specs.Run.Plans.{Plan, answer_plan, answered_in, held_job, job_plan}
use Rattle.geofeed_cmd.specs.Run.Plans.{longest_file, lookup_plan, moves_for, plan_of, planned}
use Rattle.geofeed_cmd.specs.Run.Plans.{refused, unless_unreadable}

-- ---- lists

module _ {X : Type 0} (P : X → Type 0) where
  each_append : (xs ys : List X) → Each P xs → Each P ys → Each P (xs ++ ys)
  each_append [] ys e f = f
  each_append (x ∷ xs) ys e f = (e.0, each_append xs ys e.1 f)

  each_found : (q : X → Bool) (xs : List X) → Each P xs → IfAny P (find q xs)
  each_found q [] e = tt
  each_found q (x ∷ xs) e = by (q x) (each_found q xs e.1)
    where
      by : (b : Bool) → IfAny P (find q xs) → IfAny P (cond b (Some x) (find q xs))
      by true more = e.0
      by false more = more

  each_placed : (name : X → List ℕ) (x : X) (xs : List X) → P x → Each P xs
      → Each P (placed name x xs)
  each_placed name x [] p h = (p, tt)
  each_placed name x (y ∷ ys) p h =
      elim (text_cmp (name x) (name y))
      as (λ o. Each P (match_ordering o (x ∷ y ∷ ys) (x ∷ ys) (y ∷ placed name x ys))) [
        | Less ↦ (p, h)
        | Equal ↦ (p, h.1)
        | Greater ↦ (h.0, each_placed name x ys p h.1)
      ]

-- ---- sources

-- a source that is set is clean
abbrev IsClean : Change → Type 0
IsClean (SetDump d) = Unit {0}
IsClean (SetFeed f) = Each (λ e. IsCleanSaid e.said) f.entries
IsClean (SetStats t) = Each (λ d. IsCleanPlace d.place) t.rows
IsClean (SetOverrides o) = Each (λ r. IsCleanSaid r.said) o.rows
IsClean (DropDump slot) = Unit {0}
IsClean (DropFeed url) = Unit {0}
IsClean (DropStats slot) = Unit {0}
IsClean DropOverrides = Unit {0}

abbrev IsCleanIf : Option Change → Type 0
IsCleanIf None = Unit {0}
IsCleanIf (Some change) = IsClean change

clean_after : (change : Change) (s : InForce) → IsClean change → AreCleanSources s
    → AreCleanSources (after_change change s)
clean_after (SetDump d) s is h = record { feeds = h.feeds; rows = h.rows; stats = h.stats }
clean_after (SetFeed f) s is h = record {
  feeds = each_placed (λ f. Each (λ e. IsCleanSaid e.said) f.entries) (λ x. x.url) f s.feeds is
      h.feeds;
  rows = h.rows;
  stats = h.stats;
}
clean_after (SetStats t) s is h = record {
  feeds = h.feeds;
  rows = h.rows;
  stats = each_placed (λ t. Each (λ d. IsCleanPlace d.place) t.rows) (λ x. x.slot) t s.stats is
      h.stats;
}
clean_after (SetOverrides o) s is h = record { feeds = h.feeds; rows = is; stats = h.stats }
clean_after (DropDump slot) s is h = record { feeds = h.feeds; rows = h.rows; stats = h.stats }
clean_after (DropFeed url) s is h = record {
  feeds = each_filter (λ f. Each (λ e. IsCleanSaid e.said) f.entries)
      (λ x. not (same_text x.url url)) s.feeds h.feeds;
  rows = h.rows;
  stats = h.stats;
}
clean_after (DropStats slot) s is h = record {
  feeds = h.feeds;
  rows = h.rows;
  stats = each_filter (λ t. Each (λ d. IsCleanPlace d.place) t.rows)
      (λ x. not (same_text x.slot slot)) s.stats h.stats;
}
clean_after DropOverrides s is h = record { feeds = h.feeds; rows = tt; stats = h.stats }

dump_clean : (found : Result DumpParts SourceFault) → IsCleanIf (dump_change found)
dump_clean (Ok found) = tt
dump_clean (Err fault) = tt

drop_clean : (source : Origin) → IsClean (drop_change source)
drop_clean (gone.Rpsl slot) = tt
drop_clean (gone.Stats slot) = tt
drop_clean (gone.Feed url) = tt
drop_clean gone.Overrides = tt

change_clean : (act : Act) (held : Option (List ℕ)) → IsCleanIf (change_by act held)
change_clean (acts.Rpsl slot file) None = tt
change_clean (acts.Rpsl slot file) (Some bytes) = dump_clean (dump slot bytes)
change_clean (acts.Stats slot file) None = tt
change_clean (acts.Stats slot file) (Some bytes) = stats_are_clean slot bytes
change_clean (acts.Feed url file) None = tt
change_clean (acts.Feed url file) (Some bytes) = feed_is_clean bytes
change_clean (acts.Overrides file) None = tt
change_clean (acts.Overrides file) (Some bytes) = overrides_are_clean bytes
change_clean (acts.Drop source) held = drop_clean source
change_clean (acts.Emit file) held = tt
change_clean acts.Report held = tt
change_clean (acts.Mark name) held = tt
change_clean (acts.Back name) held = tt
change_clean acts.Compact held = tt

-- ---- where a session stands

-- its sources are clean, and those of its marks
record IsCleanAtAll (w : Standing) : Type 0 where
  sources : AreCleanSources w.state.sources
  marks : Each (λ m. AreCleanSources m.sources) w.marks

begun_clean : (epoch : ℕ) (name : List ℕ) → IsCleanAtAll (begun_standing epoch name)
begun_clean epoch name =
    record { sources = record { feeds = tt; rows = tt; stats = tt }; marks = tt }

sourced_clean : (change : Option Change) (w : Standing) → IsCleanIf change → IsCleanAtAll w
    → IsCleanAtAll (sourced change w)
sourced_clean None w is h = h
sourced_clean (Some change) w is h = record {
  sources = clean_after change w.state.sources is h.sources;
  marks = h.marks;
}

marked_clean : (name : List ℕ) (w : Standing) → IsCleanAtAll w → IsCleanAtAll (marked name w)
marked_clean name w h = record {
  sources = h.sources;
  marks = each_placed (λ m. AreCleanSources m.sources) (λ m. m.name) (record {
    name = name;
    sources = w.state.sources;
    base = w.base;
    pending = w.pending;
  }) w.marks h.sources h.marks;
}

back_clean : (name : List ℕ) (w : Standing) → IsCleanAtAll w → IsCleanAtAll (went_back name w)
back_clean name w h =
    by (mark_named name w)
    (each_found (λ m. AreCleanSources m.sources) (λ m. same_text m.name name) w.marks h.marks)
  where
    by : (o : Option StandingMark) → IfAny (λ m. AreCleanSources m.sources) o
        → IsCleanAtAll (at_mark o w)
    by None is = h
    by (Some m) is = record { sources = is; marks = h.marks }

-- ---- moves

act_clean : (act : Act) (world : World) → IsCleanAtAll world.session
    → IsCleanAtAll (act_effect act world).session
act_clean act world h = by act
  where
    set : (a : Act) → IsCleanAtAll
        (sourced (change_by a (file_in world (file_named a))) world.session)
    set a = sourced_clean (change_by a (file_in world (file_named a))) world.session
        (change_clean a (file_in world (file_named a))) h

    by : (a : Act) → IsCleanAtAll (act_effect a world).session
    by (acts.Rpsl slot file) = set (acts.Rpsl slot file)
    by (acts.Stats slot file) = set (acts.Stats slot file)
    by (acts.Feed url file) = set (acts.Feed url file)
    by (acts.Overrides file) = set (acts.Overrides file)
    by (acts.Drop source) =
        sourced_clean (change_by (acts.Drop source) None) world.session (drop_clean source) h
    by (acts.Emit file) = record { sources = h.sources; marks = h.marks }
    by acts.Report = h
    by (acts.Mark name) = marked_clean name world.session h
    by (acts.Back name) = back_clean name world.session h
    by acts.Compact = record { sources = h.sources; marks = h.marks }

-- a move of a line, or one that sets a source that is clean, and not the last one of a command
abbrev IsOfLine : Move → Type 0
IsOfLine (looks step) = Unit {0}
IsOfLine (counts step) = Unit {0}
IsOfLine (does step) = Unit {0}
IsOfLine (sets change) = IsClean change
IsOfLine (shows last) = ⊥

move_clean : (move : Move) (world : World) → IsOfLine move → IsCleanAtAll world.session
    → IsCleanAtAll (after move world).session
move_clean (looks step) world is h = h
move_clean (counts step) world is h = h
move_clean (does step) world is h = act_clean step.act world h
move_clean (sets change) world is h = sourced_clean (Some change) world.session is h
move_clean (shows last) world is h = absurd is

course_clean : (moves : List Move) (world last : World) → Each IsOfLine moves
    → course moves world ≡ ended last → IsCleanAtAll world.session → IsCleanAtAll last.session
course_clean [] world last is done h =
    let same : world ≡ last = cc in
    subst (λ (w : World). IsCleanAtAll w.session) same h
course_clean (move ∷ moves) world last is done h =
    by (blocked move world) (λ go. course_clean moves (after move world) last is.1 go
    (move_clean move world is.0 h)) done
  where
    by : (b : Option Cause)
        → (course moves (after move world) ≡ ended last → IsCleanAtAll last.session)
        → unless b move world (course moves (after move world)) ≡ ended last
        → IsCleanAtAll last.session
    by None next go = next go
    by (Some why) next go = absurd cc

-- ---- the moves of a job

of_map : (make : Step → Move) → ((step : Step) → IsOfLine (make step)) → (steps : List Step)
    → Each IsOfLine (map make steps)
of_map make is [] = tt
of_map make is (step ∷ steps) = (is step, of_map make is steps)

of_group : (group : List Step) → Each IsOfLine (together group)
of_group group =
    each_append IsOfLine (map looks group) (map counts group ++ map does group)
    (of_map looks (λ step. tt) group)
    (each_append IsOfLine (map counts group) (map does group) (of_map counts (λ step. tt) group)
    (of_map does (λ step. tt) group))

of_alone : (scope : Scope) (step : Step) → Each IsOfLine (alone scope step)
of_alone scope step = by (takes scope step.act)
  where
    by : (b : Bool) → Each IsOfLine (cond b (does step ∷ []) [])
    by true = (tt, tt)
    by false = tt

of_moves : (scope : Scope) (group steps : List Step) → Each IsOfLine (moves_from scope group steps)
of_moves scope group [] = of_group group
of_moves scope group (step ∷ steps) =
    by (sets_feed step.act) (nat_lt (length group) most_together)
    (of_moves scope (group ++ step ∷ []) steps) (of_moves scope (step ∷ []) steps)
    (of_moves scope [] steps)
  where
    by : (sets few : Bool) → Each IsOfLine (moves_from scope (group ++ step ∷ []) steps)
        → Each IsOfLine (moves_from scope (step ∷ []) steps)
        → Each IsOfLine (moves_from scope [] steps)
        → Each IsOfLine (cond sets (cond few (moves_from scope (group ++ step ∷ []) steps)
        (together group ++ moves_from scope (step ∷ []) steps))
        (together group ++ (alone scope step ++ moves_from scope [] steps)))
    by true true more anew rest = more
    by true false more anew rest =
        each_append IsOfLine (together group) (moves_from scope (step ∷ []) steps) (of_group group)
        anew
    by false few more anew rest =
        each_append IsOfLine (together group) (alone scope step ++ moves_from scope [] steps)
        (of_group group)
        (each_append IsOfLine (alone scope step) (moves_from scope [] steps) (of_alone scope step)
        rest)

-- ---- the moves of a command

-- all but the last are of lines
abbrev AreOfLines : List Move → Type 0
AreOfLines [] = Unit {0}
AreOfLines (move ∷ []) = Unit {0}
AreOfLines (move ∷ next ∷ moves) = IsOfLine move × AreOfLines (next ∷ moves)

all_of_lines : (moves : List Move) → Each IsOfLine moves → AreOfLines moves
all_of_lines [] e = tt
all_of_lines (move ∷ []) e = tt
all_of_lines (move ∷ next ∷ moves) e = (e.0, all_of_lines (next ∷ moves) e.1)

but_the_last : (moves : List Move) (last : Move) → Each IsOfLine moves
    → AreOfLines (moves ++ last ∷ [])
but_the_last [] last e = tt
but_the_last (move ∷ []) last e = (e.0, tt)
but_the_last (move ∷ next ∷ moves) last e = (e.0, but_the_last (next ∷ moves) last e.1)

before : (moves : List Move) (count : ℕ) (move : Move) → AreOfLines moves
    → slice_get moves count ≡ Some move → Each IsOfLine (take count moves)
before [] zero move e next = tt
before [] (suc count) move e next = tt
before (first ∷ moves) zero move e next = tt
before (first ∷ []) (suc count) move e next = absurd cc
before (first ∷ more ∷ moves) (suc count) move e next =
    (e.0, before (more ∷ moves) count move e.1 next)

abbrev IsCleanPlan : Plan → Type 0
IsCleanPlan (refused why name) = Unit {0}
IsCleanPlan (planned moves start) = AreOfLines moves × IsCleanAtAll start.session

of_job : (steps : List Step) → AreOfLines (moves_of steps)
of_job steps = all_of_lines (moves_of steps) (of_moves Whole [] steps)

of_sources : (steps : List Step) (last : Move) → AreOfLines (source_moves steps ++ last ∷ [])
of_sources steps last = but_the_last (source_moves steps) last (of_moves Sources [] steps)

of_generated : (lines : ℕ) (file : List ℕ) → AreOfLines (gen_moves lines file)
unfolding gen_moves
of_generated lines file = (
  tt,
  (
    stats_are_clean (codes "gen") stats_text,
    (
      feed_is_clean (feed false lines),
      (tt, (feed_is_clean (feed true lines), tt)),
    ),
  ),
)

job_clean : (known : Command) → ((steps : List Step) → AreOfLines (moves_for known steps))
    → (first : Told) (name : List ℕ) (read : Result Job Cause)
    → IsCleanPlan (job_plan known first name read)
job_clean known are first name (Err cause) = tt
job_clean known are first name (Ok read) =
    (are read.steps, begun_clean read.meta.epoch read.meta.name)

answer_clean : (first : Told) (name : List ℕ) (found : Result (List ℕ) LookupFault)
    → IsCleanPlan (answer_plan first name found)
answer_clean first name (Err fault) = tt
answer_clean first name (Ok text) = (tt, begun_clean 0 [])

lookup_clean : (first : Told) (name : List ℕ) (address : ℕ) (held : Option (List ℕ))
    → IsCleanPlan (lookup_plan first name address held)
lookup_clean first name address held = by (unreadable longest_file held) held
  where
    by : (cause : Option Cause) (here : Option (List ℕ))
        → IsCleanPlan (unless_unreadable cause name (answered_in address first name here))
    by (Some cause) here = tt
    by None None = tt
    by None (Some bytes) = answer_clean first name (answer bytes address)

plan_clean : (first : Told) (command : Option Command) → IsCleanPlan (plan_of first command)
plan_clean first None = tt
plan_clean first (Some (build name)) =
    job_clean (build name) of_job first name (held_job (files.get first.held name))
plan_clean first (Some (lookup name address)) =
    lookup_clean first name address (files.get first.held name)
plan_clean first (Some (explain name address)) =
    job_clean (explain name address) (λ steps. of_sources steps (shows (explaining address)))
    first name
    (held_job (files.get first.held name))
plan_clean first (Some (gen lines file)) =
    (of_generated lines file, begun_clean gen_epoch gen_name)
plan_clean first (Some (publish name block file)) =
    job_clean (publish name block file)
    (λ steps. of_sources steps (shows (publishing block file))) first name
    (held_job (files.get first.held name))
plan_clean first (Some (check name url)) =
    job_clean (check name url) (λ steps. of_sources steps (shows (checking url))) first name
    (held_job (files.get first.held name))
plan_clean first (Some (census name)) =
    job_clean (census name) (λ steps. of_sources steps (shows counting)) first name
    (held_job (files.get first.held name))

pub sources_are_clean : SourcesAreClean
sources_are_clean command first move world reach =
    let plan = subst IsCleanPlan reach.plan (plan_clean first command) in
    let made = before reach.moves reach.count move plan.0 reach.there.next in
    (course_clean (take reach.count reach.moves) reach.start world made reach.there.done
    plan.1).sources
