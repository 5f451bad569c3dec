-- The causes for which a move of a command is blocked.
use Rattle.std.proofs.Common.{◌≡◌, ℕ, zero, suc, Bool, true, false, nat_lt, List, [], ◌∷◌, ◌++◌}
use Rattle.std.proofs.Common.{length, map, subst}
use Rattle.std.specs.Prelude.{is_some, Option, Some, None, Result, Ok, Err, slice_get}
use Rattle.std.specs.Prelude.{if◌then◌else◌}
use Rattle.geo_terms.specs.SourceForm.{DumpParts, FeedParts}
use Rattle.geo_terms.specs.Sources.{feed_of}
use Rattle.geo_terms.specs.declared.source.SourceFault.{SourceFault}
use Rattle.geo_terms.specs.declared.source.SourceFault.TheVariants as faults
use Rattle.feed_csv.specs.File.{longest as longest_feed, most as most_entries}
use Rattle.feed_refs.specs.Dumps.{dump}
use Rattle.nro_stats.specs.File.{longest as longest_stats, most as most_delegations}
use Rattle.override_rows.specs.File.{longest as longest_overrides, most as most_rows}
use Rattle.update_session.specs.Standing.{mark_named}
use Rattle.update_session.specs.State.{is_too_large}
use Rattle.job_lines.specs.declared.act.Act.{Act}
use Rattle.job_lines.specs.declared.act.Act.TheVariants as acts
use Rattle.job_lines.specs.declared.job.Step.{Step}
use Rattle.job_lines.specs.Commands.{Command}
use Rattle.job_lines.specs.Commands as commands
use Rattle.job_run.specs.declared.scope.Scope.{Scope}
use Rattle.job_run.specs.declared.scope.Scope.TheVariants.{Whole, Sources}
use Rattle.job_run.specs.declared.stop.Cause.{Cause}
use Rattle.job_run.specs.declared.stop.Cause.TheVariants as causes
use Rattle.job_run.specs.Acts.{Move, looks, counts, does, shows, act_effect, blocked}
use Rattle.job_run.specs.Dumps.{no_dump, refusal}
use Rattle.job_run.specs.Moves.{alone, most_together, moves_from, sets_feed, takes, together}
use Rattle.job_run.specs.Sources.{crowded, entries_of, file_named, is_there, no_source, rows_of}
use Rattle.job_run.specs.Sources.{settings_of, uncounted, unreadable, unusable}
use Rattle.job_run.specs.World.{World, file_in, printing}
use Rattle.geofeed_cmd.specs.Commands.Generate.{gen_moves}
use Rattle.geofeed_cmd.specs.Commands.Publish.{publishing}
use Rattle.geofeed_cmd.specs.Commands.Census.{counting as census_of}
use Rattle.geofeed_cmd.specs.Commands.Check.{checking, no_feed}
use Rattle.geofeed_cmd.specs.Commands.Explain.{explaining}
use Rattle.geofeed_cmd.specs.Run.Plans.{moves_for}

-- all but those of words, of a job and of a file that is looked up in
abbrev pub IsOfMove : Cause → Type 0
IsOfMove causes.Words = ⊥
IsOfMove causes.Missing = Unit {0}
IsOfMove (causes.Job fault) = ⊥
IsOfMove causes.TooLong = Unit {0}
IsOfMove causes.TooMany = Unit {0}
IsOfMove causes.NotThere = Unit {0}
IsOfMove causes.NoMark = Unit {0}
IsOfMove causes.NoFeed = Unit {0}
IsOfMove causes.TooLarge = Unit {0}
IsOfMove (causes.File fault) = ⊥

abbrev pub AreOfMove : Option Cause → Type 0
AreOfMove None = Unit {0}
AreOfMove (Some why) = IsOfMove why

either : (b : Bool) (x y : Option Cause) → AreOfMove x → AreOfMove y
    → AreOfMove (if b then x else y)
either true x y p q = p
either false x y p q = q

reading : (limit : ℕ) (held : Option (List ℕ)) → AreOfMove (unreadable limit held)
unfolding unreadable
reading limit None = tt
reading limit (Some bytes) = either (nat_lt limit (length bytes)) (Some causes.TooLong) None tt tt

counting : (room n : ℕ) → AreOfMove (crowded room n)
unfolding crowded
counting room n = either (nat_lt room n) (Some causes.TooMany) None tt tt

setting : (why : Option Cause) (room : ℕ) (statements : List ℕ → ℕ) (held : Option (List ℕ))
    → AreOfMove why → AreOfMove (uncounted why room statements held)
setting (Some why) room statements held its = its
setting None room statements None its = tt
setting None room statements (Some bytes) its = counting room (statements bytes)

using : (limit room : ℕ) (statements : List ℕ → ℕ) (held : Option (List ℕ))
    → AreOfMove (unusable limit room statements held)
using limit room statements held =
    setting (unreadable limit held) room statements held (reading limit held)

refusing : (found : Result DumpParts SourceFault) → AreOfMove (refusal found)
refusing (Ok found) = tt
refusing (Err faults.TooLong) = tt
refusing (Err faults.TooMany) = tt
refusing (Err faults.Memory) = tt

dumping : (slot : List ℕ) (held : Option (List ℕ)) → AreOfMove (no_dump slot held)
dumping slot None = tt
dumping slot (Some bytes) = refusing (dump slot bytes)

sourcing : (act : Act) (held : Option (List ℕ)) → AreOfMove (no_source act held)
sourcing (acts.Rpsl slot file) held = dumping slot held
sourcing (acts.Stats slot file) held = using longest_stats most_delegations (rows_of slot) held
sourcing (acts.Feed url file) held = using longest_feed most_entries entries_of held
sourcing (acts.Overrides file) held = using longest_overrides most_rows settings_of held
sourcing (acts.Drop source) held = tt
sourcing (acts.Emit file) held = tt
sourcing acts.Report held = tt
sourcing (acts.Mark name) held = tt
sourcing (acts.Back name) held = tt
sourcing acts.Compact held = tt

acting : (act : Act) (world : World) → AreOfMove (act_effect act world).blocked
acting (acts.Rpsl slot file) world = sourcing (acts.Rpsl slot file) (file_in world file)
acting (acts.Stats slot file) world = sourcing (acts.Stats slot file) (file_in world file)
acting (acts.Feed url file) world = tt
acting (acts.Overrides file) world = sourcing (acts.Overrides file) (file_in world file)
acting (acts.Drop source) world =
    either (is_there source world.session.state.sources) None (Some causes.NotThere) tt tt
acting (acts.Emit file) world =
    either (is_too_large world.session.state) (Some causes.TooLarge) None tt tt
acting acts.Report world = tt
acting (acts.Mark name) world = tt
acting (acts.Back name) world =
    either (is_some (mark_named name world.session)) None (Some causes.NoMark) tt tt
acting acts.Compact world = tt

-- each move of a list is blocked for such causes alone
abbrev pub AreFit : List Move → Type 0
AreFit [] = Unit {0}
AreFit (move ∷ moves) = ((world : World) → AreOfMove (blocked move world)) × AreFit moves

pub fit_at : (moves : List Move) (count : ℕ) (move : Move) → AreFit moves
    → slice_get moves count ≡ Some move
    → (world : World) → AreOfMove (blocked move world)
fit_at [] count move fit next world = absurd (cc)
fit_at (first ∷ rest) zero move fit next world =
    let e : first ≡ move = cc in subst (λ m. AreOfMove (blocked m world)) e (fit.0 world)
fit_at (first ∷ rest) (suc count) move fit next world = fit_at rest count move fit.1 next world

pub fit_append : (moves more : List Move) → AreFit moves → AreFit more → AreFit (moves ++ more)
fit_append [] more fit also = also
fit_append (move ∷ moves) more fit also = (fit.0, fit_append moves more fit.1 also)

fit-choice : (b : Bool) (moves more : List Move) → AreFit moves → AreFit more
    → AreFit (if b then moves else more)
fit-choice true moves more fit also = fit
fit-choice false moves more fit also = also

fit-looks : (group : List Step) → AreFit (map looks group)
fit-looks [] = tt
fit-looks (step ∷ steps) =
    (λ world. reading longest_feed (file_in world (file_named step.act)), fit-looks steps)

fit-counts : (group : List Step) → AreFit (map counts group)
fit-counts [] = tt
fit-counts (step ∷ steps) =
    (λ world. sourcing step.act (file_in world (file_named step.act)), fit-counts steps)

fit-does : (group : List Step) → AreFit (map does group)
fit-does [] = tt
fit-does (step ∷ steps) = (λ world. acting step.act world, fit-does steps)

fit-together : (group : List Step) → AreFit (together group)
fit-together group =
    fit_append (map looks group) (map counts group ++ map does group) (fit-looks group)
    (fit_append (map counts group) (map does group) (fit-counts group) (fit-does group))

fit-alone : (scope : Scope) (step : Step) → AreFit (alone scope step)
fit-alone scope step =
    fit-choice (takes scope step.act) (does step ∷ []) [] (λ world. acting step.act world, tt) tt

-- the moves of a job
pub fit_moves : (scope : Scope) (group steps : List Step) → AreFit (moves_from scope group steps)
fit_moves scope group [] = fit-together group
fit_moves scope group (step ∷ steps) =
    fit-choice (sets_feed step.act) _ _
    (fit-choice (nat_lt (length group) most_together) _ _
    (fit_moves scope (group ++ step ∷ []) steps)
    (fit_append (together group) (moves_from scope (step ∷ []) steps) (fit-together group)
    (fit_moves scope (step ∷ []) steps)))
    (fit_append (together group) (alone scope step ++ moves_from scope [] steps)
    (fit-together group)
    (fit_append (alone scope step) (moves_from scope [] steps) (fit-alone scope step)
    (fit_moves scope [] steps)))

-- the one move that shows a text
pub fit_shown : (text : List ℕ) → AreFit (shows (printing text) ∷ [])
fit_shown text = (λ world. tt, tt)

-- the moves of the generated job
pub fit_generated : (lines : ℕ) (file : List ℕ) → AreFit (gen_moves lines file)
unfolding gen_moves
fit_generated lines file = (
  (λ world. tt),
  (
    (λ world. tt),
    (
      (λ world. tt),
      (
        (λ world. acting (acts.Emit file) world),
        ((λ world. tt), ((λ world. acting (acts.Emit file) world), tt)),
      ),
    ),
  ),
)

-- the feed to be checked is there, or is not
checked : (found : Option FeedParts) → AreOfMove (no_feed found)
checked None = tt
checked (Some f) = tt

-- the moves of each command on a job
pub fit_for : (known : Command) (steps : List Step) → AreFit (moves_for known steps)
fit_for (commands.build name) steps = fit_moves Whole [] steps
fit_for (commands.lookup name address) steps = tt
fit_for (commands.explain name address) steps =
    fit_append (moves_from Sources [] steps) (shows (explaining address) ∷ [])
    (fit_moves Sources [] steps)
    (λ world. tt, tt)
fit_for (commands.gen lines file) steps = tt
fit_for (commands.publish name block file) steps =
    fit_append (moves_from Sources [] steps) (shows (publishing block file) ∷ [])
    (fit_moves Sources [] steps)
    (λ world. tt, tt)
fit_for (commands.check name url) steps =
    fit_append (moves_from Sources [] steps) (shows (checking url) ∷ [])
    (fit_moves Sources [] steps)
    (λ world. checked (feed_of world.session.state.sources url), tt)
fit_for (commands.census name) steps =
    fit_append (moves_from Sources [] steps) (shows census_of ∷ []) (fit_moves Sources [] steps)
    (λ world. tt, tt)
