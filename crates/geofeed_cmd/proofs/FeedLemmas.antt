-- What `publish` leaves in its file.
use Rattle.std.proofs.Common.{◌≡◌, ℕ, Bool, List, [], ◌∷◌, ◌++◌, cond, length, refl, sym}
use Rattle.std.proofs.Common.{◌∙◌, ap, subst}
use Rattle.std.specs.Cmp.Lexicographic.{nat_list_cmp_total, texts_ties}
use Rattle.std.specs.FinMap as files
use Rattle.std.specs.Prelude.{Option, Some, Result, Ok, Err, OnOk}
use Rattle.geo_addr.specs.Ranges.{Prefix}
use Rattle.geo_outside.specs.Files.{Told, after_put}
use Rattle.geo_terms.specs.Sources.{InForce}
use Rattle.geo_terms.proofs.NumberLemmas.{text_told}
use Rattle.update_session.specs.Kept.{Held}
use Rattle.update_session.specs.State.{State}
use Rattle.job_lines.specs.Commands.{Command, publish}
use Rattle.job_lines.specs.declared.job.Step.{Step}
use Rattle.job_run.specs.declared.stop.Stop.{Stop}
use Rattle.job_run.specs.Acts.{shows}
use Rattle.job_run.specs.Moves.{source_moves}
use Rattle.job_run.specs.Seen.{Seen}
use Rattle.job_run.specs.Stops.{DoesAll}
use Rattle.job_run.specs.World.{World}
use Rattle.published.specs.CleanSources.{AreCleanSources}
use Rattle.published.specs.Shortest.{IsShortestFeed}
use Rattle.geofeed_cmd.specs.declared.last.Last.{Last}
use Rattle.geofeed_cmd.specs.declared.last.Last.TheVariants.{Explain, Publish, Check, Census}
use Rattle.geofeed_cmd.specs.Commands.Last.{LeavesBehind, ending_with, last_move}
use Rattle.geofeed_cmd.specs.Commands.Publish.{publishing}
use Rattle.geofeed_cmd.specs.Run.Feeds.{HoldsFeed, LeavesFeed, PublishesFeed}
use Rattle.geofeed_cmd.specs.Run.Plans.{Reaches, plan_of, planned}
use Rattle.geofeed_cmd.proofs.CleanWorlds.{sources_are_clean}
use Rattle.geofeed_cmd.proofs.LastLemmas.{at_last}

-- the feed was put
pub holds_feed : (s : InForce) (block : Prefix) (file bytes : List ℕ) (then : Told)
    (told : Option Told) → told ≡ Some (after_put then file bytes) → IsShortestFeed s block bytes
    → HoldsFeed s block file told
holds_feed s block file bytes then told put feed = record {
  now = after_put then file bytes;
  tells = put;
  bytes = bytes;
  held = files.get-insert nat_list_cmp_total then.held file bytes file
      ∙ ap (λ (b : Bool). cond b (Some bytes) (files.get then.held file))
      (sym (texts_ties file file) ∙ (text_told file file).1 refl);
  feed = feed;
}

-- whether its line is printed or not
pub for_any : (result : Result Unit Stop) (P : Type 0) → P → OnOk result P
for_any (Ok done) P p = p
for_any (Err why) P p = tt

-- the feed is that of the sources in force in the world in which it is written
pub leaves_feed : (command : Option Command) (first : Told) (steps : List Step) (block : Prefix)
    (file : List ℕ) (start : World)
    → plan_of first command
    ≡ planned (source_moves steps ++ shows (publishing block file) ∷ []) start
    → (session : Held) (old mid : Seen) → DoesAll (source_moves steps) start session old mid
    → (told : Option Told)
    → (AreCleanSources session.state.sources → HoldsFeed session.state.sources block file told)
    → LeavesFeed command block file first told
leaves_feed command first steps block file start plan session old mid all told holds =
    let last = shows (publishing block file) in
    let there : Reaches command first last all.world = record {
      moves = source_moves steps ++ last ∷ [];
      start = start;
      count = length (source_moves steps);
      plan = plan;
      there = at_last (source_moves steps) last start all.world all.done;
    } in
    let clean = sources_are_clean command first last all.world there in
    record {
      world = all.world;
      there = there;
      holds = subst (λ (s : State). HoldsFeed s.sources block file told) all.stands.stands.state
          (holds (subst (λ (s : State). AreCleanSources s.sources)
          (sym all.stands.stands.state) clean));
    }

-- the last move of a command leaves what the command is to leave
pub leaves_last : (name : List ℕ) (last : Last) (first : Told) (steps : List Step) (start : World)
    → plan_of first (Some (ending_with name last))
    ≡ planned (source_moves steps ++ last_move last ∷ []) start
    → (session : Held) (old mid : Seen) → DoesAll (source_moves steps) start session old mid
    → (told : Option Told)
    → (AreCleanSources session.state.sources → LeavesBehind last session.state.sources told)
    → PublishesFeed (Some (ending_with name last)) first told
leaves_last name (Explain address) first steps start plan session old mid all told leaves = tt
leaves_last name (Publish block file) first steps start plan session old mid all told leaves =
    leaves_feed (Some (publish name block file.now)) first steps block file.now start plan session
    old mid all told leaves
leaves_last name (Check url) first steps start plan session old mid all told leaves = tt
leaves_last name Census first steps start plan session old mid all told leaves = tt
