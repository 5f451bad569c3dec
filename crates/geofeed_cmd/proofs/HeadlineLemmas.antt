-- What is done at `Done`.
use Rattle.std.proofs.Common.{◌≡◌, ℕ, zero, suc, ◌≤◌, ◌⊎◌, inl, inr, List, [], ◌∷◌, length, map}
use Rattle.std.proofs.Common.{refl, sym, ◌∙◌, ap, subst, Bool, true, false}
use Rattle.std.proofs.lemmas.List.{length-map}
use Rattle.std.specs.Prelude.{Option, Some, option_map, slice_index_or}
use Rattle.geo_addr.specs.Bits.{bits_of}
use Rattle.geo_outside.specs.Files.{Told}
use Rattle.geo_terms.specs.Precedence.{record_at}
use Rattle.least_nodes.specs.NodeList.{Member, at, says, go, side, records_at, map_member, map_pair}
use Rattle.least_nodes.specs.Laws.{Finds}
use Rattle.update_session.specs.State.{State, FileValue}
use Rattle.job_lines.specs.declared.act.Act.TheVariants.{Emit}
use Rattle.job_lines.specs.declared.job.Step.{Step}
use Rattle.geofeed_cmd.specs.declared.status.Status.{Status}
use Rattle.geofeed_cmd.specs.declared.status.Status.TheVariants as statuses
use Rattle.job_run.specs.Acts.{does}
use Rattle.geofeed_cmd.specs.Run.Answers.{Comes, IsDone, Prevails, SpendsAll, read, write, memory}
use Rattle.geofeed_cmd.specs.Run.Answers.{spent}
use Rattle.job_lines.specs.Commands.{Command}
use Rattle.geofeed_cmd.specs.Run.Plans.{Reaches}
use Rattle.job_run.specs.Published.{IsLeastByValue, IsPublished}
use Rattle.job_run.specs.Seen.{Seen}
use Rattle.job_run.specs.World.{World}
use Rattle.geofeed_cmd.proofs.ValueLemmas.{record_of, record_back}

module _ {A B : Type 0} (f : A → B) where
  records-map : (nodes : List (Member A × Member A)) (i j : ℕ) → map_pair f
      (slice_index_or nodes i (at j, at j)) ≡ slice_index_or (map (map_pair f) nodes) i (at j, at j)
  records-map [] i j = refl
  records-map (pair ∷ nodes) zero j = refl
  records-map (pair ∷ nodes) (suc i) j = records-map nodes i j

  side-map : (b : Bool) (pair : Member A × Member A)
      → side b (map_pair f pair) ≡ map_member f (side b pair)
  side-map true pair = refl
  side-map false pair = refl

  -- the walk through renamed nodes comes to the renamed answer
  go-map : (nodes : List (Member A × Member A)) (m : Member A) (w : List Bool)
      → go (map (map_pair f) nodes) (map_member f m) w ≡ option_map f (go nodes m w)
  go-map nodes (says a) w = refl
  go-map nodes (at i) [] = refl
  go-map nodes (at i) (b ∷ w) =
      ap (λ m. go (map (map_pair f) nodes) m w) (ap (side b) (sym (records-map nodes i i))
      ∙ side-map b (records_at nodes i)) ∙ go-map nodes (side b (records_at nodes i)) w

-- a published file is least by value too
pub least_by_value : (state : State) → IsPublished state → IsLeastByValue state
least_by_value state published file emitted distinct nodes finds =
    let same : published.file ≡ file = cc (published.emitted, emitted) in
    let back_of = record_of state in
    let back : Finds 128 (map (map_pair back_of) nodes) (record_at state.sources) =
    λ a low. go-map back_of nodes (at 0) (bits_of 128 a) ∙ ap (option_map back_of) (finds a low)
    ∙ ap Some (record_back state distinct a low) in
    subst (λ (n : ℕ). file.nodes ≤ n) (length-map nodes (map_pair back_of))
    (subst (λ (f : FileValue). f.nodes ≤ length (map (map_pair back_of) nodes)) same
    (published.least.fewest (map (map_pair back_of) nodes) back))

pub done_of : (status : Status) (command : Option Command) (first : Told) (old new : Seen)
    (puts puts_now : ℕ) → status ≡ statuses.Done
    → Comes status command first old new puts puts_now → IsDone command first old new
done_of status command first old new puts puts_now is comes =
    subst (λ s. Comes s command first old new puts puts_now) is comes

-- an emit of a command that came to `Done` published its file
pub published_at : (command : Option Command) (first : Told) (old new : Seen)
    → IsDone command first old new
    → (step : Step) (name : List ℕ) (world : World) → Reaches command first (does step) world
    → step.act ≡ Emit name → IsPublished world.session.state
published_at command first old new done step name world there emits =
    done.published (does step) world there name emits

of-fault : (command : Option Command) (first : Told) (status : Status)
    → Prevails command first status → ¬ SpendsAll command first
    → (reads writes prints : Type 0)
    → (status ≡ statuses.ReadFault → reads) → (status ≡ statuses.WriteFault → writes ⊎ prints)
    → (reads → ⊥)
    → (writes → ⊥) → (prints → ⊥) → (status ≡ statuses.Done) ⊎ (status ≡ statuses.Memory)
of-fault command first status read cheap reads writes prints read_rose write_rose unread unwritten
    unprinted = absurd (unread (read_rose refl))
of-fault command first status write cheap reads writes prints read_rose write_rose unread
    unwritten unprinted =
    elim (write_rose refl) [
      | inl put ↦ absurd (unwritten put)
      | inr print ↦ absurd (unprinted print)
    ]
of-fault command first status memory cheap reads writes prints read_rose write_rose unread unwritten
    unprinted = inr refl
of-fault command first status (spent all) cheap reads writes prints read_rose write_rose unread
    unwritten unprinted = absurd (cheap all)

-- where nothing failed outside, and the steps are counted,
-- an answer that may prevail is `Done` or `Memory`
pub no_fault : (command : Option Command) (first : Told) (status : Status)
    → ¬ SpendsAll command first
    → (reads writes prints : Type 0)
    → (status ≡ statuses.ReadFault → reads) → (status ≡ statuses.WriteFault → writes ⊎ prints)
    → (reads → ⊥)
    → (writes → ⊥) → (prints → ⊥) → (status ≡ statuses.Done) ⊎ Prevails command first status
    → (status ≡ statuses.Done) ⊎ (status ≡ statuses.Memory)
no_fault command first status cheap reads writes prints read_rose write_rose unread unwritten
    unprinted answer =
    elim answer [
      | inl done ↦ inl done
      | inr fault ↦ of-fault command first status fault cheap reads writes prints read_rose
          write_rose unread unwritten unprinted
    ]
