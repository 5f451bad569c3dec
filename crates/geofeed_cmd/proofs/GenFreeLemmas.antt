-- No move of the generated job is blocked, and where its moves lead.
use Rattle.std.proofs.Common.{◌≡◌, ℕ, zero, suc, ◌≤◌, Bool, true, List, [], ◌∷◌, take, refl, ap}
use Rattle.std.proofs.Common.{◌∙◌, subst, Option, Some, None}
use Rattle.std.specs.Prelude.{if◌then◌else◌}
use Rattle.geo_outside.specs.Files.{Told}
use Rattle.source_changes.specs.Changes.{Change, SetFeed}
use Rattle.job_run.specs.declared.stop.Cause.{Cause}
use Rattle.job_run.specs.declared.stop.Cause.TheVariants.{TooLarge}
use Rattle.job_run.specs.Acts.{Move, after, blocked, does, sets}
use Rattle.job_run.specs.Course.{ended, unless, course, IsAt}
use Rattle.job_run.specs.Stops.{IsSpent}
use Rattle.job_run.specs.World.{World}
use Rattle.generated_job.specs.Job.{first_set, the_feed}
use Rattle.generated_job.proofs.FreeLemmas.{emits_freely}
use Rattle.geofeed_cmd.specs.Commands.Generate.{emit_step, gen_moves, gen_start}

-- ---- moves that can all be made

-- each of these moves can be made from this world on, and there are numbers for what it makes
abbrev AllFree : List Move → World → Type 0
AllFree [] world = Unit {0}
AllFree (move ∷ moves) world =
    ((blocked move world ≡ None) × (IsSpent move world → ⊥)) × AllFree moves (after move world)

free_at : (moves : List Move) (start : World) → AllFree moves start
    → (count : ℕ) (move : Move) (world : World) → IsAt moves start count move world
    → (blocked move world ≡ None) × (IsSpent move world → ⊥)
free_at [] start free count move world there = absurd (let next = there.next in cc)
free_at (first ∷ moves) start free zero move world there =
    let same : first ≡ move = let next = there.next in cc in
    let now : start ≡ world = let done = there.done in cc in
    subst (λ (m : Move). (blocked m world ≡ None) × (IsSpent m world → ⊥)) same
    (subst (λ (w : World). (blocked first w ≡ None) × (IsSpent first w → ⊥)) now free.0)
free_at (first ∷ moves) start free (suc count) move world there =
    let led : course (take count moves) (after first start) ≡ ended world =
    subst (λ (b : Option Cause).
    unless b first start (course (take count moves) (after first start)) ≡ ended world) free.0.0
    there.done in
    free_at moves (after first start) free.1 count move world
    (record { done = led; next = there.next })

-- ---- the worlds of the run

module _ (lines : ℕ) (few : lines ≤ 1000000) (file : List ℕ) (first : Told) where
  abbrev pub start : World
  start = gen_start first

  -- before the first emit, behind it, before the second, and behind all
  abbrev pub at_first : World
  at_first = record { told = first; session = first_set lines; text = [] }

  abbrev pub wrote_first : World
  wrote_first = after (does (emit_step 5 file)) at_first

  abbrev pub at_second : World
  at_second = after (sets (SetFeed (the_feed true lines))) wrote_first

  abbrev pub wrote_second : World
  wrote_second = after (does (emit_step 7 file)) at_second

  pub first_free : blocked (does (emit_step 5 file)) at_first ≡ None
  first_free = ap (λ (b : Bool). if b then Some TooLarge else None) (emits_freely lines few).0.fits

  pub second_free : blocked (does (emit_step 7 file)) at_second ≡ None
  second_free = ap (λ (b : Bool). if b then Some TooLarge else None) (emits_freely lines few).1.fits

  first_spent : IsSpent (does (emit_step 5 file)) at_first → ⊥
  first_spent spent = (emits_freely lines few).0.numbered spent.many

  second_spent : IsSpent (does (emit_step 7 file)) at_second → ⊥
  second_spent spent = (emits_freely lines few).1.numbered spent.many

  unbuilt : (change : Change) (world : World) → IsSpent (sets change) world → ⊥
  unbuilt change world spent = absurd spent.builds

  all_free : AllFree (gen_moves lines file) start
  unfolding gen_moves
  all_free = (
    (refl, unbuilt _ _),
    (
      (refl, unbuilt _ _),
      (
        (refl, unbuilt _ _),
        (
          (first_free, first_spent),
          (
            (refl, unbuilt _ _),
            ((second_free, second_spent), tt),
          ),
        ),
      ),
    ),
  )

  -- all moves are made, and they lead to the last of these worlds
  pub gen_course : course (gen_moves lines file) start ≡ ended wrote_second
  unfolding gen_moves
  gen_course =
      ap (λ (b : Option Cause). unless b (does (emit_step 5 file)) at_first
      (course (sets (SetFeed (the_feed true lines)) ∷ does (emit_step 7 file) ∷ []) wrote_first))
      first_free
      ∙ ap (λ (b : Option Cause). unless b (does (emit_step 7 file)) at_second (ended wrote_second))
      second_free

  pub runs_freely : (count : ℕ) (move : Move) (world : World)
      → IsAt (gen_moves lines file) start count move world
      → (blocked move world ≡ None) × (IsSpent move world → ⊥)
  runs_freely count move world there =
      free_at (gen_moves lines file) start all_free count move world there
