-- How the answer of a lookup follows from its print.
use Rattle.std.proofs.Common.{◌≡◌, ℕ, zero, suc, ◌+◌, ◌≤◌, ◌⊎◌, inl, inr, List, [], ◌∷◌, refl, sym}
use Rattle.std.proofs.Common.{subst, arith}
use Rattle.std.specs.Prelude.{Option, Some, slice_get}
use Rattle.geo_outside.specs.Count.{Rose}
use Rattle.geo_outside.specs.Files.{Told}
use Rattle.geofeed_cmd.specs.declared.status.Status.TheVariants as statuses
use Rattle.job_run.specs.declared.stop.Stop.{Stop}
use Rattle.job_run.specs.declared.stop.Stop.TheVariants.{SinkFailed, Memory}
use Rattle.job_lines.specs.Commands.{Command}
use Rattle.job_run.specs.Acts.{Move, shows, after}
use Rattle.geofeed_cmd.specs.Run.Answers.{Comes, Leaves}
use Rattle.geofeed_cmd.specs.Run.Plans.{plan_of, planned, alone}
use Rattle.geofeed_cmd.specs.Run.Lines.{status_of}
use Rattle.job_run.specs.Published.{Publishes}
use Rattle.job_run.specs.Seen.{Seen, Prints}
use Rattle.job_run.specs.Stops.{Halts, Tail}
use Rattle.job_run.specs.World.{printing}
use Rattle.geofeed_cmd.proofs.AnswerLemmas.{at_planned, by_cause}

only_move : (text : List ℕ) (count : ℕ) (move : Move)
    → slice_get (shows (printing text) ∷ []) count ≡ Some move → shows (printing text) ≡ move
only_move text zero move next = cc
only_move text (suc count) move next = cc

module _ (command : Option Command) (text : List ℕ) (first : Told) (old new : Seen) (puts puts_now :
    ℕ) (plan : plan_of first command ≡ planned (shows (printing text) ∷ []) (alone first))
    (files : new.told ≡ Some first) (steps : new.steps ≤ old.steps) where
  pub comes-shown : Prints old.written new.written text
      → Comes statuses.Done command first old new puts puts_now
  comes-shown printed = record {
    moves = shows (printing text) ∷ [];
    start = alone first;
    last = after (shows (printing text)) (alone first);
    plan = plan;
    all = refl;
    files = files;
    printed = printed;
    steps = let e : new.steps ≤ old.steps + 0 = omega arith in e;
    published = λ move world reach.
        let there =
        at_planned command first (shows (printing text) ∷ []) (alone first) plan move world reach in
        subst (λ m. Publishes m world.session.state)
        (only_move text reach.count move there.next) tt;
  }

  unshown : (why : Stop) → (why ≡ SinkFailed) ⊎ (why ≡ Memory)
      → Halts why (shows (printing text)) (alone first) new.told
  unshown why causes = elim causes [
    | inl failed ↦ subst (λ w. Halts w (shows (printing text))
        (alone first) new.told) (sym failed) (record { prints = tt; free = refl; files = files })
    | inr out ↦
        subst (λ w. Halts w (shows (printing text)) (alone first) new.told) (sym out) (inl files)
  ]

  left : (why : Stop)
      → (why ≡ SinkFailed) ⊎ (why ≡ Memory) → Tail why [] text old.written new.written
      → Leaves why (shows (printing text)) (alone first) old new
  left why causes = elim causes [
    | inl failed ↦ subst (λ w. Tail w [] text old.written new.written
        → Leaves w (shows (printing text)) (alone first) old new) (sym failed) (λ tail. tail)
    | inr out ↦ subst (λ w. Tail w [] text old.written new.written
        → Leaves w (shows (printing text)) (alone first) old new) (sym out) (λ tail. tail)
  ]

  pub comes-unshown : (why : Stop)
      → (why ≡ SinkFailed) ⊎ (why ≡ Memory) → Tail why [] text old.written new.written
      → (why ≡ SinkFailed → Rose old.print_faults new.print_faults)
      → Comes (status_of why) command first old new puts puts_now
  comes-unshown why causes tail sink =
      by_cause command first (shows (printing text) ∷ []) (alone first) old new puts puts_now plan
      why 0 (shows (printing text)) (alone first) (record { done = refl; next = refl })
      (unshown why causes) (left why causes tail)
      (let e : new.steps ≤ old.steps + 0 = omega arith in e)
      (λ put. absurd (elim causes [
        | inl failed ↦ (let a = put in let b = failed in cc)
        | inr out ↦ (let a = put in let b = out in cc)
      ])) sink
