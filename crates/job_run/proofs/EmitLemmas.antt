-- What an emit does, and why it stops.
use Rattle.std.proofs.Common.{◌≡◌, ℕ, ◌+◌, ◌≤◌, ◌⊎◌, inl, inr, cond, List, [], Option}
use Rattle.std.proofs.Common.{Some, None, refl, sym, ◌∙◌, ap, subst, arith}
use Rattle.std.specs.Prelude.{IsTrue}
use Rattle.geo_outside.specs.Files.{Told, Spoils, after_put}
use Rattle.update_session.specs.Calls.{HasEmitted, HasGrown, IsSpent}
use Rattle.update_session.specs.Kept.{Held}
use Rattle.update_session.specs.Standing.{StandingStays}
use Rattle.update_session.specs.State.{State, FileValue, file_of, is_too_large}
use Rattle.update_session.specs.Touch.{bound}
use Rattle.job_lines.specs.declared.act.Act.{Act}
use Rattle.job_lines.specs.declared.act.Act.TheVariants.{Emit}
use Rattle.job_lines.specs.declared.job.Step.{Step}
use Rattle.job_run.specs.declared.stop.Cause.TheVariants.{TooLarge}
use Rattle.job_run.specs.declared.stop.Stop.{Stop}
use Rattle.job_run.specs.declared.stop.Stop.TheVariants.{Blocked, PutFailed, SinkFailed, Memory}
use Rattle.job_run.specs.Acts.{does, effect, blocked, after, bytes_in, emit_line, emit_line_of}
use Rattle.job_run.specs.Published.{IsLeastFile, IsPublished}
use Rattle.job_run.specs.Seen.{Seen, Prints}
use Rattle.job_run.specs.Stops.{Does, Fails, Halts, IsIn, IsPaid, IsUnprinted, Tail}
use Rattle.job_run.specs.World.{World}
use Rattle.job_run.proofs.ActLemmas.{at_line, not_too_large, prints_none}

module _ (stays : StandingStays) (step : Step) (world : World) (name : List ℕ) (session : Held)
    (is : step.act ≡ Emit name) (old new : Seen)
    (here : IsIn old.told session world) where
  abbrev emits : Step
  emits = at_line step (Emit name)

  pub paid_emit : (steps steps' : ℕ) → steps' ≤ steps + bound session.touched session.state.sources
      → IsPaid (effect (does step) world) world steps steps'
  paid_emit steps steps' paid =
      let same = stays.same_cost session world.session here.stands in
      subst (λ (a : Act). IsPaid (effect (does (at_line step a)) world) world steps steps') (sym is)
      (omega (arith, same, paid))

  -- it was refused before anything was put
  pub fails_early : (why : Stop) → new.told ≡ old.told → new.written ≡ old.written
      → (why ≡ Blocked TooLarge) ⊎ (why ≡ Memory)
      → (why ≡ Blocked TooLarge → IsTrue (is_too_large session.state) ⊎ IsSpent session)
      → Fails why (does step) world [] old new
  fails_early why same silent causes large =
      let printed = prints_none old.written new.written silent in
      let kept = same ∙ here.tells in
      subst (λ (a : Act). Fails why (does (at_line step a)) world [] old new) (sym is)
      (elim causes [
        | inl blocks ↦ subst (λ (w : Stop). Fails w (does emits) world [] old new) (sym blocks)
            (record {
              files = elim (large blocks) [
                | inl true_here ↦ inl (record {
                  cause = ap (λ b. cond b (Some TooLarge) None)
                      (ap is_too_large (sym here.stands.state) ∙ true_here);
                  files = kept;
                })
                | inr spent ↦ inr (record {
                  large = refl;
                  spent = record {
                    builds = tt;
                    many = stays.same_end session world.session here.stands spent;
                  };
                  files = kept;
                })
              ];
              printed = printed;
            })
        | inr out ↦ subst (λ (w : Stop). Fails w (does emits) world [] old new) (sym out)
            (record { files = inl kept; printed = printed })
      ])

  -- the file was made
  module _ (file : FileValue) (bytes : List ℕ) (made : file_of session.state ≡ Some file)
      (equal : file.bytes ≡ bytes) where
    file_here : file_of world.session.state ≡ Some file
    file_here = subst (λ (s : State). file_of s ≡ Some file) here.stands.state made

    free_emit : blocked (does emits) world ≡ None
    free_emit = ap (λ b. cond b (Some TooLarge) None)
        (not_too_large world.session.state file file_here)

    put_is : (told' : Option Told)
        → ((w : Told) → old.told ≡ Some w → told' ≡ Some (after_put w name bytes))
        → told' ≡ Some (after (does emits) world).told
    put_is told' put =
        put world.told here.tells
        ∙ ap (λ (bs : List ℕ). Some (after_put world.told name bs)) (sym equal)
        ∙ ap (λ (f : Option FileValue). Some (after_put world.told name (bytes_in f)))
        (sym file_here)

    line_is : (line : List ℕ) → line ≡ emit_line name file
        → line ≡ emit_line_of name (file_of world.session.state)
    line_is line said = said ∙ ap (emit_line_of name) (sym file_here)

    pub does_emit : (session' : Held) (line : List ℕ) → IsLeastFile session.state file
        → ((w : Told) → old.told ≡ Some w → new.told ≡ Some (after_put w name bytes))
        → HasGrown session session' → HasEmitted session session'
        → line ≡ emit_line name file → Prints old.written new.written line
        → Does (does step) world session' old new
    does_emit session' line least put grown done said printed =
        subst (λ (a : Act). Does (does (at_line step a)) world session' old new) (sym is) (record {
          free = free_emit;
          now = record {
            tells = put_is new.told put;
            stands =
                stays.emits session session' world.session here.stands grown done;
          };
          printed = subst (Prints old.written new.written) (line_is line said) printed;
          published = λ other is'. subst IsPublished here.stands.state
              (record { file = file; emitted = made; least = least });
        })

    -- it was not put
    pub fails_put : (why : Stop) → new.written ≡ old.written → (why ≡ PutFailed) ⊎ (why ≡ Memory)
        → ((w : Told) → old.told ≡ Some w → why ≡ PutFailed
        → (v : Told) × (new.told ≡ Some v) × Spoils w v name)
        → (why ≡ Memory → new.told ≡ old.told) → Fails why (does step) world [] old new
    fails_put why silent causes spoilt memory =
        let printed = prints_none old.written new.written silent in
        subst (λ (a : Act). Fails why (does (at_line step a)) world [] old new) (sym is)
        (elim causes [
          | inl failed ↦
              let v = spoilt world.told here.tells failed in
              subst (λ (w : Stop). Fails w (does emits) world [] old new) (sym failed)
              (record {
                files = record {
                  bytes = bytes_in (file_of world.session.state);
                  putting =
                      refl;
                  free = free_emit;
                  spoilt = v.0;
                  tells = v.1;
                  spoils = v.2;
                };
                printed =
                    printed;
              })
          | inr out ↦ subst (λ (w : Stop). Fails w (does emits) world [] old new) (sym out)
              (record { files = inl (memory out ∙ here.tells); printed = printed })
        ])

    -- it was put, and its line was not printed
    pub fails_print : (why : Stop) (line : List ℕ)
        → ((w : Told) → old.told ≡ Some w → new.told ≡ Some (after_put w name bytes))
        → line ≡ emit_line name file
        → (why ≡ SinkFailed) ⊎ (why ≡ Memory) → Tail why [] line old.written new.written
        → Fails why (does step) world [] old new
    fails_print why line put said causes tail =
        let left : IsUnprinted (does emits) world new.told =
        record { prints = tt; free = free_emit; files = put_is new.told put } in
        subst (λ (a : Act). Fails why (does (at_line step a)) world [] old new) (sym is) (record {
          files = elim causes [
            | inl failed ↦ subst (λ (w : Stop). Halts w (does emits) world new.told)
                (sym failed) left
            | inr out ↦ subst (λ (w : Stop). Halts w (does emits) world new.told) (sym out)
                (inr left)
          ];
          printed = subst (λ (l : List ℕ). Tail why [] l old.written new.written)
              (line_is line said) tail;
        })
