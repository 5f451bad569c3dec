-- What the lines on marks and nodes do, and why they stop.
use Rattle.std.proofs.Common.{◌≡◌, ◌+◌, ◌≤◌, ◌⊎◌, inl, inr, true, cond, ℕ, List, []}
use Rattle.std.proofs.Common.{length, Option, Some, None, refl, sym, ◌∙◌, ap, subst, arith}
use Rattle.std.specs.Prelude.{is_some}
use Rattle.job_lines.specs.declared.act.Act.{Act}
use Rattle.job_lines.specs.declared.act.Act.TheVariants.{Back, Compact, Emit, Mark}
use Rattle.job_lines.specs.declared.job.Step.{Step}
use Rattle.source_changes.specs.Changes.{named}
use Rattle.update_session.specs.Calls.{HasCompacted, HasGoneBack, HasMarked}
use Rattle.update_session.specs.Kept.{Held}
use Rattle.update_session.specs.Standing.{Standing, StandingMark, StandingStays, at_mark}
use Rattle.update_session.specs.Standing.{compact_count, mark_named}
use Rattle.job_run.specs.Acts.{compact_line, does, effect}
use Rattle.job_run.specs.Seen.{Prints, Seen}
use Rattle.job_run.specs.Stops.{Does, Fails, IsIn, IsPaid, Tail}
use Rattle.job_run.specs.World.{World}
use Rattle.job_run.specs.declared.stop.Cause.TheVariants.{NoMark}
use Rattle.job_run.specs.declared.stop.Stop.{Stop}
use Rattle.job_run.specs.declared.stop.Stop.TheVariants.{Blocked, Memory, SinkFailed}
use Rattle.job_run.proofs.ActLemmas.{at_line, prints_none}

-- what was kept has no steps of its own
at_spent : (mark : Option StandingMark) (w : Standing) → (at_mark mark w).spent ≡ w.spent
at_spent None w = refl
at_spent (Some m) w = refl

-- a line that keeps what is in force
module _ (stays : StandingStays) (step : Step) (world : World) (name : List ℕ) (session : Held)
    (is : step.act ≡ Mark name) (old new : Seen)
    (here : IsIn old.told session world) (same : new.told ≡ old.told)
    (silent : new.written ≡ old.written) where
  pub does_mark : (session' : Held) → HasMarked name session session'
      → Does (does step) world session' old new
  does_mark session' marked =
      subst (λ (a : Act). Does (does (at_line step a)) world session' old new) (sym is) (record {
        free = refl;
        now = record {
          tells = same ∙ here.tells;
          stands =
              stays.marks name session session' world.session here.stands marked;
        };
        printed = prints_none old.written new.written silent;
        published = λ other emits. absurd (let e : Mark name ≡ Emit other = emits in cc);
      })

  pub fails_mark : (why : Stop) → why ≡ Memory → Fails why (does step) world [] old new
  fails_mark why out =
      subst (λ (a : Act). Fails why (does (at_line step a)) world [] old new) (sym is)
      (subst (λ (w : Stop). Fails w (does (at_line step (Mark name))) world [] old new) (sym out)
      (record {
        files = inl (same ∙ here.tells);
        printed = prints_none old.written new.written silent;
      }))

  pub paid_mark : (steps : ℕ) → IsPaid (effect (does step) world) world steps steps
  paid_mark steps =
      subst (λ (a : Act). IsPaid (effect (does (at_line step a)) world) world steps steps) (sym is)
      (let e : steps + world.session.spent ≤ steps + world.session.spent = omega arith in e)

-- a line that goes back
module _ (stays : StandingStays) (step : Step) (world : World) (name : List ℕ) (session : Held)
    (is : step.act ≡ Back name) (old new : Seen)
    (here : IsIn old.told session world) (same : new.told ≡ old.told)
    (silent : new.written ≡ old.written) where
  there : (session' : Held) → HasGoneBack name session session'
      → is_some (mark_named name world.session) ≡ true
  there session' back = by (mark_named name world.session) refl
    where
      by : (mark : Option StandingMark) → mark_named name world.session ≡ mark → is_some mark ≡ true
      by None none = absurd (let gone =
          (stays.absent name session world.session here.stands).1 none in let found = back.1 in cc)
      by (Some m) found = refl

  pub does_back : (session' : Held) → HasGoneBack name session session'
      → Does (does step) world session' old new
  does_back session' back =
      subst (λ (a : Act). Does (does (at_line step a)) world session' old new) (sym is) (record {
        free = ap (λ b. cond b None (Some NoMark)) (there session' back);
        now = record {
          tells = same ∙ here.tells;
          stands =
              stays.goes_back name session session' world.session here.stands back;
        };
        printed = prints_none old.written new.written silent;
        published = λ other emits. absurd (let e : Back name ≡ Emit other = emits in cc);
      })

  pub fails_back : (why : Stop) → (why ≡ Blocked NoMark) ⊎ (why ≡ Memory)
      → (why ≡ Blocked NoMark → named (λ m. m.name) name session.marks ≡ None)
      → Fails why (does step) world [] old new
  fails_back why causes absent =
      subst (λ (a : Act). Fails why (does (at_line step a)) world [] old new) (sym is)
      (elim causes [
        | inl none ↦ subst (λ (w : Stop). Fails w
            (does (at_line step (Back name))) world [] old new) (sym none) (record {
              files = inl (record {
                cause = ap (λ (m : Option StandingMark). cond (is_some m) None (Some NoMark))
                    ((stays.absent name session world.session here.stands).0 (absent none));
                files = same ∙ here.tells;
              });
              printed = prints_none old.written new.written silent;
            })
        | inr out ↦ subst (λ (w : Stop). Fails w (does (at_line step (Back name))) world [] old new)
            (sym out) (record {
              files = inl (same ∙ here.tells);
              printed = prints_none old.written new.written silent;
            })
      ])

  pub paid_back : (steps : ℕ) → IsPaid (effect (does step) world) world steps steps
  paid_back steps =
      let spent = at_spent (mark_named name world.session) world.session in
      subst (λ (a : Act). IsPaid (effect (does (at_line step a)) world) world steps steps) (sym is)
      (omega (arith, spent))

-- a line that gives up nodes
module _ (stays : StandingStays) (step : Step) (world : World) (session : Held)
    (is : step.act ≡ Compact) (old new : Seen)
    (here : IsIn old.told session world) (same : new.told ≡ old.told) where
  line_here : (session' : Held) → HasCompacted session session'
      → compact_line (length session'.store) ≡ compact_line (compact_count world.session)
  line_here session' compacted =
      ap compact_line (stays.same_count session session' world.session here.stands compacted)

  pub does_compact : (session' : Held) → HasCompacted session session'
      → Prints old.written new.written (compact_line (length session'.store))
      → Does (does step) world session' old new
  does_compact session' compacted printed =
      subst (λ (a : Act). Does (does (at_line step a)) world session' old new) (sym is) (record {
        free = refl;
        now = record {
          tells = same ∙ here.tells;
          stands =
              stays.compacts session session' world.session here.stands compacted;
        };
        printed = subst (Prints old.written new.written) (line_here session' compacted) printed;
        published = λ other emits. absurd (let e : Compact ≡ Emit other = emits in cc);
      })

  pub fails_compact : (session' : Held) (why : Stop) → (why ≡ SinkFailed) ⊎ (why ≡ Memory)
      → (why ≡ SinkFailed → HasCompacted session session'
      × Tail SinkFailed [] (compact_line (length session'.store)) old.written new.written)
      → (why ≡ Memory → Prints old.written new.written []) → Fails why (does step) world [] old new
  fails_compact session' why causes unprinted starved =
      subst (λ (a : Act). Fails why (does (at_line step a)) world [] old new) (sym is)
      (elim causes [
        | inl failed ↦ subst (λ (w : Stop). Fails w (does (at_line step Compact)) world [] old new)
            (sym failed)
            (let p = unprinted failed in record {
              files = record { prints = tt; free = refl; files = same ∙ here.tells };
              printed = subst (λ (line : List ℕ). Tail SinkFailed [] line old.written new.written)
                  (line_here session' p.0) p.1;
            })
        | inr out ↦ subst (λ (w : Stop). Fails w (does (at_line step Compact)) world [] old new)
            (sym out) (record {
              files = inl (same ∙ here.tells);
              printed = starved out;
            })
      ])

  pub paid_compact : (steps : ℕ) → IsPaid (effect (does step) world) world steps steps
  paid_compact steps =
      subst (λ (a : Act). IsPaid (effect (does (at_line step a)) world) world steps steps) (sym is)
      (let e : steps + world.session.spent ≤ steps + world.session.spent = omega arith in e)
