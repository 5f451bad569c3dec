-- What the last move of `census` does, and why it stops.
use Rattle.std.proofs.Common.{◌≡◌, ℕ, ◌+◌, ◌≤◌, ◌⊎◌, inl, inr, List, [], refl, sym, ◌∙◌, ap, subst}
use Rattle.std.proofs.Common.{arith}
use Rattle.update_session.specs.Calls.{HasEmitted, HasGrown, IsSpent}
use Rattle.update_session.specs.Kept.{Held}
use Rattle.update_session.specs.Standing.{StandingStays}
use Rattle.update_session.specs.State.{State}
use Rattle.update_session.specs.Touch.{bound}
use Rattle.check_census.specs.Census.{census}
use Rattle.check_census.specs.Texts.{count_lines}
use Rattle.job_run.specs.declared.stop.Cause.TheVariants.{TooLarge}
use Rattle.job_run.specs.declared.stop.Stop.{Stop}
use Rattle.job_run.specs.declared.stop.Stop.TheVariants.{Blocked, SinkFailed, Memory}
use Rattle.job_run.specs.Acts.{Move, effect, shows}
use Rattle.job_run.specs.Seen.{Seen, Prints}
use Rattle.job_run.specs.Stops.{Does, Fails, Halts, IsIn, IsPaid, IsUnprinted, Tail}
use Rattle.job_run.specs.World.{World}
use Rattle.job_run.proofs.ActLemmas.{prints_none}
use Rattle.geofeed_cmd.specs.Commands.Census.{counting, country_by}

-- what is printed by the sources of a state
abbrev pub counts_in : State → List ℕ
counts_in state = count_lines (census (country_by state.sources))

module _ (stays : StandingStays) (world : World) (session : Held) (old new : Seen)
    (here : IsIn old.told session world) (same : new.told ≡ old.told) where
  abbrev pub move : Move
  move = shows counting

  pub paid_count : new.steps ≤ old.steps + bound session.touched session.state.sources
      → IsPaid (effect move world) world old.steps new.steps
  paid_count paid =
      let cost = stays.same_cost session world.session here.stands in
      omega (arith, cost, paid)

  -- the tree could not be built, or the text not made
  pub fails_uncounted : (why : Stop) → new.written ≡ old.written
      → (why ≡ Blocked TooLarge) ⊎ (why ≡ Memory)
      → (why ≡ Blocked TooLarge → IsSpent session) → Fails why move world [] old new
  fails_uncounted why silent causes large =
      let printed = prints_none old.written new.written silent in
      let kept = same ∙ here.tells in
      elim causes [
        | inl blocks ↦ subst (λ (w : Stop). Fails w move world [] old new) (sym blocks) (record {
          files = inr (record {
            large = refl;
            spent = record {
              builds = refl;
              many = stays.same_end session world.session here.stands (large blocks);
            };
            files = kept;
          });
          printed = printed;
        })
        | inr out ↦ subst (λ (w : Stop). Fails w move world [] old new) (sym out)
            (record { files = inl kept; printed = printed })
      ]

  -- the text was made
  module _ (text : List ℕ) (is : text ≡ counts_in session.state) where
    text_here : text ≡ counts_in world.session.state
    text_here = is ∙ ap counts_in here.stands.state

    pub does_count : (session' : Held) → HasGrown session session' → HasEmitted session session'
        → Prints old.written new.written text → Does move world session' old new
    does_count session' grown done printed = record {
      free = refl;
      now = record {
        tells = same ∙ here.tells;
        stands = stays.emits session session' world.session here.stands grown done;
      };
      printed = subst (Prints old.written new.written) text_here printed;
      published = tt;
    }

    -- it was not printed
    pub fails_counted : (why : Stop) → (why ≡ SinkFailed) ⊎ (why ≡ Memory)
        → Tail why [] text old.written new.written → Fails why move world [] old new
    fails_counted why causes tail =
        let left : IsUnprinted move world new.told =
        record { prints = tt; free = refl; files = same ∙ here.tells } in
        record {
          files = elim causes [
            | inl failed ↦ subst (λ (w : Stop). Halts w move world new.told) (sym failed) left
            | inr out ↦ subst (λ (w : Stop). Halts w move world new.told) (sym out) (inr left)
          ];
          printed = subst (λ (l : List ℕ). Tail why [] l old.written new.written) text_here tail;
        }
