-- What the writing of a feed does, and why it stops.
use Rattle.std.proofs.Common.{◌≡◌, ℕ, ◌+◌, ◌≤◌, ◌⊎◌, inl, inr, List, [], length, Option, Some, refl}
use Rattle.std.proofs.Common.{sym, ◌∙◌, ap, subst, arith}
use Rattle.geo_addr.specs.Ranges.{Prefix}
use Rattle.geo_outside.specs.Files.{Told, Spoils, after_put}
use Rattle.mmdb_file.specs.FileImage.{record_tree}
use Rattle.update_session.specs.Calls.{HasEmitted, HasGrown, IsSpent}
use Rattle.update_session.specs.Kept.{Held}
use Rattle.update_session.specs.Standing.{StandingStays}
use Rattle.update_session.specs.State.{State}
use Rattle.update_session.specs.Touch.{bound}
use Rattle.published.specs.FeedText.{printed_line}
use Rattle.published.specs.PlaceLines.{published, published_lines}
use Rattle.job_run.specs.declared.stop.Cause.TheVariants.{TooLarge}
use Rattle.job_run.specs.declared.stop.Stop.{Stop}
use Rattle.job_run.specs.declared.stop.Stop.TheVariants.{Blocked, PutFailed, SinkFailed, Memory}
use Rattle.job_run.specs.Acts.{Move, after, effect, shows}
use Rattle.job_run.specs.Seen.{Seen, Prints}
use Rattle.job_run.specs.Stops.{Does, Fails, Halts, IsIn, IsPaid, IsUnprinted, Tail}
use Rattle.job_run.specs.World.{World}
use Rattle.job_run.proofs.ActLemmas.{prints_none}
use Rattle.geofeed_cmd.specs.Commands.Publish.{publishing}

module _ (stays : StandingStays) (world : World) (block : Prefix) (name : List ℕ) (session : Held)
    (old new : Seen) (here : IsIn old.told session world) where
  abbrev pub move : Move
  move = shows (publishing block name)

  pub paid_feed : (steps steps' : ℕ) → steps' ≤ steps + bound session.touched session.state.sources
      → IsPaid (effect move world) world steps steps'
  paid_feed steps steps' paid =
      let same = stays.same_cost session world.session here.stands in
      omega (arith, same, paid)

  -- it was refused before anything was put
  pub fails_early : (why : Stop) → new.told ≡ old.told → new.written ≡ old.written
      → (why ≡ Blocked TooLarge) ⊎ (why ≡ Memory)
      → (why ≡ Blocked TooLarge → IsSpent session) → Fails why move world [] old new
  fails_early why same silent causes large =
      let printed = prints_none old.written new.written silent in
      let kept = same ∙ here.tells in
      elim causes [
        | inl blocks ↦ subst (λ (w : Stop). Fails w move world [] old new) (sym blocks) (record {
          files = inr (record {
            large = refl;
            spent = record {
              builds = refl;
              many = stays.same_end session world.session here.stands (large blocks);
            };
            files = kept;
          });
          printed = printed;
        })
        | inr out ↦ subst (λ (w : Stop). Fails w move world [] old new) (sym out) (record {
          files = inl kept;
          printed = printed;
        })
      ]

  -- the feed was made
  module _ (bytes line : List ℕ) (text : bytes
      ≡ published (record_tree session.state.sources) block) (said : line ≡ printed_line name
      (length (published_lines (record_tree session.state.sources) block))) where
    bytes_here : bytes ≡ published (record_tree world.session.state.sources) block
    bytes_here =
        subst (λ (s : State). bytes ≡ published (record_tree s.sources) block)
        here.stands.state text

    line_here : line ≡ printed_line name
        (length (published_lines (record_tree world.session.state.sources) block))
    line_here =
        subst (λ (s : State). line ≡ printed_line name
        (length (published_lines (record_tree s.sources) block))) here.stands.state said

    put_is : (told' : Option Told)
        → ((w : Told) → old.told ≡ Some w → told' ≡ Some (after_put w name bytes))
        → told' ≡ Some (after move world).told
    put_is told' put =
        put world.told here.tells
        ∙ ap (λ (bs : List ℕ). Some (after_put world.told name bs)) bytes_here

    pub does_feed : (session' : Held)
        → ((w : Told) → old.told ≡ Some w → new.told ≡ Some (after_put w name bytes))
        → HasGrown session session' → HasEmitted session session'
        → Prints old.written new.written line → Does move world session' old new
    does_feed session' put grown done printed = record {
      free = refl;
      now = record {
        tells = put_is new.told put;
        stands = stays.emits session session' world.session here.stands grown done;
      };
      printed = subst (Prints old.written new.written) line_here printed;
      published = tt;
    }

    -- it was not put
    pub fails_put : (why : Stop) → new.written ≡ old.written → (why ≡ PutFailed) ⊎ (why ≡ Memory)
        → ((w : Told)
        → old.told ≡ Some w → why ≡ PutFailed → (v : Told) × (new.told ≡ Some v) × Spoils w v name)
        → (why ≡ Memory → new.told ≡ old.told) → Fails why move world [] old new
    fails_put why silent causes spoilt memory =
        let printed = prints_none old.written new.written silent in
        elim causes [
          | inl failed ↦
              let v = spoilt world.told here.tells failed in
              subst (λ (w : Stop). Fails w move world [] old new) (sym failed)
              (record {
                files = record {
                  bytes = published (record_tree world.session.state.sources) block;
                  putting = refl;
                  free = refl;
                  spoilt = v.0;
                  tells = v.1;
                  spoils = v.2;
                };
                printed = printed;
              })
          | inr out ↦ subst (λ (w : Stop). Fails w move world [] old new) (sym out) (record {
            files = inl (memory out ∙ here.tells);
            printed = printed;
          })
        ]

    -- it was put, and its line was not printed
    pub fails_print : (why : Stop)
        → ((w : Told) → old.told ≡ Some w → new.told ≡ Some (after_put w name bytes))
        → (why ≡ SinkFailed) ⊎ (why ≡ Memory) → Tail why [] line old.written new.written
        → Fails why move world [] old new
    fails_print why put causes tail =
        let left : IsUnprinted move world new.told =
        record { prints = tt; free = refl; files = put_is new.told put } in
        record {
          files = elim causes [
            | inl failed ↦ subst (λ (w : Stop). Halts w move world new.told) (sym failed) left
            | inr out ↦ subst (λ (w : Stop). Halts w move world new.told) (sym out) (inr left)
          ];
          printed = subst (λ (l : List ℕ). Tail why [] l old.written new.written) line_here tail;
        }
