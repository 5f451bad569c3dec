-- What the last move of `check` does, and why it stops.
use Rattle.std.proofs.Common.{◌≡◌, ℕ, ◌+◌, ◌≤◌, true, false, Bool, cond, ◌⊎◌, inl, inr, List, []}
use Rattle.std.proofs.Common.{◌∷◌, refl, sym, ap, subst, ◌∙◌, arith}
use Rattle.std.specs.Prelude.{find, Option, Some, None}
use Rattle.geo_terms.specs.PlaceForm.{same_text}
use Rattle.geo_terms.specs.SourceForm.{FeedParts}
use Rattle.geo_terms.specs.Sources.{InForce, feed_of}
use Rattle.update_session.specs.Kept.{Held}
use Rattle.check_census.specs.Texts.{verdict_lines}
use Rattle.check_census.specs.Verdicts.{verdicts}
use Rattle.check_census.proofs.CountLemmas.{text_from_same}
use Rattle.job_run.specs.declared.stop.Cause.TheVariants.{NoFeed}
use Rattle.job_run.specs.declared.stop.Stop.{Stop}
use Rattle.job_run.specs.declared.stop.Stop.TheVariants.{Blocked, SinkFailed, Memory}
use Rattle.job_run.specs.Acts.{Move, effect, shows}
use Rattle.job_run.specs.Seen.{Seen, Prints}
use Rattle.job_run.specs.Stops.{Does, Fails, Halts, IsIn, IsPaid, IsUnprinted, Tail}
use Rattle.job_run.specs.World.{World}
use Rattle.job_run.proofs.ActLemmas.{prints_none}
use Rattle.geofeed_cmd.specs.Commands.Check.{checked, checking, no_feed}

-- the feed that is found for a URL has this URL
found_url : (url : List ℕ) (fs : List FeedParts) (f : FeedParts)
    → find (λ g. same_text g.url url) fs ≡ Some f → f.url ≡ url
found_url url [] f is = absurd (cc)
found_url url (g ∷ gs) f is = by (same_text g.url url) refl is (found_url url gs f)
  where
    by : (b : Bool) → same_text g.url url ≡ b
        → cond b (Some g) (find (λ h. same_text h.url url) gs) ≡ Some f
        → (find (λ h. same_text h.url url) gs ≡ Some f → f.url ≡ url) → f.url ≡ url
    by true e here later =
        let same : g ≡ f = cc in
        ap (λ (h : FeedParts). h.url) (sym same) ∙ text_from_same g.url url e
    by false e here later = later here

-- so it is the feed of its own URL
pub own_feed : (s : InForce) (url : List ℕ) (f : FeedParts) → feed_of s url ≡ Some f
    → feed_of s f.url ≡ Some f
own_feed s url f is = ap (feed_of s) (found_url url s.feeds f is) ∙ is

-- a check takes no step
pub unpaid : (url : List ℕ) (world : World) (steps : ℕ)
    → IsPaid (effect (shows (checking url)) world) world steps steps
unpaid url world steps = let same : steps + world.session.spent ≤ steps + world.session.spent =
    omega arith in same

module _ (url : List ℕ) (world : World) (session : Held) (old new : Seen)
    (here : IsIn old.told session world) (same : new.told ≡ old.told) where
  abbrev pub move : Move
  move = shows (checking url)

  kept : new.told ≡ Some world.told
  kept = same ∙ here.tells

  -- the feed of the URL here
  feed_here : (f : Option FeedParts) → feed_of session.state.sources url ≡ f
      → feed_of world.session.state.sources url ≡ f
  feed_here f is = ap (λ s. feed_of s.sources url) (sym here.stands.state) ∙ is

  -- no feed of the URL is in force
  pub fails_absent : new.written ≡ old.written → feed_of session.state.sources url ≡ None
      → Fails (Blocked NoFeed) move world [] old new
  fails_absent silent absent = record {
    files = inl (record { cause = ap no_feed (feed_here None absent); files = kept });
    printed = prints_none old.written new.written silent;
  }

  -- the text was not made
  pub fails_unchecked : new.written ≡ old.written → Fails Memory move world [] old new
  fails_unchecked silent = record {
    files = inl kept;
    printed = prints_none old.written new.written silent;
  }

  -- the text was made
  module _ (f : FeedParts) (found : feed_of session.state.sources url ≡ Some f) (text : List ℕ)
      (is : text ≡ verdict_lines (verdicts session.state.sources f)) where
    text_here : text ≡ checked world.session.state.sources (feed_of world.session.state.sources url)
    text_here =
        is ∙ ap (λ s. verdict_lines (verdicts s.sources f)) here.stands.state
        ∙ sym (ap (checked world.session.state.sources) (feed_here (Some f) found))

    pub does_check : Prints old.written new.written text → Does move world session old new
    does_check printed = record {
      free = ap no_feed (feed_here (Some f) found);
      now = record { tells = kept; stands = here.stands };
      printed = subst (Prints old.written new.written) text_here printed;
      published = tt;
    }

    -- it was not printed
    pub fails_checked : (why : Stop) → (why ≡ SinkFailed) ⊎ (why ≡ Memory)
        → Tail why [] text old.written new.written → Fails why move world [] old new
    fails_checked why causes tail =
        let left : IsUnprinted move world new.told =
        record { prints = tt; free = ap no_feed (feed_here (Some f) found); files = kept } in
        record {
          files = elim causes [
            | inl failed ↦ subst (λ (w : Stop). Halts w move world new.told) (sym failed) left
            | inr out ↦ subst (λ (w : Stop). Halts w move world new.told) (sym out) (inr left)
          ];
          printed = subst (λ (l : List ℕ). Tail why [] l old.written new.written) text_here tail;
        }
