-- What a voice says at an address is what its reference does.
use Rattle.std.proofs.Common.{◌≡◌, ◌∙◌, ◌<◌, ◌^◌, ℕ, zero, suc, List, [], ◌∷◌, Option, Some, None}
use Rattle.std.proofs.Common.{refl, sym, ap, map, slice_get, subst}
use Rattle.std.specs.Arc.{arc_value}
use Rattle.std.specs.Option.{IfSome, option_and_then, option_map}
use Rattle.first_index.specs.Boundaries.{told}
use Rattle.geo_terms.specs.First.{first_at, first_of}
use Rattle.geo_terms.specs.Precedence.{entries_within, entry_before, entry_of, reference_before}
use Rattle.geo_terms.specs.Precedence.{reference_cmp, speaker, speaking_entry}
use Rattle.geo_terms.specs.Sources.{InForce, entries_in, references}
use Rattle.geo_terms.specs.declared.statement.Entry.{Entry}
use Rattle.geo_terms.specs.declared.statement.Reference.{Reference}
use Rattle.std.specs.declared.sync.Arc.{Arc}
use Rattle.geo_terms.specs.SourceForm.{DumpParts, FeedParts}
use Rattle.authority.specs.Held.{AreHeard, AreMade, AreSpeakers, IsHeld, in_force}
use Rattle.authority.specs.Kinds.{IsKindIndex}
use Rattle.authority.specs.Voices.{voice_of}
use Rattle.authority.specs.declared.kind_index.KindIndex.{KindIndex}
use Rattle.authority.specs.declared.speakers.Speakers.{Speakers}
use Rattle.authority.specs.declared.voices.Voice.{Voice}
use Rattle.authority.specs.declared.voices.Voices.{Voices}

module _ {X Y : Type 0} (f : X → Y) where
  got : (xs : List X) (i : ℕ) → slice_get (map f xs) i ≡ option_map f (slice_get xs i)
  got [] i = refl
  got (x ∷ xs) zero = refl
  got (x ∷ xs) (suc i) = got xs i

  got_at : (xs : List X) (o : Option ℕ)
      → option_and_then (slice_get (map f xs)) o ≡ option_map f (option_and_then (slice_get xs) o)
  got_at xs None = refl
  got_at xs (Some i) = got xs i

-- the entry that speaks for a voice
abbrev pub entry_said : Option Voice → ℕ → Option Entry
entry_said None a = None
entry_said (Some v) a = first_of entry_before (entries_within (entries_in v.feed) v.range a)

said_same : (s : InForce) (a : ℕ) (o : Option Reference)
    → entry_said (option_map (voice_of s.feeds) o) a ≡ entry_of s o a
said_same s a None = refl
said_same s a (Some r) = refl

-- the voice that is told at an address says the entry that speaks there
pub spoken : (s : InForce) (made : Speakers) (vs : List Voice) (a : ℕ) → a < 2 ^ 128
    → AreSpeakers (references s) made → vs ≡ map (voice_of s.feeds) made.index → (kind : KindIndex)
    → made.kind ≡ Some kind → (o : Option Voice)
    → o ≡ option_and_then (slice_get vs) (told None kind.firsts a)
    → entry_said o a ≡ speaking_entry s a
unfolding speaking_entry speaker
spoken s made vs a range speakers heard kind is_kind o told_here =
    let kinds : IsKindIndex reference_cmp (λ (r : Reference). r.range) made.index kind =
    subst (λ k. IfSome k (IsKindIndex reference_cmp (λ (r : Reference). r.range) made.index))
    is_kind speakers.kind in
    ap (λ v. entry_said v a)
    (told_here
    ∙ ap (λ l. option_and_then (slice_get l) (told None kind.firsts a)) heard
    ∙ got_at (voice_of s.feeds) made.index (told None kind.firsts a)
    ∙ ap (option_map (voice_of s.feeds)) (kinds.firsts a range ∙ sym (speakers.index.best a)))
    ∙ said_same s a (first_at reference_before (λ r. r.range) (references s) a)

module _ {Z : Type 0} (ds : List (Arc DumpParts Z)) (ss : Option (Arc Speakers Z))
    (fs : List FeedParts) (vs : Option (Arc Voices Z)) (speakers : Arc Speakers Z)
    (voices : Arc Voices Z) where
  -- so does what an authority keeps
  pub held_spoken : IsHeld ds ss fs vs → ss ≡ Some speakers → vs ≡ Some voices → (v : Voices)
      → (k : Speakers) → v ≡ arc_value voices → k ≡ arc_value speakers → (kind : KindIndex)
      → k.kind ≡ Some kind → (a : ℕ) → a < 2 ^ 128 → (o : Option Voice)
      → o ≡ option_and_then (slice_get v.list.items) (told None kind.firsts a)
      → entry_said o a ≡ speaking_entry (in_force (map arc_value ds) fs) a
  held_spoken held is_ss is_vs v k is_v is_k kind is_kind a range o told_here =
      let s : InForce = in_force (map arc_value ds) fs in
      spoken s (arc_value speakers) (arc_value voices).list.items a range
      (subst (λ m. AreMade (references s) m) is_ss held.made)
      (subst (λ m. AreHeard fs (Some (arc_value voices)) (option_map arc_value m)) is_ss
      (subst (λ m. AreHeard fs (option_map arc_value m) (option_map arc_value ss)) is_vs
      held.heard)) kind (ap (λ (m : Speakers). m.kind) (sym is_k) ∙ is_kind) o
      (told_here
      ∙ ap (λ (w : Voices). option_and_then (slice_get w.list.items) (told None kind.firsts a))
      is_v)
