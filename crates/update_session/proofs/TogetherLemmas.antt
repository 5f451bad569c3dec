-- Feeds that are set together, as one after another.
use Rattle.std.proofs.Common.{◌≡◌, List, [], ◌∷◌, ◌++◌, map, refl, sym, ap, ◌∙◌}
use Rattle.std.proofs.Common.{subst, append-nil, arith}
use Rattle.std.proofs.lemmas.List.{append_assoc, map-append}
use Rattle.std.specs.List.{AllByRecursion}
use Rattle.std.specs.List.Sorted.{IsPermutation}
use Rattle.geo_addr.specs.Ranges.{Ends}
use Rattle.geo_terms.specs.PlaceForm.{PlaceParts}
use Rattle.geo_terms.specs.SlotOrder.{AreInOrder, placed}
use Rattle.geo_terms.specs.SourceForm.{FeedParts}
use Rattle.geo_terms.specs.Sources.{InForce}
use Rattle.source_changes.specs.Changes.{Change, SetFeed, after, after_all, changes}
use Rattle.source_changes.specs.Keeping.{AreEntries, IsSound}
use Rattle.source_changes.specs.Laws.{KeptByOneMore, SourcesStay}
use Rattle.source_changes.proofs.Together.{one_more_placed}
use Rattle.trie_core.specs.declared.node.Pair.{Pair}
use Rattle.trie_core.specs.declared.node.Root.{Root}
use Rattle.update_session.specs.Calls.{HaveChanged, Touch}
use Rattle.update_session.specs.Kept.{Held, IsSession}
use Rattle.update_session.specs.Together.{HaveCome, with_last}
use Rattle.update_session.specs.declared.marks.Mark.{Mark}
use Rattle.update_session.proofs.KeptLemmas.{HasChanged-made, IsSession-changed}

after_all-push : (cs : List Change) (c : Change) (s : InForce)
    → after_all (cs ++ c ∷ []) s ≡ after c (after_all cs s)
after_all-push [] c s = refl
after_all-push (d ∷ ds) c s = after_all-push ds c (after d s)

Touch-push : (cs : List Change) (c : Change) (s : InForce) (more next : List Ends)
    → Touch cs s more → IsPermutation (changes c (after_all cs s)) next
    → Touch (cs ++ c ∷ []) s (more ++ next)
Touch-push [] c s more next none one =
    (next, [], ap (λ l. l ++ next) none ∙ sym (append-nil next), one, refl)
Touch-push (d ∷ ds) c s more next h one =
    let (first, rest, is, same, later) = h in (
      first,
      rest ++ next,
      ap (λ l. l ++ next) is ∙ append_assoc first rest next,
      same,
      Touch-push ds c (after d s) rest next later one,
    )

pub HaveCome-none : (s : InForce) (touched : List Ends) (last : List FeedParts) → last ≡ []
    → HaveCome s [] last touched touched
HaveCome-none s touched last none = record {
  more = [];
  touched = sym (append-nil touched);
  touch = refl;
  order = subst (AreInOrder (λ (f : FeedParts). f.url)) (sym none)
      (λ i j d lt below. absurd (omega (arith, below)));
  same = ap (λ (l : List FeedParts). with_last l s) none;
  sound = tt;
}

each_more : {X : Type 0} (P : X → Type 0) (xs : List X) (x : X) → AllByRecursion P xs → P x
    → AllByRecursion P (xs ++ x ∷ [])
each_more P [] x h p = (p, tt)
each_more P (y ∷ ys) x h p = (h.0, each_more P ys x h.1 p)

pub HaveCome-push : (s : InForce) (feeds last last' : List FeedParts) (f : FeedParts)
    (old new new' more : List Ends) → HaveCome s feeds last old new
    → new' ≡ new ++ more → IsPermutation (changes (SetFeed f) (with_last last s)) more
    → last' ≡ placed (λ x. x.url) f last → AreInOrder (λ x. x.url) last' → AreEntries f.entries
    → HaveCome s (feeds ++ f ∷ []) last' old new'
HaveCome-push s feeds last last' f old new new' more h longer same is order sound = record {
  more = h.more ++ more;
  touched = longer ∙ ap (λ l. l ++ more) h.touched ∙ append_assoc old h.more more;
  touch =
      subst (λ cs. Touch cs s (h.more ++ more)) (sym (map-append SetFeed feeds (f ∷ [])))
      (Touch-push (map SetFeed feeds) (SetFeed f) s h.more more h.touch
      (subst (λ t. IsPermutation (changes (SetFeed f) t) more) h.same same));
  order = order;
  same =
      ap (λ (l : List FeedParts). with_last l s) is
      ∙ ap (λ (fs : List FeedParts). record s { feeds = fs })
      (one_more_placed (λ x. x.url) f last s.feeds)
      ∙ ap (after (SetFeed f)) h.same ∙ sym (after_all-push (map SetFeed feeds) (SetFeed f) s)
      ∙ ap (λ cs. after_all cs s) (sym (map-append SetFeed feeds (f ∷ [])));
  sound = each_more (λ x. AreEntries x.entries) feeds f h.sound sound;
}

all_sound : (feeds : List FeedParts) → AllByRecursion (λ f. AreEntries f.entries) feeds
    → AllByRecursion IsSound (map SetFeed feeds)
all_sound [] h = tt
all_sound (f ∷ fs) h = (h.0, all_sound fs h.1)

-- what one call after another leaves
have_changed : (cs : List Change) (old : Held) (more : List Ends)
    → Touch cs old.state.sources more
    → HaveChanged cs old (record old {
      state = record old.state { sources = after_all cs old.state.sources };
      touched = old.touched ++ more;
    })
have_changed [] old more none =
    ap (λ (l : List Ends). record old { touched = l })
    (ap (λ l. old.touched ++ l) none ∙ append-nil old.touched)
have_changed (c ∷ cs) old more h =
    let (first, rest, is, same, later) = h in
    let mid : Held = record old {
      state = record old.state { sources = after c old.state.sources };
      touched = old.touched ++ first;
    } in (
      mid,
      HasChanged-made c old (after c old.state.sources) (old.touched ++ first) first refl refl
          same,
      subst (λ (l : List Ends). HaveChanged cs mid (record mid {
        state = record mid.state { sources = after_all cs (after c old.state.sources) };
        touched = l;
      })) (append_assoc old.touched first rest ∙ ap (λ l. old.touched ++ l) (sym is))
          (have_changed cs mid rest later),
    )

pub feeds_have_changed : (feeds last : List FeedParts) (old : Held) (s : InForce)
    (touched : List Ends) → HaveCome old.state.sources feeds last old.touched touched
    → s ≡ with_last last old.state.sources
    → HaveChanged (map SetFeed feeds) old (record old {
      state = record old.state { sources = s };
      touched = touched;
    })
feeds_have_changed feeds last old s touched h is =
    subst (λ (t : InForce). HaveChanged (map SetFeed feeds) old (record old {
      state = record old.state { sources = t };
      touched = touched;
    })) (sym (is ∙ h.same))
    (subst (λ (l : List Ends). HaveChanged (map SetFeed feeds) old (record old {
      state = record old.state {
        sources = after_all (map SetFeed feeds) old.state.sources;
      };
      touched = l;
    })) (sym h.touched) (have_changed (map SetFeed feeds) old h.more h.touch))

-- it stays a session
session_kept : SourcesStay → KeptByOneMore → (cs : List Change) (s : InForce) (pairs : List Pair)
    (places : List PlaceParts) (root : Root) (touched touched' more : List Ends) (marks : List Mark)
    → IsSession s pairs places root touched marks → AllByRecursion IsSound cs
    → touched' ≡ touched ++ more → Touch cs s more
    → IsSession (after_all cs s) pairs places root touched' marks
session_kept stay keep [] s pairs places root touched touched' more marks h sound longer none =
    subst (λ (l : List Ends). IsSession s pairs places root l marks)
    (sym (longer ∙ ap (λ l. touched ++ l) none ∙ append-nil touched)) h
session_kept stay keep (c ∷ cs) s pairs places root touched touched' more marks h sound longer t =
    let (first, rest, is, same, later) = t in
    session_kept stay keep cs (after c s) pairs places root (touched ++ first) touched' rest marks
    (IsSession-changed stay keep s (after c s) c pairs places root touched (touched ++ first) first
    marks h sound.0 refl refl same) sound.1
    (longer ∙ ap (λ l. touched ++ l) is ∙ sym (append_assoc touched first rest)) later

pub feeds_kept : SourcesStay → KeptByOneMore → (feeds last : List FeedParts) (s s' : InForce)
    (pairs : List Pair) (places : List PlaceParts) (root : Root) (touched touched' : List Ends)
    (marks : List Mark) → IsSession s pairs places root touched marks
    → HaveCome s feeds last touched touched' → s' ≡ with_last last s
    → IsSession s' pairs places root touched' marks
feeds_kept stay keep feeds last s s' pairs places root touched touched' marks h come is =
    subst (λ (t : InForce). IsSession t pairs places root touched' marks) (sym (is ∙ come.same))
    (session_kept stay keep (map SetFeed feeds) s pairs places root touched touched' come.more marks
    h (all_sound feeds come.sound) come.touched come.touch)
