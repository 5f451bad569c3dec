-- What a call does to a session, it does to where the session stands.
use Rattle.std.proofs.Common.{◌≡◌, ℕ, ◌+◌, ◌≤◌, List, [], ◌∷◌, ◌++◌, length, map, Option, None}
use Rattle.std.proofs.Common.{Some, refl, sym, ap, ◌∙◌, subst, inl, inr, arith}
use Rattle.std.specs.Prelude.{◌↔◌}
use Rattle.std.specs.List.{AllZip}
use Rattle.std.specs.List.Sorted.{IsPermutation}
use Rattle.std.proofs.lemmas.List.Sorted.{IsPermutation-append, IsPermutation-refl}
use Rattle.geo_addr.specs.Ranges.{Ends}
use Rattle.geo_terms.specs.PlaceForm.{PlaceParts}
use Rattle.geo_terms.specs.SlotOrder.{placed}
use Rattle.geo_terms.specs.Sources.{InForce}
use Rattle.source_changes.specs.Changes.{Change, after, changes, named}
use Rattle.source_changes.specs.Laws.{OrderDoesNotMatter}
use Rattle.trie_core.specs.declared.node.Pair.{Pair}
use Rattle.trie_core.specs.Store.{GrowsBy}
use Rattle.update_session.specs.declared.marks.Mark.{Mark}
use Rattle.update_session.specs.Calls.{HasChanged, HasCompacted, HasEmitted, HasGoneBack, HasGrown}
use Rattle.update_session.specs.Calls.{HasMarked, HasStayed, IsAsBefore, IsNew, IsSpent, mark_of}
use Rattle.update_session.specs.Kept.{Held, RootMeans, gone_back, GrowsBy as PlacesGrowBy}
use Rattle.update_session.specs.Standing.{IsMark, Standing, StandingMark, Stands, StandingStays}
use Rattle.update_session.specs.Standing.{BackAsMarked, at_mark, begun_standing, changed}
use Rattle.update_session.specs.Standing.{compact_count, compacted, emitted, mark_named, marked}
use Rattle.update_session.specs.Standing.{refused, emit_cost, emit_places, went_back, MaySpendAll}
use Rattle.update_session.specs.State.{State}
use Rattle.update_session.specs.Touch.{bound, few_places}
use Rattle.update_session.proofs.KeptLemmas.{RootMeans-grown, grown_by_none, length-grown_by}
use Rattle.update_session.proofs.MarkLemmas.{AreRelated, named-placed, zip_joined, zip_named}
use Rattle.update_session.proofs.MarkLemmas.{zip_weaker, zip_placed}
use Rattle.update_session.proofs.TouchLemmas.{bound-moved, few_places-moved}

begins : (epoch : ℕ) (name : List ℕ) (session : Held) → IsNew epoch name session
    → Stands session (begun_standing epoch name)
begins epoch name session new = record {
  state = new.state;
  touched =
      subst (λ (rs : List Ends). IsPermutation [] rs) (sym new.touched) (IsPermutation-refl []);
  root = new.root;
  nodes = omega (arith, ap length new.store);
  places = omega (arith, ap length new.places);
  marks = subst (AllZip (IsMark session) []) (sym new.marks) tt;
}

-- what was marked stands while the store and the places grow
IsMark-grown : (old new : Held) (m n : ℕ) → GrowsBy old.store new.store m
    → PlacesGrowBy old.places new.places n → (x : StandingMark) (k : Mark) → IsMark old x k
    → IsMark new x k
IsMark-grown old new m n grown grown' x k h = record {
  name = h.name;
  sources = h.sources;
  touched = h.touched;
  root = RootMeans-grown (gone_back k old) (gone_back k new) x.base m n grown grown' refl h.root;
}

marks-grown : (old new : Held) (m n : ℕ) → GrowsBy old.store new.store m
    → PlacesGrowBy old.places new.places n → new.marks ≡ old.marks
    → (xs : List StandingMark) → AllZip (IsMark old) xs old.marks → AllZip (IsMark new) xs new.marks
marks-grown old new m n grown grown' same xs h =
    subst (AllZip (IsMark new) xs) (sym same)
    (zip_weaker (IsMark old) (IsMark new) (IsMark-grown old new m n grown grown') xs old.marks h)

changes_stand : (change : Change) (old new : Held) (w : Standing) → Stands old w
    → HasChanged change old new → Stands new (changed change w)
changes_stand change old new w stands set =
    let sources : old.state.sources ≡ w.state.sources =
    ap (λ (s : State). s.sources) stands.state in
    let more : IsPermutation (changes change w.state.sources) set.more =
    subst (λ (s : InForce). IsPermutation (changes change s) set.more) sources set.same in
    record {
      state =
          set.state
          ∙ ap (λ (s : State). record s { sources = after change s.sources }) stands.state;
      touched =
          subst (λ (rs : List Ends). IsPermutation (w.pending ++ changes change w.state.sources) rs)
          (sym set.touched)
          (IsPermutation-append w.pending old.touched
          (changes change w.state.sources) set.more stands.touched more);
      root =
          RootMeans-grown old new w.base 0 0 (grown_by_none old.store new.store set.store)
          (grown_by_none old.places new.places set.places) set.root stands.root;
      nodes = subst (λ (ps : List Pair). length ps ≤ w.nodes) (sym set.store) stands.nodes;
      places =
          subst (λ (ps : List PlaceParts). length ps ≤ w.numbered) (sym set.places) stands.places;
      marks =
          marks-grown old new 0 0 (grown_by_none old.store new.store set.store)
          (grown_by_none old.places new.places set.places) set.marks w.marks stands.marks;
    }

-- ---- marks

marks_stand : (name : List ℕ) (old new : Held) (w : Standing) → Stands old w
    → HasMarked name old new → Stands new (marked name w)
marks_stand name old new w stands is =
    subst (λ (h : Held). Stands h (marked name w)) (sym is) stands_now
  where
    now : Held
    now = record old { marks = placed (λ m. m.name) (mark_of name old) old.marks }

    stayed : AllZip (IsMark now) w.marks old.marks
    stayed =
        zip_weaker (IsMark old) (IsMark now)
        (IsMark-grown old now 0 0 (grown_by_none old.store old.store refl)
        (grown_by_none old.places old.places refl)) w.marks old.marks stands.marks

    one : IsMark now (record {
      name = name;
      sources = w.state.sources;
      base = w.base;
      pending = w.pending;
    }) (mark_of name old)
    one = record {
      name = refl;
      sources = ap (λ (s : State). s.sources) stands.state;
      touched = stands.touched;
      root = record { of = stands.root.of; answers = stands.root.answers };
    }

    stands_now : Stands now (marked name w)
    stands_now = record {
      state = stands.state;
      touched = stands.touched;
      root = record { of = stands.root.of; answers = stands.root.answers };
      nodes = stands.nodes;
      places = stands.places;
      marks = zip_placed (λ m. m.name) (λ m. m.name) (IsMark now) (λ x k h. h.name) (record {
        name = name;
        sources = w.state.sources;
        base = w.base;
        pending = w.pending;
      }) (mark_of name old) w.marks old.marks one stayed;
    }

-- the marks of one name
related : (name : List ℕ) (session : Held) (w : Standing) → Stands session w
    → AreRelated (λ m. m.name) (λ m. m.name) (IsMark session) (λ x k h. h.name) (mark_named name w)
    (named (λ m. m.name) name session.marks)
related name session w stands =
    zip_named (λ m. m.name) (λ m. m.name) (IsMark session)
    (λ x k h. h.name) name w.marks session.marks stands.marks

back_stands : (old : Held) (w : Standing) (x : StandingMark) (k : Mark) → Stands old w
    → IsMark old x k → Stands (gone_back k old) (at_mark (Some x) w)
back_stands old w x k stands is = record {
  state = λ i. record (stands.state i) { sources = is.sources i };
  touched = is.touched;
  root = is.root;
  nodes = stands.nodes;
  places = stands.places;
  marks =
      zip_weaker (IsMark old) (IsMark (gone_back k old))
      (IsMark-grown old (gone_back k old) 0 0 (grown_by_none old.store old.store refl)
      (grown_by_none old.places old.places refl)) w.marks old.marks
      stands.marks;
}

backs_stand : (name : List ℕ) (old new : Held) (w : Standing) → Stands old w
    → HasGoneBack name old new → Stands new (went_back name w)
backs_stand name old new w stands (m, found, is) =
    subst (λ (h : Held). Stands h (went_back name w)) (sym is)
    (by (mark_named name w) (named (λ k. k.name) name old.marks) (related name old w stands) found)
  where
    by : (x : Option StandingMark) (k : Option Mark)
        → AreRelated (λ y. y.name) (λ y. y.name) (IsMark old) (λ y z h. h.name) x k → k ≡ Some m
        → Stands (gone_back m old) (at_mark x w)
    by None None both e = absurd (let this : None ≡ Some m = e in cc)
    by None (Some k) both e = absurd both
    by (Some x) None both e = absurd both
    by (Some x) (Some k) both e =
        let same : k ≡ m = (let this : Some k ≡ Some m = e in cc) in
        subst (λ (y : Mark). Stands (gone_back y old) (at_mark (Some x) w)) same
        (back_stands old w x k stands both)

absent_alike : (name : List ℕ) (session : Held) (w : Standing) → Stands session w
    → named (λ m. m.name) name session.marks ≡ None ↔ (mark_named name w ≡ None)
absent_alike name session w stands =
    by (mark_named name w) (named (λ k. k.name) name session.marks) (related name session w stands)
  where
    by : (x : Option StandingMark) (k : Option Mark)
        → AreRelated (λ y. y.name) (λ y. y.name) (IsMark session) (λ y z h. h.name) x k
        → k ≡ None ↔ (x ≡ None)
    by None None both = (λ e. refl, λ e. refl)
    by None (Some k) both = absurd both
    by (Some x) None both = absurd both
    by (Some x) (Some k) both = (
      λ e. absurd (let this : Some k ≡ None = e in cc),
      λ e. absurd (let this : Some x ≡ None = e in cc),
    )

-- whoever goes back finds what was marked
pub back_as_marked : BackAsMarked
back_as_marked name w v same =
    let mark : StandingMark =
    record { name = name; sources = w.state.sources; base = w.base; pending = w.pending } in
    let found : mark_named name v ≡ Some mark =
    same ∙ named-placed (λ m. m.name) mark w.marks in (
      ap (λ (x : Option StandingMark). (at_mark x v).state.sources) found,
      ap (λ (x : Option StandingMark). (at_mark x v).base) found,
      ap (λ (x : Option StandingMark). (at_mark x v).pending) found,
    )

-- ---- compaction

bases_of : (session : Held) (xs : List StandingMark) (ks : List Mark)
    → AllZip (IsMark session) xs ks
    → AllZip (λ m s. RootMeans (gone_back m session) s) ks (map (λ x. x.base) xs)
bases_of session [] [] h = tt
bases_of session [] (k ∷ ks) h = absurd h
bases_of session (x ∷ xs) [] h = absurd h
bases_of session (x ∷ xs) (k ∷ ks) h = (h.0.root, bases_of session xs ks h.1)

count_is : (old new : Held) (w : Standing) → Stands old w → HasCompacted old new
    → length new.store ≡ compact_count w
count_is old new w stands done =
    done.store w.base (map (λ x. x.base) w.marks) stands.root
    (bases_of old w.marks old.marks stands.marks)

IsMark-stayed : (old new : Held) (x : StandingMark) (k k' : Mark) → IsMark old x k
    → HasStayed old new k k' → IsMark new x k'
IsMark-stayed old new x k k' is stayed = record {
  name = stayed.name ∙ is.name;
  sources = stayed.sources ∙ is.sources;
  touched = subst (IsPermutation x.pending) (sym stayed.touched) is.touched;
  root = stayed.root x.base is.root;
}

compacts_stand : (old new : Held) (w : Standing) → Stands old w → HasCompacted old new
    → Stands new (compacted w)
compacts_stand old new w stands done = record {
  state = done.state ∙ stands.state;
  touched = subst (IsPermutation w.pending) (sym done.touched) stands.touched;
  root = done.root w.base stands.root;
  nodes = omega (arith, count_is old new w stands done);
  places = subst (λ (ps : List PlaceParts). length ps ≤ w.numbered) (sym done.places) stands.places;
  marks =
      zip_joined (IsMark old) (HasStayed old new) (IsMark new)
      (IsMark-stayed old new) w.marks old.marks new.marks stands.marks done.marks;
}

module _ (order : OrderDoesNotMatter) where
  cost_is : (session : Held) (w : Standing) → Stands session w
      → bound session.touched session.state.sources ≡ emit_cost w
  cost_is session w stands =
      bound-moved order w.pending session.touched session.state.sources stands.touched
      ∙ ap (λ (s : State). bound w.pending s.sources) stands.state

  places_are : (session : Held) (w : Standing) → Stands session w
      → few_places session.touched session.state.sources ≡ emit_places w
  places_are session w stands =
      few_places-moved order w.pending session.touched session.state.sources stands.touched
      ∙ ap (λ (s : State). few_places w.pending s.sources) stands.state

  nodes_grown : (old new : Held) (w : Standing) → Stands old w → HasGrown old new
      → length new.store ≤ w.nodes + emit_cost w
  nodes_grown old new w stands grown =
      omega (
        arith,
        length-grown_by old.store new.store (bound old.touched old.state.sources) grown.store,
        cost_is old w stands,
        stands.nodes,
      )

  places_grown : (old new : Held) (w : Standing) → Stands old w → HasGrown old new
      → length new.places ≤ w.numbered + emit_places w
  places_grown old new w stands grown =
      omega (
        arith,
        length-grown_by old.places new.places
            (few_places old.touched old.state.sources) grown.places,
        places_are old w stands,
        stands.places,
      )

  emits_stand : (old new : Held) (w : Standing) → Stands old w → HasGrown old new
      → HasEmitted old new → Stands new (emitted w)
  emits_stand old new w stands grown done = record {
    state = grown.state ∙ stands.state;
    touched =
        subst (λ (rs : List Ends). IsPermutation [] rs) (sym done.touched) (IsPermutation-refl []);
    root = subst (λ (s : State). RootMeans new s.sources) stands.state done.root;
    nodes = nodes_grown old new w stands grown;
    places = places_grown old new w stands grown;
    marks =
        marks-grown old new (bound old.touched old.state.sources) (few_places old.touched
        old.state.sources) grown.store grown.places grown.marks w.marks stands.marks;
  }

  refuses_stand : (old new : Held) (w : Standing) → Stands old w → HasGrown old new
      → IsAsBefore old new → Stands new (refused w)
  refuses_stand old new w stands grown kept = record {
    state = grown.state ∙ stands.state;
    touched =
        subst (λ (rs : List Ends). IsPermutation w.pending rs) (sym kept.touched) stands.touched;
    root =
        RootMeans-grown old new w.base (bound old.touched old.state.sources)
        (few_places old.touched old.state.sources) grown.store grown.places kept.root stands.root;
    nodes = nodes_grown old new w stands grown;
    places = places_grown old new w stands grown;
    marks =
        marks-grown old new (bound old.touched old.state.sources) (few_places old.touched
        old.state.sources) grown.store grown.places grown.marks w.marks stands.marks;
  }

  end_is : (session : Held) (w : Standing) → Stands session w → IsSpent session → MaySpendAll w
  end_is session w stands (inl nodes) =
      inl (omega (arith, nodes, cost_is session w stands, stands.nodes))
  end_is session w stands (inr numbers) =
      inr (omega (arith, numbers, places_are session w stands, stands.places))

  pub standing_stays : StandingStays
  standing_stays = record {
    begins = begins;
    changes = changes_stand;
    emits = emits_stand;
    refuses = refuses_stand;
    marks = marks_stand;
    goes_back = backs_stand;
    absent = absent_alike;
    compacts = compacts_stand;
    same_count = count_is;
    same_cost = cost_is;
    same_end = end_is;
  }
