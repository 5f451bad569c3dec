-- What a session keeps stands while its store and its places grow.
use Rattle.std.proofs.Common.{◌≡◌, ℕ, ◌+◌, ◌^◌, ◌<◌, ◌≤◌, false, List, [], ◌∷◌, ◌++◌, length}
use Rattle.std.proofs.Common.{Option, None, refl, sym, ap, ◌∙◌, subst, arith, append-nil}
use Rattle.std.proofs.Common.{length-append}
use Rattle.std.specs.List.Sorted.{IsPermutation}
use Rattle.geo_addr.specs.Bits.{bits_of}
use Rattle.geo_addr.specs.Ranges.{Ends}
use Rattle.geo_terms.specs.Alias.{home, is_alias}
use Rattle.geo_terms.specs.PlaceForm.{PlaceParts}
use Rattle.geo_terms.specs.Precedence.{record_at, spoken_at, first_override, speaking_entry}
use Rattle.geo_terms.specs.Precedence.{speaker, first_delegation}
use Rattle.geo_terms.specs.SlotOrder.{AreInOrder}
use Rattle.geo_terms.specs.Sources.{InForce, no_sources}
use Rattle.source_changes.specs.Changes.{Change, after, changes}
use Rattle.source_changes.specs.Keeping.{AreSources, IsSound}
use Rattle.source_changes.specs.Laws.{KeptByOneMore, SourcesStay}
use Rattle.source_changes.specs.Touched.{is_touched}
use Rattle.trie_core.specs.declared.node.Pair.{Pair}
use Rattle.trie_core.specs.declared.node.Root.{Root}
use Rattle.trie_core.specs.Store.{record_of, tree_of, IsRootOf, GrowsBy}
use Rattle.trie_core.specs.Tree.{Tree, look, leaf}
use Rattle.trie_core.proofs.StoreLemmas.{IsKept-from_growth}
use Rattle.update_session.specs.declared.marks.Mark.{Mark}
use Rattle.update_session.specs.Calls.{HasChanged}
use Rattle.update_session.specs.Kept.{Answers, AnswersAll, AreBased, HasBase, Held, IsBased}
use Rattle.update_session.specs.Kept.{IsSession, RootMeans, GrowsBy as PlacesGrowBy}
use Rattle.update_session.proofs.AliasLemmas.{spoken_from_base}
use Rattle.update_session.proofs.BuildLemmas.{Answers-grown}

-- what a root answers, it answers in a store and among places that have grown
pub AnswersAll-grown : (pairs pairs' : List Pair) (places places' : List PlaceParts) (root : Root)
    (s : InForce) (m n : ℕ) → IsRootOf pairs root
    → GrowsBy pairs pairs' m → PlacesGrowBy places places' n → AnswersAll pairs places root s
    → AnswersAll pairs' places' root s
AnswersAll-grown pairs pairs' places places' root s m n of grown grown' answers a below =
    let h = answers a below in
    let same : tree_of pairs' root ≡ tree_of pairs root =
    (IsKept-from_growth pairs pairs' m grown (record_of root) of).1 in
    Answers-grown pairs' places places' n root (record_at s a) a grown'
    (record {
      leaf = h.leaf;
      is = ap (λ (t : Tree ℕ). look t (bits_of 128 a)) same ∙ h.is;
      few = h.few;
      place = h.place;
    })

IsRootOf-grown : (pairs pairs' : List Pair) (root : Root) (m : ℕ) → GrowsBy pairs pairs' m
    → IsRootOf pairs root → IsRootOf pairs' root
IsRootOf-grown pairs pairs' root m grown of =
    (IsKept-from_growth pairs pairs' m grown (record_of root) of).0

-- so sources, root and grounds stay what they are to one another
IsBased-grown : (s : InForce) (pairs pairs' : List Pair) (places places' : List PlaceParts)
    (root : Root) (touched : List Ends) (m n : ℕ)
    → GrowsBy pairs pairs' m → PlacesGrowBy places places' n → IsBased s pairs places root touched
    → IsBased s pairs' places' root touched
IsBased-grown s pairs pairs' places places' root touched m n grown grown' h = record {
  sources = h.sources;
  of = IsRootOf-grown pairs pairs' root m grown h.of;
  base = record {
    base = h.base.base;
    answers =
        AnswersAll-grown pairs pairs' places places' root h.base.base m n h.of grown grown'
        h.base.answers;
    kept = h.base.kept;
  };
}

pub AreBased-grown : (pairs pairs' : List Pair) (places places' : List PlaceParts) (m n : ℕ)
    → GrowsBy pairs pairs' m → PlacesGrowBy places places' n
    → (marks : List Mark) → AreBased pairs places marks → AreBased pairs' places' marks
AreBased-grown pairs pairs' places places' m n grown grown' [] h = tt
AreBased-grown pairs pairs' places places' m n grown grown' (k ∷ ks) h = (
  IsBased-grown k.sources pairs pairs' places places' k.root k.touched m n grown grown' h.0,
  AreBased-grown pairs pairs' places places' m n grown grown' ks h.1,
)

-- and a session stays one
pub IsSession-grown : (s : InForce) (pairs pairs' : List Pair) (places places' : List PlaceParts)
    (root : Root) (touched : List Ends) (marks : List Mark) (m n : ℕ)
    → GrowsBy pairs pairs' m → PlacesGrowBy places places' n
    → IsSession s pairs places root touched marks → IsSession s pairs' places' root touched marks
IsSession-grown s pairs pairs' places places' root touched marks m n grown grown' h = record {
  now = IsBased-grown s pairs pairs' places places' root touched m n grown grown' h.now;
  marks = AreBased-grown pairs pairs' places places' m n grown grown' marks h.marks;
  order = h.order;
}

-- and is one after an emit
IsBased-emitted : (s : InForce) (pairs : List Pair) (places : List PlaceParts) (root : Root)
    → AreSources s → IsRootOf pairs root → AnswersAll pairs places root s
    → IsBased s pairs places root []
IsBased-emitted s pairs places root sources of answers = record {
  sources = sources;
  of = of;
  base = record { base = s; answers = answers; kept = λ a none. refl };
}

pub IsSession-emitted : (s : InForce) (pairs pairs' : List Pair) (places places' : List PlaceParts)
    (old root : Root) (touched touched' : List Ends) (marks : List Mark) (m n : ℕ)
    → GrowsBy pairs pairs' m → PlacesGrowBy places places' n
    → IsSession s pairs places old touched marks
    → IsRootOf pairs' root → AnswersAll pairs' places' root s → touched' ≡ []
    → IsSession s pairs' places' root touched' marks
IsSession-emitted s pairs pairs' places places' old root touched touched' marks m n grown grown' h
    of answers quiet = record {
      now =
          subst (λ (rs : List Ends). IsBased s pairs' places' root rs) (sym quiet)
          (IsBased-emitted s pairs' places' root h.now.sources of answers);
      marks = AreBased-grown pairs pairs' places places' m n grown grown' marks h.marks;
      order = h.order;
    }

-- it is one from the start
no_record : (a : ℕ) → record_at no_sources a ≡ None
unfolding spoken_at first_override speaking_entry speaker first_delegation
no_record a = refl

AreSources-none : AreSources no_sources
AreSources-none = record {
  dumps = λ i j d lt below. absurd (omega (arith, below));
  feeds = λ i j d lt below. absurd (omega (arith, below));
  stats = λ i j d lt below. absurd (omega (arith, below));
  entries = λ k d below. absurd (omega (arith, below));
  delegations = λ k d below. absurd (omega (arith, below));
  overrides = λ i j d lt below. absurd (omega (arith, below));
}

pub AnswersAll-none : (pairs : List Pair) (places : List PlaceParts) (root : Root)
    → tree_of pairs root ≡ leaf 0 → AnswersAll pairs places root no_sources
AnswersAll-none pairs places root empty a below = record {
  leaf = 0;
  is = ap (λ (t : Tree ℕ). look t (bits_of 128 a)) empty;
  few = omega arith;
  place = sym (no_record a);
}

none_in_order : AreInOrder (λ (m : Mark). m.name) []
none_in_order = λ i j d lt below. absurd (omega (arith, below))

pub IsSession-begun : (s : InForce) (pairs : List Pair) (places : List PlaceParts) (root : Root)
    (touched : List Ends) (marks : List Mark)
    → s ≡ no_sources → touched ≡ [] → marks ≡ [] → IsRootOf pairs root → tree_of pairs root ≡ leaf 0
    → IsSession s pairs places root touched marks
IsSession-begun s pairs places root touched marks none quiet unmarked of empty = record {
  now =
      subst (λ (now : InForce). IsBased now pairs places root touched) (sym none)
      (subst (λ (rs : List Ends). IsBased no_sources pairs places root rs) (sym quiet)
      (IsBased-emitted no_sources pairs places root AreSources-none of
      (AnswersAll-none pairs places root empty)));
  marks = subst (AreBased pairs places) (sym unmarked) tt;
  order = subst (AreInOrder (λ (m : Mark). m.name)) (sym unmarked) none_in_order;
}

-- and after a call that sets or drops a source
pub IsSession-changed : SourcesStay → KeptByOneMore
    → (s s' : InForce) (c : Change) (pairs : List Pair) (places : List PlaceParts) (root : Root)
    (touched touched' more : List Ends) (marks : List Mark)
    → IsSession s pairs places root touched marks
    → IsSound c → s' ≡ after c s → touched' ≡ touched ++ more → IsPermutation (changes c s) more
    → IsSession s' pairs places root touched' marks
IsSession-changed stay keep s s' c pairs places root touched touched' more marks h sound now longer
    same = record {
      now =
          subst (λ (s : InForce). IsBased s pairs places root touched') (sym now)
          (subst (λ (rs : List Ends). IsBased (after c s) pairs places root rs)
          (sym longer) (record {
            sources = stay s c h.now.sources sound;
            of = h.now.of;
            base = record {
              base = h.now.base.base;
              answers = h.now.base.answers;
              kept = keep h.now.base.base s c touched more h.now.sources sound same h.now.base.kept;
            };
          }));
      marks = h.marks;
      order = h.order;
    }

pub HasChanged-made : (c : Change) (old : Held) (s : InForce) (touched more : List Ends)
    → s ≡ after c old.state.sources → touched ≡ old.touched ++ more
    → IsPermutation (changes c old.state.sources) more
    → HasChanged c old (record old {
      state = record old.state { sources = s };
      touched = touched;
    })
HasChanged-made c old s touched more now longer same = record {
  state = ap (λ (t : InForce). record old.state { sources = t }) now;
  more = more;
  touched = longer;
  same = same;
  store = refl;
  places = refl;
  root = refl;
  marks = refl;
}

-- the root's meaning stays too
pub RootMeans-grown : (old new : Held) (s : InForce) (m n : ℕ) → GrowsBy old.store new.store m
    → PlacesGrowBy old.places new.places n → new.root ≡ old.root → RootMeans old s → RootMeans new s
RootMeans-grown old new s m n grown grown' same h = record {
  of =
      subst (λ (root : Root). IsRootOf new.store root) (sym same)
      (IsRootOf-grown old.store new.store old.root m grown h.of);
  answers =
      subst (λ (root : Root). AnswersAll new.store new.places root s) (sym same) (AnswersAll-grown
      old.store new.store old.places new.places old.root s m n h.of grown grown' h.answers);
}

-- what stayed as it was has grown by none
pub grown_by_none : {X : Type 0} (old new : List X) → new ≡ old
    → (more : List X) × (new ≡ old ++ more) × (length more ≤ 0)
grown_by_none old new same = ([], same ∙ sym (append-nil old), omega arith)

pub length-grown_by : {X : Type 0} (old new : List X) (n : ℕ)
    → (more : List X) × (new ≡ old ++ more) × (length more ≤ n) → length new ≤ length old + n
length-grown_by old new n (more, is, few) = omega (arith, few, ap length is, length-append old more)

-- where nothing is touched the root answers what is in force
pub all_from_base : (s : InForce) (pairs : List Pair) (places : List PlaceParts)
    (root : Root) (touched : List Ends) → touched ≡ [] → HasBase pairs places root touched s
    → AnswersAll pairs places root s
all_from_base s pairs places root touched none h a below =
    let quiet : is_touched touched (home a) ≡ false =
    ap (λ (rs : List Ends). is_touched rs (home a)) none in
    subst (λ (wanted : Option PlaceParts). Answers pairs places root wanted a)
    (h.kept (home a) quiet) (h.answers a below)

-- and off the touched grounds what is said
pub spoken_elsewhere : (s : InForce) (pairs : List Pair) (places : List PlaceParts) (root : Root)
    (touched : List Ends) → HasBase pairs places root touched s
    → (a : ℕ) → a < 2 ^ 128 → is_alias a ≡ false → is_touched touched a ≡ false
    → Answers pairs places root (spoken_at s a) a
spoken_elsewhere s pairs places root touched h a below own none =
    spoken_from_base pairs places root h.base s a (h.answers a below) own (h.kept a none)
