-- What is chosen where nothing was said before: of the pieces of a chunk those of which something
-- is said are its segments, and what is left out is spared.
use Rattle.std.proofs.Common.{◌≡◌, ◌∙◌, ℕ, zero, suc, ◌+◌, ◌^◌, ◌<◌, ◌≤◌, ◌⊎◌, ◌&&◌, ◌||◌, Bool}
use Rattle.std.proofs.Common.{true, false, cond, leb, List, [], ◌∷◌, Contains, get_or, length}
use Rattle.std.proofs.Common.{Option, Some, None, ap, arith, inl, inr, refl, subst, sym}
use Rattle.std.specs.List.{All, AllAdjacentBelow, AllByRecursion, AllZip, Any, filter}
use Rattle.std.specs.Prelude.{IsTrue, is_some}
use Rattle.std.proofs.lemmas.Bool.Decides.{nat_tests}
use Rattle.std.proofs.lemmas.List.Elements.{All-filter, All-from_recursion, All-weaker}
use Rattle.std.proofs.lemmas.List.Elements.{filter_passes}
use Rattle.geo_addr.specs.Ranges.{Ends, IsCut, IsRange, IsWithin, ground_first, holds}
use Rattle.geo_terms.specs.Alias.{is_alias}
use Rattle.geo_terms.specs.Cuts.{statement_ranges}
use Rattle.geo_terms.specs.Numbers.{place_at}
use Rattle.geo_terms.specs.PlaceForm.{PlaceParts}
use Rattle.geo_terms.specs.Precedence.{spoken_at}
use Rattle.geo_terms.specs.Sources.{InForce}
use Rattle.cut_segments.proofs.CutLemmas.{any_cases, any_left, any_one, any_right, one_any}
use Rattle.cut_segments.proofs.SegmentLemmas.{Ascending}
use Rattle.cut_segments.specs.Segments.{starts_in}
use Rattle.precedence.proofs.PieceLemmas.{pieces_have}
use Rattle.precedence.specs.Chunks.{ArePieces, AreSegmentsIn, Tiles, none_spared}
use Rattle.source_changes.specs.Touched.{is_touched}
use Rattle.trie_core.specs.declared.node.Pair.{Pair}
use Rattle.trie_core.specs.declared.node.Root.{Root}
use Rattle.trie_core.specs.Store.{tree_of}
use Rattle.trie_core.specs.Tree.{Tree, leaf, look}
use Rattle.update_session.specs.declared.choosing.Chosen.{Chosen}
use Rattle.update_session.specs.Build.{IsAllTouched, IsChosenIn, IsSpared, is_wanted}
use Rattle.update_session.specs.Kept.{Answers, HasBase}
use Rattle.update_session.proofs.ChunkLemmas.{ascending_weaker}
use Rattle.update_session.proofs.KeptLemmas.{spoken_elsewhere}

-- ---- neighbouring ranges, of which some are kept

ascending_kept : (f : Ends → Bool) (low high : ℕ) (rs : List Ends) → Tiles low rs high
    → Ascending low (filter f rs)
ascending_kept f low high [] t = tt
ascending_kept f low high (r ∷ rs) t = by (f r) (ascending_kept f (r.last + 1) high rs t.2)
  where
    by : (b : Bool) → Ascending (r.last + 1) (filter f rs)
        → Ascending low (cond b (r ∷ filter f rs) (filter f rs))
    by true rest = (omega (arith, t.0), omega (arith, t.0, t.1), rest)
    by false rest = ascending_weaker low (r.last + 1) (filter f rs) (omega (arith, t.1)) rest

apart_if_ascending : (low : ℕ) (rs : List Ends) → Ascending low rs
    → AllAdjacentBelow (λ r t. r.last < t.first) rs (length rs)
apart_if_ascending low [] h k d below = absurd (omega (arith, below))
apart_if_ascending low (r ∷ []) h k d below = absurd (omega (arith, below))
apart_if_ascending low (r ∷ t ∷ rs) h zero d below = omega (arith, h.2.0)
apart_if_ascending low (r ∷ t ∷ rs) h (suc k) d below =
    let e : suc (k + 1) ≡ suc k + 1 = omega arith in
    subst (λ (n : ℕ). (get_or (r ∷ t ∷ rs) (suc k) d).last < (get_or (r ∷ t ∷ rs) n d).first) e
    (apart_if_ascending (r.last + 1) (t ∷ rs) h.2 k d (omega (arith, below)))

-- where a range lies among neighbouring ones
abbrev LiesIn : ℕ → ℕ → Ends → Type 0
LiesIn low high r = (low ≤ r.first) × (r.first ≤ r.last) × (r.last + 1 ≤ high)

lie_in : (from low high : ℕ) (rs : List Ends) → from ≤ low → Tiles low rs high
    → AllByRecursion (LiesIn from high) rs
lie_in from low high [] le t = tt
lie_in from low high (r ∷ rs) le t = (
  (omega (arith, le, t.0), omega (arith, t.0, t.1), up (r.last + 1) high rs t.2),
  lie_in from (r.last + 1) high rs (omega (arith, le, t.1)) t.2,
)
  where
    up : (low high : ℕ) (rs : List Ends) → Tiles low rs high → low ≤ high
    up low high [] t = omega (arith, t)
    up low high (r ∷ rs) t = let above = up (r.last + 1) high rs t.2 in omega (arith, t.1, above)

any_kept : (f : Ends → Bool) (a : ℕ) (rs : List Ends) → Any (λ r. IsWithin r a × (f r ≡ true)) rs
    → Any (λ r. IsWithin r a) (filter f rs)
any_kept f a [] any = absurd (omega (arith, any.2))
any_kept f a (r ∷ rs) any =
    by (any_kept f a rs) (f r) refl
    (any_cases (λ (x : Ends). IsWithin x a × (f x ≡ true)) (r ∷ []) rs any)
  where
    Kept : List Ends → Type 0
    Kept xs = Any (λ x. IsWithin x a × (f x ≡ true)) xs

    by : (Kept rs → Any (λ x. IsWithin x a) (filter f rs)) → (b : Bool) → f r ≡ b
        → Kept (r ∷ []) ⊎ Kept rs
        → Any (λ x. IsWithin x a) (cond b (r ∷ filter f rs) (filter f rs))
    by rest true is (inl here) =
        any_left (λ (x : Ends). IsWithin x a) (r ∷ []) (filter f rs)
        (any_one (λ (x : Ends). IsWithin x a) r
        (one_any (λ (x : Ends). IsWithin x a × (f x ≡ true)) r here).0)
    by rest true is (inr later) =
        any_right (λ (x : Ends). IsWithin x a) (r ∷ []) (filter f rs) (rest later)
    by rest false is (inl here) =
        absurd (let e : true ≡ false =
        sym (one_any (λ (x : Ends). IsWithin x a × (f x ≡ true)) r here).1 ∙ is in cc)
    by rest false is (inr later) = rest later

-- ---- what is said, and what is touched

some_is_said : (o : Option PlaceParts) → is_some o ≡ true → o ≡ None → ⊥
some_is_said None said none = let e : false ≡ true = said in cc
some_is_said (Some p) said none = cc

none_is_said : (o : Option PlaceParts) → is_some o ≡ false → o ≡ None
none_is_said None said = refl
none_is_said (Some p) said = absurd (let e : true ≡ false = said in cc)

touched_where_said : (s : InForce) (touched : List Ends) (a : ℕ) → IsAllTouched s touched
    → a < 2 ^ 128 → is_some (spoken_at s a) ≡ true → IsTrue (is_touched touched a)
touched_where_said s touched a all below said = by (is_touched touched a) refl
  where
    by : (b : Bool) → is_touched touched a ≡ b → b ≡ true
    by true is = refl
    by false is = absurd (some_is_said (spoken_at s a) said (all a below is))

held_from : (r : Ends) (a : ℕ) → holds r a ≡ true → ground_first r ≤ a
unfolding holds
held_from r a held = low held
  where
    low : (leb (ground_first r) a && leb a r.last) ≡ true → ground_first r ≤ a
    low held = grind (arith, nat_tests)

-- a ground that holds the first address of a chunk begins, in the chunk, at that address
start_there : (touched : List Ends) (chunk : Ends) (a : ℕ) → a ≡ chunk.first
    → IsTrue (is_touched touched a) → Contains (starts_in touched chunk) a
start_there [] chunk a e is = absurd (let f : false ≡ true = is in cc)
start_there (r ∷ rs) chunk a e is = by (start_there rs chunk a e) (holds r a) refl is
  where
    by : (IsTrue (is_touched rs a) → Contains (starts_in rs chunk) a) → (b : Bool)
        → holds r a ≡ b → (holds r a || is_touched rs a) ≡ true
        → Contains (starts_in (r ∷ rs) chunk) a
    by rest true held is =
        (0, omega arith, let le = held_from r a held in omega (arith, le, e))
    by rest false held is =
        let later = rest (ap (λ x. x || is_touched rs a) (sym held) ∙ is) in
        (suc later.0, omega (arith, later.1), later.2)

-- ---- the segments of a chunk

-- nothing is left out where something may have been said before
pub all_wanted : (s : InForce) (rs : List Ends) → filter (is_wanted s false) rs ≡ rs
all_wanted s [] = refl
all_wanted s (r ∷ rs) = ap (λ (xs : List Ends). r ∷ xs) (all_wanted s rs)

pub none_spared_of : (s : InForce) (touched : List Ends) (blank : Bool) (chunk : Ends)
    (out : List Ends) → AreSegmentsIn s touched none_spared chunk out
    → AreSegmentsIn s touched (IsSpared s blank) chunk out
none_spared_of s touched blank chunk out h = record {
  ranges = h.ranges;
  apart = h.apart;
  inside = h.inside;
  covered = λ a on within. elim (h.covered a on within) [
    | inl any ↦ inl any
    | inr none ↦ absurd none
  ];
  steady = h.steady;
  begun = h.begun;
}

-- of the pieces of a chunk those of which something is said, where all that is said is touched
pub segments_of_pieces : (s : InForce) (touched : List Ends) (chunk : Ends) (pieces : List Ends)
    → chunk.last < 2 ^ 128 → IsAllTouched s touched → ArePieces s chunk pieces
    → AreSegmentsIn s touched (IsSpared s true) chunk (filter (is_wanted s true) pieces)
segments_of_pieces s touched chunk pieces space all are = record {
  ranges = All-weaker (LiesIn chunk.first (chunk.last + 1)) IsRange
      (λ r lies. record {
        ordered = lies.1;
        within = omega (arith, lies.2, space);
      }) out in_chunk;
  apart = apart_if_ascending chunk.first out
      (ascending_kept wanted chunk.first (chunk.last + 1) pieces are.tiles);
  inside = λ a any. inside a any;
  covered = λ a on within. covered a within
      (pieces_have chunk.first (chunk.last + 1) pieces a are.tiles within.0
      (omega (arith, within.1)));
  steady = steady;
  begun = λ k d below. begun k d below (firsts k d below);
}
  where
    wanted : Ends → Bool
    wanted = is_wanted s true

    out : List Ends
    out = filter (is_wanted s true) pieces

    in_chunk : All (LiesIn chunk.first (chunk.last + 1)) out
    in_chunk =
        All-filter wanted (LiesIn chunk.first (chunk.last + 1)) pieces
        (All-from_recursion (LiesIn chunk.first (chunk.last + 1)) pieces
        (lie_in chunk.first chunk.first (chunk.last + 1) pieces (omega arith) are.tiles))

    steady : All (λ r. (a : ℕ) → IsWithin r a → spoken_at s a ≡ spoken_at s r.first) out
    steady =
        All-filter wanted (λ (r : Ends). (a : ℕ) → IsWithin r a
        → spoken_at s a ≡ spoken_at s r.first) pieces are.steady

    said : All (λ r. is_wanted s true r ≡ true) out
    said = filter_passes wanted pieces

    firsts : All (λ r. (r.first ≡ chunk.first) ⊎ IsCut (statement_ranges s) r.first) out
    firsts =
        All-filter wanted (λ (r : Ends). (r.first ≡ chunk.first)
        ⊎ IsCut (statement_ranges s) r.first) pieces are.begun

    inside : (a : ℕ) → Any (λ r. IsWithin r a) out
        → IsTrue (is_touched touched a) × IsWithin chunk a
    inside a (k, r, below, is, within) =
        let here : IsWithin (get_or out k r) a =
        subst (λ (x : Ends). IsWithin x a) (sym is) within in
        let lies = in_chunk k r below in
        let low : (get_or out k r).first ≤ a = here.0 in
        let high : a ≤ (get_or out k r).last = here.1 in (
          touched_where_said s touched a all (omega (arith, lies.2, high, space))
              (ap is_some (steady k r below a here) ∙ said k r below),
          (omega (arith, lies.0, low), omega (arith, lies.2, high)),
        )

    covered : (a : ℕ) → IsWithin chunk a → Any (λ r. IsWithin r a) pieces
        → Any (λ r. IsWithin r a) out ⊎ IsSpared s true a
    covered a within (k, r, below, is, lies) = by (is_some (spoken_at s r.first)) refl
      where
        same : spoken_at s a ≡ spoken_at s r.first
        same =
            are.steady k r below a (subst (λ (x : Ends). IsWithin x a) (sym is) lies)
            ∙ ap (λ (x : Ends). spoken_at s x.first) is

        by : (b : Bool) → is_some (spoken_at s r.first) ≡ b
            → Any (λ x. IsWithin x a) out ⊎ IsSpared s true a
        by true told = inl (any_kept wanted a pieces (k, r, below, is, (lies, told)))
        by false told = inr (refl, same ∙ none_is_said (spoken_at s r.first) told)

    begun : (k : ℕ) (d : Ends) → k < length out
        → ((get_or out k d).first ≡ chunk.first) ⊎ IsCut (statement_ranges s) (get_or out k d).first
        → Contains (starts_in touched chunk) (get_or out k d).first
        ⊎ IsCut (statement_ranges s) (get_or out k d).first
    begun k d below (inr cut) = inr cut
    begun k d below (inl first) =
        let lies = in_chunk k d below in
        inl (start_there touched chunk (get_or out k d).first first
        (touched_where_said s touched (get_or out k d).first all
        (omega (arith, lies.1, lies.2, space)) (said k d below)))

-- the segments that are kept of those at hand
pub segments_kept : (s : InForce) (touched : List Ends) (blank : Bool) (chunk : Ends)
    (given out : List Ends) → out ≡ filter (is_wanted s blank) given
    → (IsTrue blank → IsAllTouched s touched)
    → (blank ≡ true → ArePieces s chunk given × (chunk.last < 2 ^ 128))
    → (blank ≡ false → AreSegmentsIn s touched none_spared chunk given)
    → AreSegmentsIn s touched (IsSpared s blank) chunk out
segments_kept s touched true chunk given out is all pieces segments =
    subst (AreSegmentsIn s touched (IsSpared s true) chunk) (sym is)
    (segments_of_pieces s touched chunk given (pieces refl).1 (all refl) (pieces refl).0)
segments_kept s touched false chunk given out is all pieces segments =
    subst (AreSegmentsIn s touched (IsSpared s false) chunk) (sym (is ∙ all_wanted s given))
    (none_spared_of s touched false chunk given (segments refl))

-- what was chosen in each chunk, where all that is said is touched if nothing was before
pub all_chosen : (s : InForce) (touched : List Ends) (blank : Bool) (chunks : List Ends)
    (chosen : List Chosen) → (IsTrue blank → IsAllTouched s touched)
    → AllZip (λ chunk one. (IsTrue blank → IsAllTouched s touched)
    → IsChosenIn s touched blank chunk one) chunks chosen
    → AllZip (λ chunk one. IsChosenIn s touched blank chunk one) chunks chosen
all_chosen s touched blank [] [] all h = tt
all_chosen s touched blank [] (c ∷ cs) all h = absurd h
all_chosen s touched blank (r ∷ rs) [] all h = absurd h
all_chosen s touched blank (r ∷ rs) (c ∷ cs) all h =
    (h.0 all, all_chosen s touched blank rs cs all h.1)

-- ---- where the root is that of no record

empty_leaf : (t : Tree ℕ) (bits : List Bool) → t ≡ leaf 0 → look t bits ≡ Some 0
empty_leaf t bits is = ap (λ (u : Tree ℕ). look u bits) is

-- an address of which nothing is said has its answer
pub answers_none : (s : InForce) (pairs : List Pair) (places : List PlaceParts) (root : Root)
    (a : ℕ) → tree_of pairs root ≡ leaf 0 → spoken_at s a ≡ None
    → Answers pairs places root (spoken_at s a) a
answers_none s pairs places root a empty none = record {
  leaf = 0;
  is = empty_leaf (tree_of pairs root) _ empty;
  few = omega arith;
  place = sym none;
}

-- all that is said is touched, where nothing is said of addresses that carry IPv4 addresses
pub all_touched : (s : InForce) (pairs : List Pair) (places : List PlaceParts) (root : Root)
    (touched : List Ends) → HasBase pairs places root touched s → tree_of pairs root ≡ leaf 0
    → ((a : ℕ) → is_alias a ≡ true → spoken_at s a ≡ None) → IsAllTouched s touched
all_touched s pairs places root touched base empty silent a below none = by (is_alias a) refl
  where
    by : (b : Bool) → is_alias a ≡ b → spoken_at s a ≡ None
    by true is = silent a is
    by false is =
        let h = spoken_elsewhere s pairs places root touched base a below is none in
        let zero_is : Some 0 ≡ Some h.leaf = sym (empty_leaf (tree_of pairs root) _ empty) ∙ h.is in
        let same : 0 ≡ h.leaf = cc in
        sym (ap (place_at places) same ∙ h.place)
