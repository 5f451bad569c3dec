-- What a root answers while chunks of segments are painted on it, and after all were.
use Rattle.std.proofs.Common.{◌≡◌, ℕ, zero, suc, ◌+◌, ◌*◌, ◌^◌, ◌<◌, ◌≤◌, ◌⊎◌, Bool, true, false}
use Rattle.std.proofs.Common.{cond, ◌&&◌, leb, eqb, List, [], ◌∷◌, ◌++◌, length, map, get_or}
use Rattle.std.proofs.Common.{Option, Some, None, inl, inr, refl, sym, ap, ◌∙◌, subst, arith}
use Rattle.std.proofs.Common.{length-append, append_assoc, append-nil, MatchOption}
use Rattle.std.specs.Prelude.{IsTrue, slice_get, flat_map}
use Rattle.std.specs.List.{All, AllAdjacentBelow, Any, AllByRecursion}
use Rattle.std.proofs.lemmas.Bool.Decides.{nat_tests}
use Rattle.std.proofs.lemmas.List.{length-map}
use Rattle.std.proofs.lemmas.List.Concat.{flat_map-append}
use Rattle.std.proofs.Math.ListN.{get_or-map}
use Rattle.std.proofs.lemmas.List.Elements.{recursion_from_All}
use Rattle.geo_addr.specs.Ranges.{Ends, IsRange, IsWithin}
use Rattle.geo_terms.specs.Numbers.{place_at}
use Rattle.geo_terms.specs.PlaceForm.{PlaceParts}
use Rattle.geo_terms.specs.Alias.{is_alias}
use Rattle.geo_terms.specs.Cuts.{statement_ranges}
use Rattle.geo_terms.specs.Precedence.{spoken_at}
use Rattle.geo_terms.specs.Sources.{InForce}
use Rattle.cut_segments.proofs.CutLemmas.{any_cases, any_left, any_one, any_right, one_any}
use Rattle.source_changes.specs.Touched.{is_touched}
use Rattle.trie_core.specs.declared.node.Pair.{Pair}
use Rattle.trie_core.specs.declared.node.Root.{Root}
use Rattle.trie_core.specs.declared.paint.Part.{Part}
use Rattle.trie_core.specs.Paint.{IsAscending, leaf_in, over}
use Rattle.trie_core.specs.Store.{leaf_at}
use Rattle.update_session.specs.Build.{AreChosen, IsChosenIn, IsSpared, StandFor, said_in}
use Rattle.update_session.specs.Build.{segments_of}
use Rattle.update_session.specs.Touch.{bound, few_places, touch}
use Rattle.update_session.specs.Kept.{Answers, AnswersSpoken, GrowsBy}
use Rattle.update_session.specs.declared.choosing.Chosen.{Chosen}

-- ---- a list of places that grows

slice_get-grown : {X : Type 0} (xs more : List X) (i : ℕ) → i < length xs
    → slice_get (xs ++ more) i ≡ slice_get xs i
slice_get-grown [] more i below = absurd (omega arith)
slice_get-grown (x ∷ xs) more zero below = refl
slice_get-grown (x ∷ xs) more (suc i) below = slice_get-grown xs more i (omega arith)

-- a number keeps its place
pub place_at-grown : (before more : List PlaceParts) (k : ℕ) → k ≤ length before
    → place_at (before ++ more) k ≡ place_at before k
place_at-grown before more zero few = refl
place_at-grown before more (suc i) few = slice_get-grown before more i (omega arith)

pub GrowsBy-trans : (x y z : List PlaceParts) (m n all : ℕ) → GrowsBy x y m → GrowsBy y z n
    → m + n ≤ all → GrowsBy x z all
GrowsBy-trans x y z m n all (more, y-is, few) (late, z-is, few') le = (
  more ++ late,
  z-is ∙ ap (λ (ps : List PlaceParts). ps ++ late) y-is ∙ append_assoc x more late,
  omega (arith, few, few', le, length-append more late),
)

-- where something is touched, an emit gives numbers to no more places than the touch,
-- and may paint as many parts
pub few_places_of : (s : InForce) (touched : List Ends) (before after : List PlaceParts) (n : ℕ)
    → eqb (length touched) 0 ≡ false → n ≤ touch touched (statement_ranges s)
    → GrowsBy before after n → GrowsBy before after (few_places touched s)
unfolding few_places
few_places_of s [] before after n some le grown =
    absurd (let this : true ≡ false = some in cc)
few_places_of s (r ∷ rs) before after n some le (more, after-is, few) =
    (more, after-is, omega (arith, few, le))

-- some ground is touched where a test tells that the list is not empty
pub some_touched : (touched : List Ends) (b : Bool) → (touched ≡ [] → IsTrue b) → b ≡ false
    → eqb (length touched) 0 ≡ false
some_touched [] b from is = absurd (let f : false ≡ true = sym is ∙ from refl in cc)
some_touched (r ∷ rs) b from is = grind (arith, nat_tests)

pub within_bound : (s : InForce) (touched : List Ends) (n : ℕ)
    → eqb (length touched) 0 ≡ false → n ≤ touch touched (statement_ranges s)
    → 256 * n + 256 ≤ bound touched s
unfolding bound few_places
within_bound s [] n some le = absurd (let this : true ≡ false = some in cc)
within_bound s (r ∷ rs) n some le = omega (arith, le)

pub Answers-grown : (pairs : List Pair) (before after : List PlaceParts)
    (n : ℕ) (root : Root) (wanted : Option PlaceParts) (a : ℕ) → GrowsBy before after n
    → Answers pairs before root wanted a → Answers pairs after root wanted a
Answers-grown pairs before after n root wanted a (more, after-is, few) h =
    subst (λ (places : List PlaceParts). Answers pairs places root wanted a) (sym after-is)
    (record {
      leaf = h.leaf;
      is = h.is;
      few = omega (arith, h.few, length-append before more);
      place = place_at-grown before more h.leaf h.few ∙ h.place;
    })

-- ---- the parts of a chunk

-- parts with the ranges of ascending segments ascend
pub IsAscending-from_segments : (segments : List Ends) (parts : List Part) → All IsRange segments
    → AllAdjacentBelow (λ r t. r.last < t.first) segments (length segments)
    → map (λ p. p.range) parts ≡ segments → IsAscending parts
IsAscending-from_segments segments parts are apart ranges = record {
  ranges =
      λ k d below. let is : IsRange (get_or segments k d.range) =
      are k d.range (omega (arith, below, same_length)) in
      subst IsRange (range_at k d) is;
  apart = λ k d below.
      subst (λ (r : Ends). r.last < (get_or parts (k + 1) d).range.first) (range_at k d)
      (subst (λ (r : Ends). (get_or segments k d.range).last < r.first) (range_at (k + 1) d)
      (apart k d.range (omega (arith, below, same_length))));
}
  where
    same_length : length segments ≡ length parts
    same_length = ap length (sym ranges) ∙ length-map parts (λ (p : Part). p.range)

    range_at : (k : ℕ) (d : Part) → get_or segments k d.range ≡ (get_or parts k d).range
    range_at k d =
        ap (λ (rs : List Ends). get_or rs k d.range) (sym ranges)
        ∙ get_or-map (λ (p : Part). p.range) parts k d

-- the same is said from the first address of a range to its last
abbrev Steady : InForce → Ends → Type 0
Steady s r = (a : ℕ) → IsWithin r a → spoken_at s a ≡ spoken_at s r.first

abbrev Have : List Ends → ℕ → Type 0
Have segments a = Any (λ r. IsWithin r a) segments

-- what was painted at an address: nothing where no segment has it, else the number of what is said
abbrev Tells : InForce → List PlaceParts → List Ends → ℕ → Option ℕ → Type 0
Tells s places segments a found =
    MatchOption found (Have segments a → ⊥)
    (λ k. Have segments a × (k ≤ length places) × (place_at places k ≡ spoken_at s a))

abbrev Numbered : InForce → List PlaceParts → List Part → Type 0
Numbered s places ps =
    StandFor places (map (λ p. p.leaf) ps) (map (λ r. spoken_at s r.first) (map (λ p. p.range) ps))

leaf_tells : (s : InForce) (places : List PlaceParts) (ps : List Part) (a : ℕ)
    → Numbered s places ps → AllByRecursion (Steady s) (map (λ p. p.range) ps)
    → Tells s places (map (λ p. p.range) ps) a (leaf_in ps a)
leaf_tells s places [] a stand steady = none
  where
    none : Have [] a → ⊥
    none (k, r, below, is, within) = omega (arith, below)
leaf_tells s places (p ∷ ps) a stand steady =
    let e : place_at places p.leaf ∷ map (place_at places) (map (λ (q : Part). q.leaf) ps)
    ≡ spoken_at s p.range.first
    ∷ map (λ (r : Ends). spoken_at s r.first) (map (λ (q : Part). q.range) ps) =
    stand.means in
    let first : place_at places p.leaf ≡ spoken_at s p.range.first = cc in
    let rest : map (place_at places) (map (λ (q : Part). q.leaf) ps)
    ≡ map (λ (r : Ends). spoken_at s r.first) (map (λ (q : Part). q.range) ps) = cc in
    by first
    (leaf_tells s places ps a (record { known = stand.known.1; means = rest }) steady.1)
    (leb p.range.first a && leb a p.range.last) refl
  where
    later : List Ends
    later = map (λ q. q.range) ps

    behind : (found : Option ℕ) → (IsWithin p.range a → ⊥) → Tells s places later a found
        → Tells s places (p.range ∷ later) a found
    behind None out none = λ any. elim (any_cases (λ r. IsWithin r a) (p.range ∷ []) later any) [
      | inl here ↦ out (one_any (λ r. IsWithin r a) p.range here)
      | inr there ↦ none there
    ]
    behind (Some k) out h = (any_right (λ r. IsWithin r a) (p.range ∷ []) later h.0, h.1, h.2)

    by : place_at places p.leaf ≡ spoken_at s p.range.first
        → Tells s places later a (leaf_in ps a)
        → (b : Bool) → (leb p.range.first a && leb a p.range.last) ≡ b
        → Tells s places (p.range ∷ later) a (cond b (Some p.leaf) (leaf_in ps a))
    by first rest true inside =
        let within : IsWithin p.range a = (grind (arith, nat_tests), grind (arith, nat_tests)) in (
          any_left (λ r. IsWithin r a) (p.range ∷ []) later
              (any_one (λ r. IsWithin r a) p.range within),
          stand.known.0,
          first ∙ sym (steady.0 a within),
        )
    by first rest false outside =
        behind (leaf_in ps a)
        (λ within. let low : p.range.first ≤ a = within.0 in
        let high : a ≤ p.range.last = within.1 in grind (arith, nat_tests)) rest

-- ---- the root, while the chunks are painted

-- the root after these segments were painted: in them it answers what is said,
-- elsewhere it has the leaf that the root before had
pub record IsPaintedSoFar (s : InForce) (done : List Ends) (old : List Pair) (before : Root)
    (new : List Pair) (places : List PlaceParts) (root : Root) : Type 0 where
  pub within : (a : ℕ) → a < 2 ^ 128 → Any (λ r. IsWithin r a) done
      → Answers new places root (spoken_at s a) a
  pub outside : (a : ℕ) → a < 2 ^ 128 → (Any (λ r. IsWithin r a) done → ⊥)
      → leaf_at new root a ≡ leaf_at old before a

-- the segments of one chunk more; the parts are those that were made of them
pub painted_more : (s : InForce) (touched : List Ends) (blank : Bool) (chunk : Ends)
    (before : List Chosen) (one : Chosen) (made parts : List Part) (old mid new : List Pair)
    (places more : List PlaceParts) (n : ℕ) (first root painted : Root)
    → IsPaintedSoFar s (flat_map segments_of before) old first mid places root
    → IsChosenIn s touched blank chunk one → GrowsBy places more n → parts ≡ made
    → map (λ p. p.range) made ≡ one.segments.items
    → StandFor more (map (λ p. p.leaf) made) (said_in one)
    → ((a : ℕ) → a < 2 ^ 128 → leaf_at new painted a ≡ over (leaf_in parts a) (leaf_at mid root a))
    → IsPaintedSoFar s (flat_map segments_of (before ++ one ∷ [])) old first new more painted
painted_more s touched blank chunk before one made parts old mid new places more n first root
    painted so_far chosen grown same made_ranges made_stand lookups =
    subst (λ (rs : List Ends). IsPaintedSoFar s rs old first new more painted) (sym longer)
    (record {
      within = λ a below any. inside a below any (leaf_in parts a) refl (tells a);
      outside = λ a below none. beside a below none (leaf_in parts a) refl (tells a);
    })
  where
    done : List Ends
    done = flat_map segments_of before

    segments : List Ends
    segments = one.segments.items

    longer : flat_map segments_of (before ++ one ∷ []) ≡ done ++ segments
    longer =
        flat_map-append segments_of before (one ∷ [])
        ∙ ap (λ (rs : List Ends). done ++ rs) (append-nil segments)

    tells : (a : ℕ) → Tells s more segments a (leaf_in parts a)
    tells a =
        subst (λ (ps : List Part). Tells s more segments a (leaf_in ps a)) (sym same)
        (subst (λ (rs : List Ends). Tells s more rs a (leaf_in made a)) made_ranges
        (leaf_tells s more made a
        (subst (StandFor more (map (λ (p : Part). p.leaf) made))
        (chosen.chosen.stands.means ∙ ap (map (λ (r : Ends). spoken_at s r.first))
        (sym made_ranges)) made_stand)
        (subst (AllByRecursion (Steady s)) (sym made_ranges)
        (recursion_from_All (Steady s) segments chosen.cut.steady))))

    inside : (a : ℕ) → a < 2 ^ 128 → Have (done ++ segments) a → (found : Option ℕ)
        → leaf_in parts a ≡ found → Tells s more segments a found
        → Answers new more painted (spoken_at s a) a
    inside a below any None is none =
        let was = Answers-grown mid places more n root (spoken_at s a) a grown
        (so_far.within a below (elim (any_cases (λ r. IsWithin r a) done segments any) [
          | inl here ↦ here
          | inr there ↦ absurd (none there)
        ])) in
        record {
          leaf = was.leaf;
          is = lookups a below ∙ ap (λ found. over found (leaf_at mid root a)) is ∙ was.is;
          few = was.few;
          place = was.place;
        }
    inside a below any (Some k) is h =
        record {
          leaf = k;
          is = lookups a below ∙ ap (λ found. over found (leaf_at mid root a)) is;
          few = h.1;
          place = h.2;
        }

    beside : (a : ℕ) → a < 2 ^ 128 → (Have (done ++ segments) a → ⊥) → (found : Option ℕ)
        → leaf_in parts a ≡ found → Tells s more segments a found
        → leaf_at new painted a ≡ leaf_at old first a
    beside a below none None is h =
        lookups a below ∙ ap (λ found. over found (leaf_at mid root a)) is
        ∙ so_far.outside a below (λ any. none (any_left (λ r. IsWithin r a) done segments any))
    beside a below none (Some k) is h =
        absurd (none (any_right (λ r. IsWithin r a) done segments h.0))

-- an address lies in a range of a list, or in none
have_or_not : (rs : List Ends) (a : ℕ) → Have rs a ⊎ (Have rs a → ⊥)
have_or_not [] a = inr (λ (k, r, below, is, within). omega (arith, below))
have_or_not (r ∷ rs) a =
    elim (have_or_not rs a) [
      | inl any ↦ inl (any_right (λ x. IsWithin x a) (r ∷ []) rs any)
      | inr none ↦ by none (leb r.first a && leb a r.last) refl
    ]
  where
    by : (Have rs a → ⊥) → (b : Bool) → (leb r.first a && leb a r.last) ≡ b
        → Have (r ∷ rs) a ⊎ (Have (r ∷ rs) a → ⊥)
    by none true inside =
        inl (any_left (λ x. IsWithin x a) (r ∷ []) rs
        (any_one (λ x. IsWithin x a) r (grind (arith, nat_tests), grind (arith, nat_tests))))
    by none false outside =
        inr (λ any. elim (any_cases (λ x. IsWithin x a) (r ∷ []) rs any) [
          | inl here ↦
              let within : IsWithin r a = one_any (λ x. IsWithin x a) r here in
              let low : r.first ≤ a = within.0 in
              let high : a ≤ r.last = within.1 in grind (arith, nat_tests)
          | inr there ↦ none there
        ])

-- the root on which the segments of all chunks were painted answers what is said,
-- outside the blocks that carry IPv4 addresses
pub AnswersSpoken-painted : (s : InForce) (touched : List Ends) (blank : Bool)
    (chosen : List Chosen) (old new : List Pair) (before after : List PlaceParts) (n : ℕ)
    (root painted : Root) → AreChosen s touched blank chosen
    → IsPaintedSoFar s (flat_map segments_of chosen) old root new after painted
    → GrowsBy before after n
    → ((a : ℕ) → a < 2 ^ 128 → is_alias a ≡ false → is_touched touched a ≡ false
    → Answers old before root (spoken_at s a) a)
    → ((a : ℕ) → a < 2 ^ 128 → IsSpared s blank a → Answers old before root (spoken_at s a) a)
    → AnswersSpoken new after painted s
AnswersSpoken-painted s touched blank chosen old new before after n root painted are so_far grown
    elsewhere spared a below own =
    elim (have_or_not (flat_map segments_of chosen) a) [
      | inl any ↦ so_far.within a below any
      | inr none ↦
          let was = Answers-grown old before after n root (spoken_at s a) a grown
          (by none (is_touched touched a) refl) in
          record {
            leaf = was.leaf;
            is = so_far.outside a below none ∙ was.is;
            few = was.few;
            place = was.place;
          }
    ]
  where
    by : (Have (flat_map segments_of chosen) a → ⊥) → (b : Bool) → is_touched touched a ≡ b
        → Answers old before root (spoken_at s a) a
    by none true is =
        elim (are.covered a below is) [
          | inl any ↦ absurd (none any)
          | inr lies ↦ spared a below lies
        ]
    by none false is = elsewhere a below own is
