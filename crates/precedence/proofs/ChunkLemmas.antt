-- The address space in chunks, and the segments of one.
use Rattle.std.proofs.Common.{◌≡◌, ◌∙◌, ℕ, zero, suc, ◌+◌, ◌^◌, ◌<◌, ◌≤◌, ◌⊎◌, ◌&&◌, Bool, true}
use Rattle.std.proofs.Common.{false, leb, List}
use Rattle.std.proofs.Common.{[], ◌∷◌, ◌++◌, length, map, get_or, Contains, refl, sym, ap, subst}
use Rattle.std.proofs.Common.{inl, inr, arith}
use Rattle.std.specs.List.{All, Any}
use Rattle.std.specs.Prelude.{IsTrue}
use Rattle.std.proofs.Math.ListN.{get_or-map}
use Rattle.std.proofs.lemmas.Bool.Decides.{nat_tests}
use Rattle.std.proofs.lemmas.List.{append_assoc, length-map}
use Rattle.std.proofs.lemmas.List.Elements.{All-contains, All-weaker, Contains-append_cases}
use Rattle.std.proofs.lemmas.List.Elements.{Contains-append_left, Contains-push}
use Rattle.geo_addr.specs.Ranges.{Ends, IsCut, IsWithin, ground_first}
use Rattle.geo_terms.specs.Cuts.{statement_ranges}
use Rattle.geo_terms.specs.Sources.{InForce}
use Rattle.cut_segments.specs.CutPoints.{AreCutsInside}
use Rattle.cut_segments.specs.Segments.{AreSegments, BeginIn, starts_in, starts_of}
use Rattle.source_changes.specs.CutPoints.{whole}
use Rattle.source_changes.specs.Touched.{is_touched}
use Rattle.precedence.specs.Chunks.{AreChunks, AreSegmentsIn, BeginAt, IsLimit, IsMark, Tiles}
use Rattle.precedence.specs.Chunks.{none_spared}
use Rattle.precedence.proofs.SourceLemmas.{steady}

-- one chunk more, from where the last one ended
pub Tiles-push : (low mid : ℕ) (rs : List Ends) (r : Ends) → Tiles low rs mid → r.first ≡ mid
    → mid ≤ r.last → Tiles low (rs ++ r ∷ []) (r.last + 1)
Tiles-push low mid [] r h is le = (is ∙ sym h, omega (arith, h), refl)
Tiles-push low mid (x ∷ xs) r h is le = (h.0, h.1, Tiles-push (x.last + 1) mid xs r h.2 is le)

-- points at which grounds begin that were taken of those touched, and the grounds that are left
pub record AreBegins (touched : List Ends) (points : List ℕ) (left : List Ends) : Type 0 where
  pub taken : List Ends
  pub all : touched ≡ taken ++ left
  pub begins : All (Contains (map (λ r. ground_first r) touched)) points

-- one ground more is taken
pub taken_more : (touched taken left later : List Ends) (r : Ends) → touched ≡ taken ++ left
    → left ≡ r ∷ later → touched ≡ (taken ++ r ∷ []) ++ later
taken_more touched taken left later r all is =
    all ∙ ap (λ (rs : List Ends). taken ++ rs) is ∙ sym (append_assoc taken (r ∷ []) later)

pub begin_is_there : (touched taken later : List Ends) (r : Ends)
    → touched ≡ (taken ++ r ∷ []) ++ later
    → Contains (map (λ r. ground_first r) touched) (ground_first r)
begin_is_there touched taken later r all = (
  among.0,
  omega (arith, length-map touched (λ (x : Ends). ground_first x), among.1),
  get_or-map (λ (x : Ends). ground_first x) touched among.0 r
      ∙ ap (λ (x : Ends). ground_first x) among.2,
)
  where
    among : Contains touched r
    among =
        subst (λ (rs : List Ends). Contains rs r) (sym all)
        (Contains-append_left (taken ++ r ∷ []) later r (Contains-push taken r))

-- chunks that begin where touched grounds do
pub chunks_of_begins : (s : InForce) (touched chunks : List Ends) (limits : List ℕ)
    → All (Contains (map (λ r. ground_first r) touched)) limits → Tiles 0 chunks (2 ^ 128)
    → BeginAt limits chunks → AreChunks s touched chunks
chunks_of_begins s touched chunks limits are tiles begun = record {
  tiles = tiles;
  begun = All-weaker (λ (r : Ends). IsLimit limits r.first)
      (λ (r : Ends). (r.first ≡ 0) ⊎ IsMark s touched r.first) one chunks begun;
}
  where
    one : (r : Ends) → IsLimit limits r.first → (r.first ≡ 0) ⊎ IsMark s touched r.first
    one r (inl none) = inl none
    one r (inr has) =
        inr (inl (All-contains (Contains (map (λ (x : Ends). ground_first x) touched)) limits
        r.first
        are has))

-- chunks that begin at cut points
pub chunks_of_points : (s : InForce) (touched chunks bounds : List Ends) (limits : List ℕ)
    → AreCutsInside (statement_ranges s) bounds limits → Tiles 0 chunks (2 ^ 128)
    → BeginAt limits chunks → AreChunks s touched chunks
chunks_of_points s touched chunks bounds limits are tiles begun = record {
  tiles = tiles;
  begun = All-weaker (λ (r : Ends). IsLimit limits r.first)
      (λ (r : Ends). (r.first ≡ 0) ⊎ IsMark s touched r.first) one chunks begun;
}
  where
    one : (r : Ends) → IsLimit limits r.first → (r.first ≡ 0) ⊎ IsMark s touched r.first
    one r (inl none) = inl none
    one r (inr has) = inr (inr ((are r.first).0 has).0.0)

both_true : (x y z : Bool) → (x && (y && z)) ≡ true → (x ≡ true) × (y ≡ true) × (z ≡ true)
both_true true true true e = (refl, refl, refl)
both_true true true false e = absurd (let f : false ≡ true = e in cc)
both_true true false z e = absurd (let f : false ≡ true = e in cc)
both_true false y z e = absurd (let f : false ≡ true = e in cc)

le_from_test : (x y : ℕ) → leb x y ≡ true → x ≤ y
le_from_test x y e = grind (arith, nat_tests)

test_from_le : (x y : ℕ) → x ≤ y → leb x y ≡ true
test_from_le x y le = grind (arith, nat_tests)

module _ (touched grounds : List Ends) (chunk : Ends) (same : (a : ℕ)
    → is_touched grounds a
    ≡ (is_touched touched a && (leb chunk.first a && leb a chunk.last))) where
  pub in_chunk : (a : ℕ) → IsTrue (is_touched grounds a)
      → IsTrue (is_touched touched a) × IsWithin chunk a
  in_chunk a is =
      let all = both_true (is_touched touched a) (leb chunk.first a) (leb a chunk.last)
      (sym (same a) ∙ is) in
      (all.0, (le_from_test chunk.first a all.1, le_from_test a chunk.last all.2))

  pub of_chunk : (a : ℕ) → IsTrue (is_touched touched a) → IsWithin chunk a
      → IsTrue (is_touched grounds a)
  of_chunk a is within =
      same a
      ∙ rw (is, test_from_le chunk.first a within.0, test_from_le a chunk.last within.1) refl

  -- segments of a chunk's grounds at the points that were gathered
  pub segments_of_chunk : (s : InForce) (bounds : List Ends) (points : List ℕ) (out : List Ends)
      → AreCutsInside (statement_ranges s) bounds points
      → ((a : ℕ) → IsWithin whole a → IsTrue (is_touched grounds a)
      → Any (λ r. IsWithin r a) bounds)
      → BeginIn (starts_in touched chunk) grounds
      → AreSegments grounds points out
      → All (λ r. Contains (starts_of grounds points) r.first) out
      → AreSegmentsIn s touched none_spared chunk out
  segments_of_chunk s bounds points out exact covered begins segments begun = record {
    ranges = segments.ranges;
    apart = segments.apart;
    inside = λ a is. in_chunk a (segments.inside a is);
    covered = λ a is within. inl (segments.covered a (of_chunk a is within));
    steady = steady s grounds bounds points exact covered out segments;
    begun = All-weaker (λ (r : Ends). Contains (starts_of grounds points) r.first)
        (λ (r : Ends). Contains (starts_in touched chunk) r.first
        ⊎ IsCut (statement_ranges s) r.first) one out begun;
  }
    where
      from_ground : (c : ℕ) → Contains (map (λ r. ground_first r) grounds) c
          → Contains (starts_in touched chunk) c
      from_ground c (k, below, is) =
          let within : k < length grounds =
          omega (arith, length-map grounds (λ (x : Ends). ground_first x), below) in
          let r : Ends = get_or grounds k chunk in
          let first : ground_first r ≡ c =
          sym (get_or-map (λ (x : Ends). ground_first x) grounds k chunk)
          ∙ same_default k (map (λ r. ground_first r) grounds) (ground_first chunk) c below ∙ is in
          subst (Contains (starts_in touched chunk)) first (begins k chunk within)
        where
          same_default : (i : ℕ) (xs : List ℕ) (d e : ℕ) → i < length xs
              → get_or xs i d ≡ get_or xs i e
          same_default i [] d e lt = absurd (omega arith)
          same_default zero (x ∷ xs) d e lt = refl
          same_default (suc i) (x ∷ xs) d e lt = same_default i xs d e (omega arith)

      one : (r : Ends) → Contains (starts_of grounds points) r.first
          → Contains (starts_in touched chunk) r.first ⊎ IsCut (statement_ranges s) r.first
      one r has =
          elim (Contains-append_cases (map (λ r. ground_first r) grounds) points r.first has) [
            | inl here ↦ inl (from_ground r.first here)
            | inr there ↦ inr ((exact r.first).0 there).0.0
          ]
