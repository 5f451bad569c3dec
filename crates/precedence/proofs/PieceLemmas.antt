-- A chunk cut at the points of a list that does not fall.
use Rattle.std.proofs.Common.{◌≡◌, ℕ, zero, suc, ◌+◌, ◌<◌, ◌≤◌, ◌⊎◌, List, [], ◌∷◌, ◌++◌, length}
use Rattle.std.proofs.Common.{get_or, Contains, inl, inr, refl, sym, subst, arith}
use Rattle.std.specs.List.{All, Any}
use Rattle.std.specs.List.Sorted.{IsNonDecreasing}
use Rattle.std.proofs.lemmas.Bool.{cases_lt}
use Rattle.std.proofs.lemmas.List.Elements.{All-push}
use Rattle.geo_addr.specs.Ranges.{Ends, AreCuts, IsCut, IsRange, IsWithin}
use Rattle.cut_segments.proofs.CutLemmas.{any_left, any_one, any_right}
use Rattle.geo_terms.proofs.Constancy.{constant_between_cuts}
use Rattle.geo_terms.specs.Cuts.{statement_ranges}
use Rattle.geo_terms.specs.Precedence.{spoken_at}
use Rattle.geo_terms.specs.Sources.{InForce}
use Rattle.precedence.specs.Chunks.{Tiles}

-- a piece more, or none, of those that have a property
pub pieces_more : (P : Ends → Type 0) (before now : List Ends) (first point : ℕ) → All P before
    → ((r : Ends) → r.first ≡ first → r.last + 1 ≡ point → P r)
    → (now ≡ before) ⊎ ((r : Ends) × (now ≡ before ++ r ∷ []) × (r.first ≡ first)
    × (r.last + 1 ≡ point))
    → All P now
pieces_more P before now first point all one (inl same) = subst (All P) (sym same) all
pieces_more P before now first point all one (inr (r, is, begins, ends)) =
    subst (All P) (sym is) (All-push P before r all (one r begins ends))

-- a point above where a piece begins is not below the point before which it ends
pub above_last : (points : List ℕ) (i first point c : ℕ) → IsNonDecreasing points
    → ((k d : ℕ) → k < i → k < length points → get_or points k d ≤ first)
    → ((d : ℕ) → get_or points i d ≡ point)
    → Contains points c → first < c → point ≤ c
above_last points i first point c rises passed at (k, below, is) above =
    elim (cases_lt k i) [
      | inl lt ↦ absurd (let le = passed k c lt below in omega (arith, le, is, above))
      | inr le ↦ let up = rises i k c le below in omega (arith, up, is, at c)
    ]

-- points that are passed, and those that are ahead, where one point more is passed
pub passed_more : (points : List ℕ) (i first point : ℕ) → first ≤ point
    → ((d : ℕ) → i < length points → get_or points i d ≡ point)
    → ((k d : ℕ) → k < i → k < length points → get_or points k d ≤ first)
    → (k d : ℕ) → k < i + 1 → k < length points → get_or points k d ≤ point
passed_more points i first point le at passed k d lt within =
    elim (cases_lt k i) [
      | inl before ↦ let was = passed k d before within in omega (arith, was, le)
      | inr past ↦
          let same : k ≡ i = omega (arith, past, lt) in
          subst (λ (j : ℕ). get_or points j d ≤ point) (sym same)
          (let is = at d (subst (λ (j : ℕ). j < length points) same within) in omega (arith, is))
    ]

-- what is found at an index that is there is found with every default
pub found_at : {X : Type 0} (xs : List X) (i : ℕ) (d e : X) → i < length xs
    → get_or xs i d ≡ get_or xs i e
found_at [] i d e lt = absurd (omega arith)
found_at (x ∷ xs) zero d e lt = refl
found_at (x ∷ xs) (suc i) d e lt = found_at xs i d e (omega arith)

-- of all of a piece the same is said, where the points are the cut points that its chunk has
pub pieces_steady : (s : InForce) (chunk : Ends) (points : List ℕ) (out : List Ends) → IsRange chunk
    → AreCuts (statement_ranges s) chunk points → Tiles chunk.first out (chunk.last + 1)
    → ((c : ℕ) → Contains points c → All (λ r. r.first < c → r.last < c) out)
    → All (λ r. (a : ℕ) → IsWithin r a → spoken_at s a ≡ spoken_at s r.first) out
pieces_steady s chunk points out range exact tiles uncut k d below a within =
    sym (constant_between_cuts s (get_or out k d).first a within.0 none)
  where
    bounds : (low high : ℕ) (rs : List Ends) (i : ℕ) → Tiles low rs high → i < length rs
        → (low ≤ (get_or rs i d).first) × ((get_or rs i d).last + 1 ≤ high)
    bounds low high [] i t lt = absurd (omega (arith, lt))
    bounds low high (r ∷ rs) zero t lt = (omega (arith, t.0), ends (r.last + 1) high rs t.2)
      where
        ends : (low high : ℕ) (rs : List Ends) → Tiles low rs high → low ≤ high
        ends low high [] t = omega (arith, t)
        ends low high (r ∷ rs) t =
            let up = ends (r.last + 1) high rs t.2 in omega (arith, t.1, up)
    bounds low high (r ∷ rs) (suc i) t lt =
        let rest = bounds (r.last + 1) high rs i t.2 (omega (arith, lt)) in
        (omega (arith, rest.0, t.1), rest.1)

    none : (c : ℕ) → (get_or out k d).first < c → c ≤ a → IsCut (statement_ranges s) c → ⊥
    none c above upto cut =
        let in_chunk = bounds chunk.first (chunk.last + 1) out k tiles below in
        let high : a ≤ (get_or out k d).last = within.1 in
        let has : Contains points c =
        (exact c).1
        (cut, (omega (arith, in_chunk.0, above), omega (arith, in_chunk.1, upto, high))) in
        let past = uncut c has k d below above in omega (arith, past, high, upto)

-- a piece has each address of the chunk
pub pieces_have : (low high : ℕ) (rs : List Ends) (a : ℕ) → Tiles low rs high → low ≤ a → a < high
    → Any (λ r. IsWithin r a) rs
pieces_have low high [] a t le lt = absurd (omega (arith, t, le, lt))
pieces_have low high (r ∷ rs) a t le lt =
    elim (cases_lt r.last a) [
      | inl past ↦
          any_right (λ (x : Ends). IsWithin x a) (r ∷ []) rs
          (pieces_have (r.last + 1) high rs a t.2 (omega (arith, past)) lt)
      | inr here ↦
          any_left (λ (x : Ends). IsWithin x a) (r ∷ []) rs
          (any_one (λ (x : Ends). IsWithin x a) r (omega (arith, t.0, le), here))
    ]
