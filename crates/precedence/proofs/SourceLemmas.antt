-- What the sources say between cut points, and on the segments of what is touched.
use Rattle.std.proofs.Common.{◌≡◌, ℕ, zero, suc, ◌<◌, ◌≤◌, ◌^◌, List, [], ◌∷◌, get_or, length}
use Rattle.std.proofs.Common.{arith, Option, Some, None, Contains, refl, sym}
use Rattle.std.specs.List.{All, Any}
use Rattle.std.specs.Prelude.{IsTrue}
use Rattle.geo_addr.specs.Ranges.{Ends, AreCuts, IsCut, IsWithin}
use Rattle.geo_terms.proofs.Constancy.{constant_between_cuts}
use Rattle.geo_terms.specs.Cuts.{statement_ranges}
use Rattle.geo_terms.specs.Precedence.{entry_of, speaker, speaking_entry, spoken_at}
use Rattle.geo_terms.specs.SourceForm.{OverridesParts, StatsParts}
use Rattle.geo_terms.specs.Sources.{InForce}
use Rattle.geo_terms.specs.declared.statement.Reference.{Reference}
use Rattle.source_changes.specs.CutPoints.{whole}
use Rattle.source_changes.specs.Touched.{is_touched}
use Rattle.cut_segments.specs.CutPoints.{AreCutsInside}
use Rattle.cut_segments.specs.Segments.{AreSegments}
use Rattle.precedence.specs.CutPoints.{IsConstantBetween}

-- where all cut points of the sources are known, the same is said between them
pub constant : (s : InForce) (points : List ℕ) → AreCuts (statement_ranges s) whole points
    → IsConstantBetween s points
constant s points exact a b le high none =
    constant_between_cuts s a b le
    (λ c above upto cut. none c above upto ((exact c).1 (cut, (omega arith, omega arith))))

-- the same is said of all of a segment at the points that were gathered
pub steady : (s : InForce) (touched bounds : List Ends) (points : List ℕ)
    → AreCutsInside (statement_ranges s) bounds points
    → ((a : ℕ) → IsWithin whole a → IsTrue (is_touched touched a)
    → Any (λ r. IsWithin r a) bounds)
    → (out : List Ends) → AreSegments touched points out
    → All (λ r. (a : ℕ) → IsWithin r a → spoken_at s a ≡ spoken_at s r.first) out
steady s touched bounds points exact covered out segments k d below a within =
    sym (constant_between_cuts s (get_or out k d).first a within.0 uncut)
  where
    -- the default of an index that is there is of no account
    self_at : (xs : List Ends) (i : ℕ) → i < length xs
        → get_or xs i (get_or xs i d) ≡ get_or xs i d
    self_at [] i lt = absurd (omega arith)
    self_at (x ∷ xs) zero lt = refl
    self_at (x ∷ xs) (suc i) lt = self_at xs i (omega arith)

    uncut : (c : ℕ) → (get_or out k d).first < c → c ≤ a → IsCut (statement_ranges s) c → ⊥
    uncut c above upto cut =
        let high : a ≤ (get_or out k d).last = within.1 in
        let end : (get_or out k d).last < 2 ^ 128 = (segments.ranges k d below).within in
        let inside : IsWithin whole c = (omega arith, omega arith) in
        let here : Any (λ r. IsWithin r c) out =
        (k, get_or out k d, below, self_at out k below, (omega arith, omega arith)) in
        let is : Contains points c =
        (exact c).1 ((cut, inside), covered c inside (segments.inside c here)) in
        let past : (get_or out k d).last < c = segments.uncut c is k d below above in
        omega arith

-- the speaking entry is that of the dumps and feeds alone
pub entry_by_parts : (s : InForce) (stats : List StatsParts)
    (overrides : Option OverridesParts) (a : ℕ) → speaking_entry s a ≡ speaking_entry
    (record { dumps = s.dumps; feeds = s.feeds; stats = stats; overrides = overrides }) a
unfolding speaking_entry speaker
entry_by_parts s stats overrides a = by (speaker s a)
  where
    by : (o : Option Reference) → entry_of s o a ≡ entry_of
        (record { dumps = s.dumps; feeds = s.feeds; stats = stats; overrides = overrides }) o a
    by None = refl
    by (Some r) = refl
