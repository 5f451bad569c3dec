-- The points that were gathered are the cut points that the chunk has.
use Rattle.std.proofs.Common.{◌≡◌, ◌⊎◌, ◌<◌, ℕ, List, [], ◌∷◌, Contains, get_or, inl, inr, subst}
use Rattle.std.proofs.Common.{sym}
use Rattle.std.specs.List.{All}
use Rattle.std.specs.List.Sorted.{IsNonDecreasing}
use Rattle.std.proofs.lemmas.List.Elements.{All-contains_itself, All-get_or, All-weaker}
use Rattle.geo_addr.specs.Ranges.{AreCuts, Ends, IsCut, IsRange, IsWithin}
use Rattle.geo_terms.specs.Cuts.{statement_ranges}
use Rattle.geo_terms.specs.Sources.{InForce}
use Rattle.cut_segments.specs.CutPoints.{AreCutsInside}
use Rattle.cut_segments.proofs.CutLemmas.{cuts_inside_one}
use Rattle.cut_segments.proofs.InsideLemmas.{rises}
use Rattle.precedence.proofs.PieceLemmas.{pieces_steady}
use Rattle.precedence.proofs.sources.Sources.pieces_in.Goals as goal

exact : (s : InForce) (chunk inside : Ends) (points : List ℕ) → inside ≡ chunk → IsRange inside
    → AreCutsInside (statement_ranges s) (inside ∷ []) points → AreCuts (statement_ranges s) chunk
    points
exact s chunk inside points is range cuts =
    subst (λ (within : Ends). AreCuts (statement_ranges s) within points) is
    (cuts_inside_one (statement_ranges s) inside points range cuts)

pub pieces_at-requires-clause-ascending : goal.pieces_at-requires-clause-ascending
pieces_at-requires-clause-ascending c =
    subst IsNonDecreasing (sym c.as_slice.ensures.value)
    (rises c.in_ok-points.points.items c.in_ok-points.ensures.ascending)

pub pieces_at-requires-clause-within : goal.pieces_at-requires-clause-within
pieces_at-requires-clause-within c =
    let points = c.in_ok-points.points.items in
    let cuts = exact c.args.self.now c.args.chunk _ points c.chunk.view_is c.chunk.invariant
    c.in_ok-points.ensures.exact in
    subst (All (IsWithin c.args.chunk)) (sym c.as_slice.ensures.value)
    (λ k d below. ((cuts (get_or points k d)).0
    (All-get_or (Contains points) points k d below (All-contains_itself points))).1)

pub returns-clause-pieces : goal.returns-clause-pieces
returns-clause-pieces c =
    let s = c.args.self.now in
    let chunk = c.args.chunk in
    let points = c.in_ok-points.points.items in
    let out = c.in_ok-pieces.pieces.items in
    let cuts = exact s chunk _ points c.chunk.view_is c.chunk.invariant
    c.in_ok-points.ensures.exact in
    let range : IsRange chunk = subst IsRange c.chunk.view_is c.chunk.invariant in
    record {
      tiles = c.in_ok-pieces.ensures.tiles;
      steady = pieces_steady s chunk points out range cuts c.in_ok-pieces.ensures.tiles
          (subst (λ (ps : List ℕ). (p : ℕ) → Contains ps p
          → All (λ (r : Ends). r.first < p → r.last < p) out) c.as_slice.ensures.value
          c.in_ok-pieces.ensures.uncut);
      begun = All-weaker
          (λ (r : Ends). (r.first ≡ chunk.first) ⊎ Contains points r.first)
          (λ (r : Ends). (r.first ≡ chunk.first) ⊎ IsCut (statement_ranges s) r.first)
          (λ r begins. elim begins [
            | inl is ↦ inl is
            | inr has ↦ inr ((cuts r.first).0 has).0
          ]) out
          (subst (λ (ps : List ℕ). All
          (λ (r : Ends). (r.first ≡ chunk.first) ⊎ Contains ps r.first) out)
          c.as_slice.ensures.value c.in_ok-pieces.ensures.begun);
    }
