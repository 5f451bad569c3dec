-- The cut points of statements, from where the boundaries of their index stand.
use Rattle.std.proofs.Common.{◌≡◌, ℕ, List, map, subst, sym}
use Rattle.std.specs.List.{Any}
use Rattle.std.specs.List.Sorted.{IsPermutation, IsStrictlyIncreasing}
use Rattle.std.proofs.lemmas.List.Sorted.{Contains-permutation, IsPermutation-map}
use Rattle.std.proofs.lemmas.List.Sorted.{IsPermutation-sym}
use Rattle.geo_addr.specs.Ranges.{AreCuts, Ends, IsEdge}
use Rattle.first_index.specs.FirstIndex.{StandAtCuts}
use Rattle.first_index.specs.declared.boundaries.Boundary.{Boundary}
use Rattle.source_changes.specs.CutPoints.{AreCutsOf, whole}

pub cuts_told : {X : Type 0} (range : X → Ends) (xs : List X) (bs : List Boundary) (points : List ℕ)
    → StandAtCuts range xs bs → points ≡ map (λ (b : Boundary). b.at) bs
    → IsStrictlyIncreasing points → AreCutsOf (map range xs) points
cuts_told range xs bs points stand same up = record {
  exact = subst (AreCuts (map range xs) whole) (sym same) stand;
  ascending = up;
}

any_moved : {X : Type 0} (P : X → Type 0) (xs ys : List X) → IsPermutation xs ys → Any P xs
    → Any P ys
any_moved P xs ys moved any =
    let (k, x, below, is, good) = any in
    let (j, under, same) = Contains-permutation xs ys x moved (k, below, is) in
    (j, x, under, same, good)

-- in whatever order ranges stand, their cut points are the same
pub cuts_moved : {X : Type 0} (range : X → Ends) (xs ys : List X) (points : List ℕ)
    → IsPermutation xs ys → AreCutsOf (map range ys) points → AreCutsOf (map range xs) points
cuts_moved range xs ys points moved are =
    let there : IsPermutation (map range xs) (map range ys) = IsPermutation-map range xs ys moved in
    let back : IsPermutation (map range ys) (map range xs) =
    IsPermutation-sym (map range xs) (map range ys) there in
    record {
      exact = λ c. (
        λ has.
            let cut = (are.exact c).0 has in
            (any_moved (IsEdge c) (map range ys) (map range xs) back cut.0, cut.1),
        λ cut. (are.exact c).1
            (any_moved (IsEdge c) (map range xs) (map range ys) there cut.0, cut.1),
      );
      ascending = are.ascending;
    }
