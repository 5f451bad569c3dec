-- The order of touched grounds does not matter.
use Rattle.std.proofs.Common.{◌≡◌, ℕ, true, List}
use Rattle.std.specs.Cmp.{both_ways}
use Rattle.std.specs.List.Sorted.{IsPermutation}
use Rattle.std.proofs.lemmas.List.Folds.{Any-from_list_any, list_any-from_Any}
use Rattle.std.proofs.lemmas.List.Sorted.{Contains-permutation, IsPermutation-sym}
use Rattle.std.proofs.lemmas.List.Sorted.{length_permutation}
use Rattle.geo_addr.specs.Ranges.{Ends, holds}
use Rattle.source_changes.specs.Laws.{OrderDoesNotMatter}
use Rattle.source_changes.specs.Touched.{is_touched}

still_touched : (xs ys : List Ends) → IsPermutation xs ys → (a : ℕ) → is_touched xs a ≡ true
    → is_touched ys a ≡ true
still_touched xs ys same a is_one =
    let (k, r, below, is, held) = Any-from_list_any (λ r. holds r a) xs is_one in
    let (j, beside, at) = Contains-permutation xs ys r same (k, below, is) in
    list_any-from_Any (λ r. holds r a) ys (j, r, beside, at, held)

pub order_does_not_matter : OrderDoesNotMatter
order_does_not_matter xs ys same = (
  length_permutation xs ys same,
  λ a. both_ways (is_touched xs a) (is_touched ys a) (still_touched xs ys same a)
      (still_touched ys xs (IsPermutation-sym xs ys same) a),
)
