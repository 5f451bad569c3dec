use Rattle.std.proofs.Common.{List, sym, subst, rules}
use Rattle.std.specs.List.Sorted.{IsPermutation, IsNonDecreasingBy}
use Rattle.std.proofs.lemmas.List.Sorted.{IsNonDecreasingBy-from_sort_by_key}
use Rattle.first_index.specs.Boundaries.{AreBoundaries}
use Rattle.first_index.specs.Edges.{edges_from}
use Rattle.first_index.specs.Nested.{StandAtEdges}
use Rattle.first_index.specs.declared.boundaries.Boundary.{Boundary}
use Rattle.first_index.specs.declared.boundaries.Edge.{Edge}
use Rattle.first_index.proofs.BoundaryLemmas.{are_boundaries, are_standing}
use Rattle.first_index.proofs.boundaries.boundaries_of.Goals as goal

pub returns-clause-tell : goal.returns-clause-tell
returns-clause-tell c =
    let sorted : IsNonDecreasingBy (λ (e : Edge). e.at) c.as_slice.result.now =
    rw c.as_slice.ensures.value (IsNonDecreasingBy-from_sort_by_key (λ (e : Edge). e.at) _
    c.sort_unstable_by_key.ensures.sorted (λ a r q k. search rules)) in
    let same : IsPermutation (edges_from 0 c.args.ranges.now) c.as_slice.result.now = rw (
      ← c.in_ok-edges.ensures.edges,
      c.as_slice.ensures.value,
    ) c.sort_unstable_by_key.ensures.permutation in
    subst (λ (out : List Boundary). AreBoundaries c.args.ranges.now out)
    (sym c.in_ok-boundaries.ensures) (are_boundaries c.args.ranges.now c.as_slice.result.now same
    sorted c.in_ok-edges.ensures.ranges)

pub returns-clause-stand : goal.returns-clause-stand
returns-clause-stand c =
    let same : IsPermutation (edges_from 0 c.args.ranges.now) c.as_slice.result.now = rw (
      ← c.in_ok-edges.ensures.edges,
      c.as_slice.ensures.value,
    ) c.sort_unstable_by_key.ensures.permutation in
    subst (λ (out : List Boundary). StandAtEdges c.args.ranges.now out)
    (sym c.in_ok-boundaries.ensures) (are_standing c.args.ranges.now c.as_slice.result.now same
    c.in_ok-edges.ensures.ranges)
