-- Sorting changes neither the addresses nor where the ranges begin.
use Rattle.std.proofs.Common.{◌∙◌, Contains, sym, rules}
use Rattle.std.proofs.lemmas.List.Sorted.{All-permutation, IsNonDecreasingBy-from_sort_by_key}
use Rattle.std.proofs.lemmas.List.Sorted.{list_any-IsPermutation}
use Rattle.geo_addr.specs.Ranges.{Ends, ground_first, holds}
use Rattle.cut_segments.specs.Segments.{starts_in}
use Rattle.cut_segments.proofs.joined.grounds_in.Goals as goal

pub returns-clause-same : goal.returns-clause-same
returns-clause-same c a =
    sym (list_any-IsPermutation (λ (r : Ends). holds r a) c.in_ok-grounds.grounds.items _
    c.in_ok-sort_by_key.ensures.permutation)
    ∙ c.in_ok-grounds.ensures.same a

pub returns-clause-begun : goal.returns-clause-begun
returns-clause-begun c =
    All-permutation
    (λ (r : Ends). Contains (starts_in c.args.touched.now c.args.chunk) (ground_first r))
    c.in_ok-grounds.grounds.items _ c.in_ok-sort_by_key.ensures.permutation
    c.in_ok-grounds.ensures.begun

pub returns-clause-order : goal.returns-clause-order
returns-clause-order c =
    IsNonDecreasingBy-from_sort_by_key (λ (r : Ends). ground_first r) _
    c.in_ok-sort_by_key.ensures.sorted (λ a r q k. search rules)
