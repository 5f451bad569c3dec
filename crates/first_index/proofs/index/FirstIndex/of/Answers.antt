use Rattle.std.proofs.Common.{◌≡◌, ◌∙◌, ◌^◌, ◌&&◌, ltb, ℕ, List, map, subst, sym, ap, rules, Bor}
use Rattle.std.specs.List.{All, enumerate_from}
use Rattle.std.specs.List.Sorted.{IsNonDecreasingBy, IsPermutation, IsSortedBy}
use Rattle.std.specs.Ordering.{is_lt}
use Rattle.std.proofs.lemmas.List.Elements.{recursion_from_All}
use Rattle.std.proofs.lemmas.List.Sorted.{IsPermutation-map, IsPermutation-trans, answers_always}
use Rattle.std.proofs.lemmas.List.Sorted.{ranks_by}
use Rattle.geo_addr.specs.Ranges.{Ends}
use Rattle.first_index.specs.Boundaries.{AreBoundaries}
use Rattle.first_index.specs.Columns.{last_ones}
use Rattle.first_index.specs.FirstIndex.{StandAtCuts, TellsFirst, index_cmp, with_index}
use Rattle.first_index.specs.Nested.{AreBoundariesOf, is_edge, stands_at}
use Rattle.first_index.specs.declared.boundaries.Boundary.{Boundary}
use Rattle.geo_terms.proofs.SeenLemmas.{each_seen, map_map, sorted_seen}
use Rattle.first_index.proofs.IndexLemmas.{all_kept, ordered_indexes, index_total, stands_indexes}
use Rattle.first_index.proofs.IndexLemmas.{tells_first}
use Rattle.first_index.proofs.ColumnLemmas.{stands_last, tells_last}
use Rattle.first_index.proofs.StandLemmas.{cuts_seen, tells_seen}
use Rattle.first_index.proofs.index.FirstIndex.of.Goals as goal

pub returns-in-Some-clause-told : goal.returns-in-Some-clause-told
returns-in-Some-clause-told g c =
    let X = g.row.S.Denot in
    let seen : ℕ × Bor X → ℕ × X = λ x. (x.0, x.1.now) in
    let ys : List (ℕ × Bor X) = c.nested_in_some_order.new.indexed.items in
    let xs : List X = c.args.statements in
    let found : AreBoundariesOf (λ (x y : Bor X). g.S.Statement.order x.now y.now)
    (λ x. g.S.Statement.range x.now) ys c.in-Some.index =
    rw c.in-Some.is at c.in_ok-index.ensures.found in
    tells_seen (λ (x : Bor X). x.now) g.S.Statement.order g.S.Statement.range xs ys
    c.in-Some.index
    (subst (λ (zs : List (ℕ × X)). IsPermutation zs (map seen ys)) c.into_vec-ranked.ensures
    (IsPermutation-map seen c.into_vec-ranked.result.items ys c.nested_in_some_order.ensures.moved))
    g.met.S.Statement.total found

pub returns-in-Some-clause-cuts : goal.returns-in-Some-clause-cuts
returns-in-Some-clause-cuts g c =
    let X = g.row.S.Denot in
    let seen : ℕ × Bor X → ℕ × X = λ x. (x.0, x.1.now) in
    let ys : List (ℕ × Bor X) = c.nested_in_some_order.new.indexed.items in
    let xs : List X = c.args.statements in
    let found : AreBoundariesOf (λ (x y : Bor X). g.S.Statement.order x.now y.now)
    (λ x. g.S.Statement.range x.now) ys c.in-Some.index =
    rw c.in-Some.is at c.in_ok-index.ensures.found in
    cuts_seen (λ (x : Bor X). x.now) g.S.Statement.order g.S.Statement.range xs ys
    c.in-Some.index
    (subst (λ (zs : List (ℕ × X)). IsPermutation zs (map seen ys)) c.into_vec-ranked.ensures
    (IsPermutation-map seen c.into_vec-ranked.result.items ys c.nested_in_some_order.ensures.moved))
    found.stand

pub returns-in-Some-clause-kept : goal.returns-in-Some-clause-kept
returns-in-Some-clause-kept g c =
    let X = g.row.S.Denot in
    let seen : ℕ × Bor X → ℕ × X = λ x. (x.0, x.1.now) in
    let ys : List (ℕ × Bor X) = c.nested_in_some_order.new.indexed.items in
    let xs : List X = c.args.statements in
    let kept : All (λ (y : ℕ × Bor X). g.S.Statement.kept y.1.now) ys =
    rw c.in-Some.is at c.in_ok-index.ensures.kept in
    all_kept g.S.Statement.order g.met.S.Statement.total g.S.Statement.range xs (map seen ys)
    (subst (λ (zs : List (ℕ × X)). IsPermutation zs (map seen ys)) c.into_vec-ranked.ensures
    (IsPermutation-map seen c.into_vec-ranked.result.items ys c.nested_in_some_order.ensures.moved))
    g.S.Statement.kept
    (each_seen seen (λ x. g.S.Statement.kept x.1) ys
    (recursion_from_All (λ (y : ℕ × Bor X). g.S.Statement.kept y.1.now) ys kept))

pub in_columns-requires : goal.in_columns-requires
in_columns-requires g c =
    let out : c.as_slice-5.result.now
    ≡ map (with_index c.as_slice-4.result.now) c.in_ok-boundaries.boundaries.items =
    c.as_slice-5.ensures.value ∙ c.put_indexes.ensures in
    subst (λ (bs : List Boundary). IsNonDecreasingBy (λ (b : Boundary). b.at) bs) (sym out)
    (ordered_indexes c.as_slice-4.result.now c.in_ok-boundaries.boundaries.items
    c.in_ok-boundaries.ensures.tell.ordered)

pub returns-clause-told : goal.returns-clause-told
returns-clause-told g c =
    let X = g.row.S.Denot in
    let seen : ℕ × Bor X → ℕ × X = λ x. (x.0, x.1.now) in
    let ys : List (ℕ × Bor X) = c.sort_unstable_by.new.self.items in
    let xs : List X = c.args.statements in
    let sorted : IsSortedBy (λ (x y : ℕ × Bor X).
    is_lt (index_cmp g.S.Statement.order (seen x) (seen y))) ys =
    c.sort_unstable_by.ensures.sorted (λ x y.
    is_lt (index_cmp g.S.Statement.order (seen x) (seen y)))
    (ranks_by (index_total g.S.Statement.order g.met.S.Statement.total g.S.Statement.range)
    seen)
    (answers_always _ _ _ (λ f a r q k. let e : r ≡ index_cmp g.S.Statement.order (seen a.0.now)
    (seen a.1.0.now) = search rules in ap is_lt e)) in
    let same : IsPermutation (enumerate_from 0 xs) (map seen ys) =
    subst (λ (zs : List (ℕ × X)). IsPermutation zs (map seen ys)) c.into_vec-ranked.ensures
    (IsPermutation-map seen c.into_vec-ranked.result.items ys
    (IsPermutation-trans c.into_vec-ranked.result.items c.nested_in_some_order.new.indexed.items ys
    c.nested_in_some_order.ensures.moved c.sort_unstable_by.ensures.permutation)) in
    let range : ℕ × X → Ends = λ x. g.S.Statement.range x.1 in
    let ranges : c.as_slice-2.result.now ≡ map range (map seen ys) =
    c.as_slice-2.ensures.value ∙ c.in_ok-ranges.ensures.ranges
    ∙ ap (map (λ (y : ℕ × Bor X). range (seen y))) c.as_slice.ensures.value
    ∙ sym (map_map seen range ys) in
    let index : ℕ × X → ℕ = λ x. x.0 in
    let indexes : c.as_slice-4.result.now ≡ map index (map seen ys) =
    c.as_slice-4.ensures.value ∙ c.in_ok-indexes.ensures
    ∙ ap (map (λ (y : ℕ × Bor X). index (seen y))) c.as_slice-3.ensures.value
    ∙ sym (map_map seen index ys) in
    let out : c.put_indexes.new.boundaries.items
    ≡ map (with_index (map index (map seen ys))) c.in_ok-boundaries.boundaries.items =
    c.put_indexes.ensures ∙ ap (λ (ps : List ℕ).
    map (with_index ps) c.in_ok-boundaries.boundaries.items) indexes in
    let is : c.in_ok-index-2.index ≡ last_ones c.put_indexes.new.boundaries.items =
    c.in_ok-index-2.ensures ∙ ap last_ones c.as_slice-5.ensures.value in
    subst (TellsFirst g.S.Statement.order g.S.Statement.range xs)
    (sym (is ∙ ap last_ones out))
    (tells_last g.S.Statement.order g.S.Statement.range xs _
    (tells_first g.S.Statement.order g.met.S.Statement.total g.S.Statement.range xs (map seen ys)
    same c.in_ok-boundaries.boundaries.items
    (sorted_seen seen (λ x y. is_lt (index_cmp g.S.Statement.order x y)) ys sorted)
    (subst (λ (rs : List Ends). AreBoundaries rs c.in_ok-boundaries.boundaries.items) ranges
    c.in_ok-boundaries.ensures.tell)))

pub returns-clause-cuts : goal.returns-clause-cuts
returns-clause-cuts g c =
    let X = g.row.S.Denot in
    let seen : ℕ × Bor X → ℕ × X = λ x. (x.0, x.1.now) in
    let ys : List (ℕ × Bor X) = c.sort_unstable_by.new.self.items in
    let xs : List X = c.args.statements in
    let range : ℕ × Bor X → Ends = λ y. g.S.Statement.range y.1.now in
    let same : IsPermutation (enumerate_from 0 xs) (map seen ys) =
    subst (λ (zs : List (ℕ × X)). IsPermutation zs (map seen ys)) c.into_vec-ranked.ensures
    (IsPermutation-map seen c.into_vec-ranked.result.items ys
    (IsPermutation-trans c.into_vec-ranked.result.items c.nested_in_some_order.new.indexed.items ys
    c.nested_in_some_order.ensures.moved c.sort_unstable_by.ensures.permutation)) in
    let ranges : c.as_slice-2.result.now ≡ map range ys =
    c.as_slice-2.ensures.value ∙ c.in_ok-ranges.ensures.ranges
    ∙ ap (map range) c.as_slice.ensures.value in
    let is : c.in_ok-index-2.index ≡ last_ones c.put_indexes.new.boundaries.items =
    c.in_ok-index-2.ensures ∙ ap last_ones c.as_slice-5.ensures.value in
    subst (StandAtCuts g.S.Statement.range xs) (sym is)
    (cuts_seen (λ (x : Bor X). x.now) g.S.Statement.order g.S.Statement.range xs ys
    (last_ones c.put_indexes.new.boundaries.items) same
    (λ k. stands_last c.put_indexes.new.boundaries.items k
    ∙ ap (λ (bs : List Boundary). stands_at bs k) c.put_indexes.ensures
    ∙ stands_indexes c.as_slice-4.result.now c.in_ok-boundaries.boundaries.items k
    ∙ c.in_ok-boundaries.ensures.stand k
    ∙ ap (λ (rs : List Ends). is_edge rs k && ltb k (2 ^ 128)) ranges))

pub returns-clause-kept : goal.returns-clause-kept
returns-clause-kept g c =
    let X = g.row.S.Denot in
    let seen : ℕ × Bor X → ℕ × X = λ x. (x.0, x.1.now) in
    let ys : List (ℕ × Bor X) = c.sort_unstable_by.new.self.items in
    let xs : List X = c.args.statements in
    let same : IsPermutation (enumerate_from 0 xs) (map seen ys) =
    subst (λ (zs : List (ℕ × X)). IsPermutation zs (map seen ys)) c.into_vec-ranked.ensures
    (IsPermutation-map seen c.into_vec-ranked.result.items ys
    (IsPermutation-trans c.into_vec-ranked.result.items c.nested_in_some_order.new.indexed.items ys
    c.nested_in_some_order.ensures.moved c.sort_unstable_by.ensures.permutation)) in
    let all : All (λ (y : ℕ × Bor X). g.S.Statement.kept y.1.now) ys =
    subst (λ (zs : List (ℕ × Bor X)). All (λ y. g.S.Statement.kept y.1.now) zs)
    c.as_slice.ensures.value c.in_ok-ranges.ensures.kept in
    all_kept g.S.Statement.order g.met.S.Statement.total g.S.Statement.range xs (map seen ys) same
    g.S.Statement.kept
    (each_seen seen (λ x. g.S.Statement.kept x.1) ys
    (recursion_from_All (λ (y : ℕ × Bor X). g.S.Statement.kept y.1.now) ys all))
