use Rattle.std.proofs.Common.{◌≡◌, ap, rules, Bor}
use Rattle.std.specs.List.Sorted.{IsSortedBy}
use Rattle.std.specs.Ordering.{is_lt}
use Rattle.std.proofs.lemmas.List.Sorted.{IsPermutation-map, answers_always, ranks_by}
use Rattle.geo_terms.proofs.SeenLemmas.{sorted_seen}
use Rattle.source_changes.specs.Sorting.{whole_cmp}
use Rattle.source_changes.proofs.Found.{whole_total}
use Rattle.source_changes.proofs.changed.sort_statements.Goals as goal

pub returns-clause-same : goal.returns-clause-same
returns-clause-same g c =
    let X = g.row.S.Denot in
    let now : Bor X → X = λ s. s.now in
    IsPermutation-map now c.args.statements.now.items c.sort_unstable_by.new.self.items
    c.sort_unstable_by.ensures.permutation

pub returns-clause-sorted : goal.returns-clause-sorted
returns-clause-sorted g c =
    let X = g.row.S.Denot in
    let now : Bor X → X = λ s. s.now in
    let sorted : IsSortedBy
    (λ (x y : Bor X). is_lt (whole_cmp g.S.Statement.range g.S.Compared.rest x.now y.now))
    c.sort_unstable_by.new.self.items =
    c.sort_unstable_by.ensures.sorted
    (λ x y. is_lt (whole_cmp g.S.Statement.range g.S.Compared.rest x.now y.now))
    (ranks_by (whole_total g.S.Statement.range g.S.Compared.same g.S.Compared.rest
    g.met.S.Compared.rest_total g.met.S.Compared.decides) now)
    (answers_always _ _ _ (λ f a r q k. let e : r ≡ whole_cmp g.S.Statement.range g.S.Compared.rest
    a.0.now.now a.1.0.now.now = search rules in ap is_lt e)) in
    sorted_seen now (λ x y. is_lt (whole_cmp g.S.Statement.range g.S.Compared.rest x y))
    c.sort_unstable_by.new.self.items sorted
