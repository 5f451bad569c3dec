use Rattle.std.proofs.Common.{◌≡◌, ◌∙◌, ◌++◌, List, length, map, ap, sym, subst, rules, arith, Bor}
use Rattle.std.specs.List.Sorted.{IsPermutation}
use Rattle.std.proofs.lemmas.List.Sorted.{IsPermutation-trans}
use Rattle.geo_addr.specs.Ranges.{Ends}
use Rattle.source_changes.specs.Changed.{changed}
use Rattle.source_changes.specs.Merging.{differing}
use Rattle.source_changes.specs.Sorting.{whole_cmp}
use Rattle.source_changes.specs.Touched.{ground_of}
use Rattle.source_changes.proofs.Found.{all_new, all_old, empty_is, pass_finds}
use Rattle.source_changes.proofs.changed.changed_grounds.Goals as goal

pub returns-then-is_empty : goal.returns-then-is_empty
returns-then-is_empty g c =
    let X = g.row.S.Denot in
    let ground : X → Ends = λ x. ground_of (g.S.Statement.range x) in
    let none : length c.trimmed.result.0.now ≡ 0 = first_of (search rules, grind arith) in
    let out : c.push_all.new.grounds ≡ map ground c.trimmed.result.1.now =
    c.in_ok-push_all.ensures
    ∙ ap (λ zs. zs ++ map ground c.trimmed.result.1.now) c.new-grounds.ensures in
    subst (λ (zs : List Ends).
    IsPermutation (map ground (changed g.S.Compared.same c.args.old.now c.args.new.now)) zs)
    (all_new g.S.Statement.range g.S.Compared.same g.S.Compared.rest g.met.S.Compared.rest_total
    g.met.S.Compared.decides c.trimmed.result.0.now c.trimmed.result.1.now
    (empty_is c.trimmed.result.0.now none) ∙ sym out)
    c.trimmed.ensures

pub returns-then-is_empty-2 : goal.returns-then-is_empty-2
returns-then-is_empty-2 g c =
    let X = g.row.S.Denot in
    let ground : X → Ends = λ x. ground_of (g.S.Statement.range x) in
    let none : length c.trimmed.result.1.now ≡ 0 = first_of (search rules, grind arith) in
    let out : c.push_all-then-is_empty-2.new.grounds ≡ map ground c.trimmed.result.0.now =
    c.in_ok-push_all-2.ensures
    ∙ ap (λ zs. zs ++ map ground c.trimmed.result.0.now) c.new-grounds.ensures in
    subst (λ (zs : List Ends).
    IsPermutation (map ground (changed g.S.Compared.same c.args.old.now c.args.new.now)) zs)
    (all_old g.S.Statement.range g.S.Compared.same g.S.Compared.rest g.met.S.Compared.rest_total
    g.met.S.Compared.decides c.trimmed.result.0.now c.trimmed.result.1.now
    (empty_is c.trimmed.result.1.now none) ∙ sym out)
    c.trimmed.ensures

pub returns : goal.returns
returns g c =
    let X = g.row.S.Denot in
    let ground : X → Ends = λ x. ground_of (g.S.Statement.range x) in
    let now : Bor X → X = λ s. s.now in
    let found : List (Bor X) → List (Bor X) → List Ends = λ old new. map ground
    (differing (whole_cmp g.S.Statement.range g.S.Compared.rest) (map now old) (map now new)) in
    let out : c.push_differing.new.grounds
    ≡ found c.sort_statements.new.statements.items c.sort_statements-2.new.statements.items =
    c.in_ok-push_differing.ensures ∙ ap
    (λ zs. zs ++ found c.as_slice.result.now c.as_slice-2.result.now) c.new-grounds.ensures
    ∙ (λ k. found (c.as_slice.ensures.value k) (c.as_slice-2.ensures.value k)) in
    let changes : List X → List X → List Ends =
    λ old new. map ground (changed g.S.Compared.same old new) in
    let old : List X = map now c.in_ok-old.old.items in
    let new : List X = map now c.in_ok-old.new.items in
    IsPermutation-trans (changes c.args.old.now c.args.new.now)
    (changes c.trimmed.result.0.now c.trimmed.result.1.now) c.push_differing.new.grounds
    c.trimmed.ensures
    (IsPermutation-trans (changes c.trimmed.result.0.now c.trimmed.result.1.now)
    (changes old new) c.push_differing.new.grounds
    c.in_ok-old.ensures
    (subst (λ (zs : List Ends). IsPermutation (changes old new) zs) (sym out)
    (pass_finds g.S.Statement.range g.S.Compared.same g.S.Compared.rest g.met.S.Compared.rest_total
    g.met.S.Compared.decides
    old new (map now c.sort_statements.new.statements.items)
    (map now c.sort_statements-2.new.statements.items)
    c.sort_statements.ensures.same c.sort_statements-2.ensures.same c.sort_statements.ensures.sorted
    c.sort_statements-2.ensures.sorted)))
