use Rattle.std.proofs.Common.{rules, ◌≡◌, ◌∙◌, ◌↔◌, ℕ, ◌≤◌, true, false, leb, ltb, List, length}
use Rattle.std.proofs.Common.{take, drop, Contains, ap, sym, subst}
use Rattle.std.specs.List.Sorted.{IsNonDecreasingBy, IsPartitionPoint}
use Rattle.std.proofs.lemmas.List.Sorted.{IsPartitionPoint-from_clause, IsPartitionedBy-leb}
use Rattle.std.proofs.lemmas.List.Sorted.{IsPartitionedBy-ltb}
use Rattle.geo_addr.specs.Ranges.{IsWithin}
use Rattle.cut_segments.proofs.InsideLemmas.{part_has, rest_rises, rises}
use Rattle.cut_segments.proofs.inside.part_inside.Goals as goal

pub returns : goal.returns
returns c =
    let begun : IsPartitionPoint (λ (y : ℕ). ltb y c.args.range.first ≡ true)
    (λ (y : ℕ). ltb y c.args.range.first ≡ false) c.args.points.now c.partition_point-first.result =
    IsPartitionPoint-from_clause (λ (y : ℕ). ltb y c.args.range.first) c.args.points.now
    c.partition_point-first.result c.partition_point-first.ensures.partitioned
    (IsPartitionedBy-ltb (λ (y : ℕ). y) c.args.points.now c.args.range.first
    (rises c.args.points.now c.requires)) (λ a r q k. search rules) in
    let later : IsNonDecreasingBy (λ (y : ℕ). y) c.split_at.result.1.now =
    subst (λ (ys : List ℕ). IsNonDecreasingBy (λ (y : ℕ). y) ys) (sym c.split_at.ensures.back)
    (rest_rises (λ (y : ℕ). ltb y c.args.range.first)
    c.args.points.now c.partition_point-first.result c.partition_point-first.ensures.bound begun
    (rises c.args.points.now c.requires)) in
    let past : IsPartitionPoint (λ (y : ℕ). leb y c.args.range.last ≡ true) (λ (y : ℕ).
    leb y c.args.range.last ≡ false) c.split_at.result.1.now c.partition_point-past.result =
    IsPartitionPoint-from_clause (λ (y : ℕ). leb y c.args.range.last) c.split_at.result.1.now
    c.partition_point-past.result c.partition_point-past.ensures.partitioned
    (IsPartitionedBy-leb (λ (y : ℕ). y) c.split_at.result.1.now c.args.range.last later)
    (λ a r q k. search rules) in
    let within : c.partition_point-past.result
    ≤ length (drop c.partition_point-first.result c.args.points.now) =
    subst (λ (ys : List ℕ). c.partition_point-past.result ≤ length ys) c.split_at.ensures.back
    c.partition_point-past.ensures.bound in
    let there : IsPartitionPoint
    (λ (y : ℕ). leb y c.args.range.last ≡ true) (λ (y : ℕ). leb y c.args.range.last ≡ false)
    (drop c.partition_point-first.result c.args.points.now) c.partition_point-past.result =
    subst (λ (ys : List ℕ). IsPartitionPoint (λ (y : ℕ). leb y c.args.range.last ≡ true)
    (λ (y : ℕ). leb y c.args.range.last ≡ false) ys c.partition_point-past.result)
    c.split_at.ensures.back past in
    λ x.
    subst
    (λ (ys : List ℕ). Contains ys x ↔ (Contains c.args.points.now x × IsWithin c.args.range x)) (sym
    (c.split_at-2.ensures.front ∙ ap (take c.partition_point-past.result) c.split_at.ensures.back))
    (part_has c.args.points.now c.args.range c.partition_point-first.result
    c.partition_point-past.result c.partition_point-first.ensures.bound begun within there x)
