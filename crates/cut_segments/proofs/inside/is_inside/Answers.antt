use Rattle.std.proofs.Common.{rules, ◌≡◌, ◌∙◌, ℕ, suc, ◌≤◌, true, false, leb, length, arith, ap}
use Rattle.std.proofs.Common.{sym, subst}
use Rattle.std.specs.List.Sorted.{IsPartitionPoint}
use Rattle.std.proofs.lemmas.List.Sorted.{IsPartitionPoint-from_clause, IsPartitionedBy-leb}
use Rattle.geo_addr.specs.Ranges.{Ends}
use Rattle.cut_segments.proofs.InsideLemmas.{firsts_rise, last_inside, none_inside, zero_if}
use Rattle.cut_segments.proofs.inside.is_inside.Goals as goal

pub returns-in-Some : goal.returns-in-Some
returns-in-Some c =
    let point : IsPartitionPoint (λ (r : Ends). leb r.first c.args.point ≡ true) (λ (r : Ends).
    leb r.first c.args.point ≡ false) c.args.ranges.now c.partition_point-begun.result =
    IsPartitionPoint-from_clause (λ (r : Ends). leb r.first c.args.point) c.args.ranges.now
    c.partition_point-begun.result c.partition_point-begun.ensures.partitioned
    (IsPartitionedBy-leb (λ (r : Ends). r.first) c.args.ranges.now c.args.point
    (firsts_rise c.args.ranges.now c.requires.ranges c.requires.apart)) (λ a r q k. search rules) in
    let begun : c.partition_point-begun.result ≡ suc c.in-Some.last =
    omega (arith, c.in-Some.ensures.0, c.in-Some.ensures.1) in
    let within : suc c.in-Some.last ≤ length c.args.ranges.now =
    omega (arith, c.partition_point-begun.ensures.bound, begun) in
    ap (λ (r : Ends). leb c.args.point r.last) (c.range.view_is ∙ c.index-ranges-last.is)
    ∙ sym (last_inside c.args.point c.args.ranges.now c.in-Some.last c.index-ranges-last.result
    c.requires.ranges c.requires.apart within
    (subst (λ (n : ℕ). IsPartitionPoint (λ (r : Ends). leb r.first c.args.point ≡ true)
    (λ (r : Ends). leb r.first c.args.point ≡ false) c.args.ranges.now n) begun point))

pub returns-in-None : goal.returns-in-None
returns-in-None c =
    let point : IsPartitionPoint (λ (r : Ends). leb r.first c.args.point ≡ true) (λ (r : Ends).
    leb r.first c.args.point ≡ false) c.args.ranges.now c.partition_point-begun.result =
    IsPartitionPoint-from_clause (λ (r : Ends). leb r.first c.args.point) c.args.ranges.now
    c.partition_point-begun.result c.partition_point-begun.ensures.partitioned
    (IsPartitionedBy-leb (λ (r : Ends). r.first) c.args.ranges.now c.args.point
    (firsts_rise c.args.ranges.now c.requires.ranges c.requires.apart)) (λ a r q k. search rules) in
    let none : c.partition_point-begun.result ≡ 0 =
    zero_if c.partition_point-begun.result (λ one. c.in-None.ensures one) in
    sym (none_inside c.args.point c.args.ranges.now
    (subst (λ (n : ℕ). IsPartitionPoint (λ (r : Ends). leb r.first c.args.point ≡ true)
    (λ (r : Ends). leb r.first c.args.point ≡ false) c.args.ranges.now n) none point))
