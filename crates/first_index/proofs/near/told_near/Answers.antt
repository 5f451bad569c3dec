use Rattle.std.proofs.Common.{◌≡◌, ◌∙◌, ◌-◌, ℕ, true, false, leb, None, eqb, rules, arith, sym}
use Rattle.std.specs.List.Sorted.{IsPartitionPoint}
use Rattle.std.proofs.lemmas.List.Sorted.{IsPartitionPoint-from_clause, IsPartitionedBy-leb}
use Rattle.std.proofs.lemmas.Bool.Decides.{nat_tests}
use Rattle.first_index.specs.Boundaries.{told}
use Rattle.first_index.specs.Columns.{of_columns}
use Rattle.first_index.proofs.ColumnLemmas.{rises, told_where}
use Rattle.first_index.proofs.near.told_near.Goals as goal

pub returns-in_err-last : goal.returns-in_err-last
returns-in_err-last c =
    let found : IsPartitionPoint (λ (p : ℕ). leb p c.args.at ≡ true)
    (λ p. leb p c.args.at ≡ false) c.args.points.now c.partition_point-passed.result =
    IsPartitionPoint-from_clause (λ (p : ℕ). leb p c.args.at) c.args.points.now
    c.partition_point-passed.result c.partition_point-passed.ensures.partitioned
    (IsPartitionedBy-leb (λ (p : ℕ). p) c.args.points.now c.args.at
    (rises c.args.points.now c.requires.ascending))
    (λ a r q k. search rules) in
    let is = told_where c.args.points.now c.args.codes.now c.partition_point-passed.result c.args.at
    c.requires.same_length c.partition_point-passed.ensures.bound found in
    let none : eqb c.partition_point-passed.result 0 ≡ true = grind (arith, nat_tests) in
    let e : told None (of_columns c.args.points.now c.args.codes.now) c.args.at ≡ None =
    rw none at is in
    c.from_residual.ensures ∙ sym e

pub returns : goal.returns
returns c =
    let found : IsPartitionPoint (λ (p : ℕ). leb p c.args.at ≡ true)
    (λ p. leb p c.args.at ≡ false) c.args.points.now c.partition_point-passed.result =
    IsPartitionPoint-from_clause (λ (p : ℕ). leb p c.args.at) c.args.points.now
    c.partition_point-passed.result c.partition_point-passed.ensures.partitioned
    (IsPartitionedBy-leb (λ (p : ℕ). p) c.args.points.now c.args.at
    (rises c.args.points.now c.requires.ascending))
    (λ a r q k. search rules) in
    let is = told_where c.args.points.now c.args.codes.now c.partition_point-passed.result c.args.at
    c.requires.same_length c.partition_point-passed.ensures.bound found in
    let some : eqb c.partition_point-passed.result 0 ≡ false = grind (arith, nat_tests) in
    let last : c.in_ok-last.last ≡ c.partition_point-passed.result - 1 = omega arith in
    c.decoded.ensures ∙ rw last (sym (rw some at is))
