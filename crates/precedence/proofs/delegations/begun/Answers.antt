use Rattle.std.proofs.Common.{◌≡◌, ℕ, true, false, leb, arith, rules}
use Rattle.std.specs.List.Sorted.{IsPartitionPoint}
use Rattle.std.proofs.lemmas.Bool.Decides.{nat_tests}
use Rattle.std.proofs.lemmas.List.Sorted.{IsPartitionPoint-from_clause, IsPartitionedBy-leb}
use Rattle.precedence.proofs.delegations.begun.Goals as goal

pub returns-clause-point : goal.returns-clause-point
returns-clause-point c =
    let point : IsPartitionPoint (λ (y : ℕ). leb y c.args.index ≡ true)
    (λ (y : ℕ). leb y c.args.index ≡ false) c.args.starts.now c.partition_point.result =
    IsPartitionPoint-from_clause (λ (y : ℕ). leb y c.args.index) c.args.starts.now
    c.partition_point.result c.partition_point.ensures.partitioned
    (IsPartitionedBy-leb (λ (y : ℕ). y) c.args.starts.now c.args.index c.requires)
    (λ a r q k. search rules) in (
      λ k d low below. let test = point.0 k d low below in grind (arith, nat_tests),
      λ k d low below. let test = point.1 k d low below in grind (arith, nat_tests),
    )
