use Rattle.std.proofs.Common.{arith, ap, ◌*◌}
use Rattle.geo_addr.proofs.V6Lemmas.{joined_fits}
use Rattle.geo_addr.proofs.v6.joined.Goals as goal

pub pow-requires : goal.pow-requires
pow-requires c =
    (joined_fits _ _ _ _ (c.requires.small_head (omega arith)) (c.requires.small_tail (omega arith))
    (omega arith) c.requires.room).0

pub overflow_mul-result : goal.overflow_mul-result
overflow_mul-result c =
    omega (
      arith,
      (joined_fits _ _ _ _ (c.requires.small_head (omega arith))
          (c.requires.small_tail (omega arith)) (omega arith) c.requires.room).1,
      ap (λ p. c.args.head.number * p) c.pow.ensures,
    )

pub overflow_add-result : goal.overflow_add-result
overflow_add-result c =
    omega (
      arith,
      (joined_fits _ _ _ _ (c.requires.small_head (omega arith))
          (c.requires.small_tail (omega arith)) (omega arith) c.requires.room).1,
      ap (λ p. c.args.head.number * p) c.pow.ensures,
    )
