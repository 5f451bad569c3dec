use Rattle.std.proofs.Common.{arith}
use Rattle.geo_addr.proofs.SideLemmas.{room_for_group}
use Rattle.geo_addr.proofs.side.Side.push.Goals as goal

pub overflow_mul-self : goal.overflow_mul-self
overflow_mul-self c =
    omega (
      arith,
      room_for_group _ _ _ (c.requires.small (omega arith)) c.requires.fits c.if-self-lt8.true,
    )

pub overflow_add-self : goal.overflow_add-self
overflow_add-self c =
    omega (
      arith,
      room_for_group _ _ _ (c.requires.small (omega arith)) c.requires.fits c.if-self-lt8.true,
    )
