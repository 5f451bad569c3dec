use Rattle.std.proofs.Common.{◌≤◌, ◌^◌, arith}
use Rattle.std.proofs.Math.Nat.{pow-le-pow_right}
use Rattle.mmdb_data.proofs.reading.number_at.Goals as goal

pub overflow_cast-result : goal.overflow_cast-result
overflow_cast-result c =
    let few : c.args.size ≤ 4 = c.requires.few in
    let wide : 256 ^ c.args.size ≤ 256 ^ 4 = pow-le-pow_right (omega arith) few in
    omega (arith, c.number_of.ensures.fits)
