use Rattle.std.proofs.Common.{◌≤◌, ◌^◌, length, arith}
use Rattle.std.proofs.Math.Nat.{pow-le-pow_right, one-le-pow}
use Rattle.byteorder.specs.Numbers.{big_from-lt}
use Rattle.mmdb_data.proofs.reading.number_of.Goals as goal

pub returns-clause-fits : goal.returns-clause-fits
returns-clause-fits c =
    let bytes = c.args.bytes.now in
    let few : length bytes ≤ c.args.most = c.requires.few in
    let wide : 256 ^ length bytes ≤ 256 ^ c.args.most = pow-le-pow_right (omega arith) few in
    rw c.read_uint128.ensures (omega
    (arith, big_from-lt 0 (length bytes) bytes (λ k. omega (arith, c.type_inv.bytes k))))

pub returns-then-is_empty-clause-fits : goal.returns-then-is_empty-clause-fits
returns-then-is_empty-clause-fits c = one-le-pow c.args.most 256 (omega arith)
