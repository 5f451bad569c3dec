use Rattle.std.proofs.Common.{◌∙◌, ap, arith, subst, sym}
use Rattle.geo_addr.specs.Ranges.{IsBlock, Prefix, is_v4}
use Rattle.geo_addr.proofs.ReadBack.{v4_length}
use Rattle.geo_addr.proofs.print.printed_length.Goals as goal

pub overflow_sub-result : goal.overflow_sub-result
overflow_sub-result c =
    let block = subst IsBlock c.block.view_is c.block.invariant in
    let long =
    v4_length c.args.block block (sym (ap is_v4 c.range_of.ensures) ∙ sym c.if-is_v4.ensures) in
    omega (arith, long.0, ap (λ (b : Prefix). b.len) c.block.view_is)
