use Rattle.geo_addr.proofs.FrontLemmas.{v4_block_reads}
use Rattle.geo_addr.proofs.prefix.parse_block.Goals as goal

pub returns : goal.returns
returns c =
    let read = c.in-Some.ensures in
    let bits = c.in-Some-v4_length.ensures.value in
    rw c.from.ensures
    (v4_block_reads c.args.text.now _ _ _ read bits c.if-not-is_v4_aligned.ensures)
