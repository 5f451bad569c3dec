-- The same number is the same eight bytes.
use Rattle.geo_terms.proofs.SameLemmas.{later_bytes, same_past_word}
use Rattle.std.proofs.Common.{◌∙◌}
use Rattle.geo_terms.proofs.same.same_bytes.Goals as goal

pub loop-one-preserved : goal.loop-one-preserved
loop-one-preserved c =
    let one = c.in-Some.ensures.cases in
    let other = c.in-Some-split_first_chunk.ensures.cases in
    let kept = c.loop-one.invariant in (
      same_past_word c.loop-one.left.now c.loop-one.right.now _ _ _ _ _ _ kept.1 kept.2 one other
          c.from_le_bytes.ensures c.from_le_bytes-in-Some.ensures c.if-from_le_bytes.false
          ∙ kept.0,
      later_bytes c.loop-one.left.now _ kept.1 one.1,
      later_bytes c.loop-one.right.now _ kept.2 other.1,
    )
