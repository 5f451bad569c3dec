use Rattle.generated.proofs.TextLemmas.{block_after}
use Rattle.generated.proofs.feed.push_block.Goals as goal

pub returns : goal.returns
returns c =
    rw (← block_after c.args.bytes.now.items c.args.at c.requires.few)
    (simp (
      c.in_ok-extend_from_slice-4.ensures.items,
      c.in_ok-push_decimal-3.ensures,
      c.in_ok-extend_from_slice-3.ensures.items,
      c.in_ok-push_decimal-2.ensures,
      c.in_ok-extend_from_slice-2.ensures.items,
      c.in_ok-push_decimal.ensures,
      c.in_ok-extend_from_slice.ensures.items,
    ))
