-- What was written and the words of the blocks that are left are the words of all blocks.
use Rattle.std.proofs.Common.{◌≡◌, ◌+◌, ◌++◌, flat_map, string_bytes}
use Rattle.geo_addr.specs.Printing.{block_text}
use Rattle.split_core.specs.Walk.{blocks_of}
use Rattle.explained.specs.Explanation.{then}
use Rattle.explained.proofs.lines.prefix_words.Given as goal

abbrev pub invariant-loop-block : goal.invariant-loop-block
invariant-loop-block l =
    (goal.iterator-loop-block).can_next l.block-iterator
    × (goal.iterator-loop-block).is_finite l.block-iterator
    × (string_bytes l.words ++ flat_map (λ b. then (block_text b)) l.block-iterator
    ≡ flat_map (λ b. then (block_text b)) (blocks_of l.fn.range.first (l.fn.range.last + 1)))
