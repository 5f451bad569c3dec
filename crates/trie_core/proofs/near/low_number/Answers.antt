use Rattle.std.proofs.Common.{◌∙◌, length}
use Rattle.std.proofs.lemmas.Bool.{le-leb, lt-leb}
use Rattle.trie_core.specs.NearHash.{low_number}
use Rattle.trie_core.proofs.near.low_number.Goals as goal

pub returns-then-bytes-lt4 : goal.returns-then-bytes-lt4
unfolding low_number
returns-then-bytes-lt4 c = rw (lt-leb 4 (length c.args.bytes.now) c.if-bytes-lt4.true)

pub returns : goal.returns
unfolding low_number
returns c =
    rw (le-leb 4 (length c.args.bytes.now) c.if-bytes-lt4.false)
    (c.from.ensures ∙ c.from_le_bytes.ensures)
