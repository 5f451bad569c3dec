use Rattle.feed_refs.proofs.ReadingLemmas.{whole_by_lines}
use Rattle.feed_refs.proofs.laws.whole_by_lines.Goals as goal

pub returns : goal.returns
returns c = whole_by_lines
