use Rattle.feed_refs.proofs.ReadingLemmas.{end_fault}
use Rattle.feed_refs.proofs.laws.end_fault.Goals as goal

pub returns : goal.returns
returns c = end_fault
