use Rattle.feed_refs.proofs.ReadingLemmas.{fault_stays}
use Rattle.feed_refs.proofs.laws.fault_stays.Goals as goal

pub returns : goal.returns
returns c = fault_stays
