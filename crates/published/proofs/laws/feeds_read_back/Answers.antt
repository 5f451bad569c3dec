use Rattle.published.proofs.LineReads as reads
use Rattle.published.proofs.laws.feeds_read_back.Goals as goal

pub returns : goal.returns
returns c = reads.feeds_read_back
