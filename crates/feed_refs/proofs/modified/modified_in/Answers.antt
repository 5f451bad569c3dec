use Rattle.std.proofs.Common.{rules}
use Rattle.feed_refs.specs.Dates.{modified}
use Rattle.feed_refs.proofs.modified.modified_in.Goals as goal

pub returns-else-fits : goal.returns-else-fits
unfolding modified
returns-else-fits c = search rules steps 1000000

pub returns-then-fits : goal.returns-then-fits
unfolding modified
returns-then-fits c = search rules steps 1000000
