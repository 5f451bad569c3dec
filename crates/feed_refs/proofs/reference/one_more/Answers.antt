use Rattle.std.proofs.Common.{rules}
use Rattle.feed_refs.proofs.reference.one_more.Goals as goal

pub returns-in-One : goal.returns-in-One
returns-in-One c = search rules steps 1000000
