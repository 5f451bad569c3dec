use Rattle.std.proofs.Common.{rules}
use Rattle.feed_csv.proofs.outcome.row_outcome.Goals as goal

pub returns-then-is_empty : goal.returns-then-is_empty
returns-then-is_empty g c = search rules steps 1000000
