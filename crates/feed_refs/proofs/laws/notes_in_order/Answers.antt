use Rattle.feed_refs.proofs.LineOrder.{notes_in_order}
use Rattle.feed_refs.proofs.laws.notes_in_order.Goals as goal

pub returns : goal.returns
returns c = notes_in_order
