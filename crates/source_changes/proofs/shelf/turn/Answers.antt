use Rattle.source_changes.proofs.PlacingLemmas.{turned_parts}
use Rattle.source_changes.proofs.shelf.turn.Goals as goal

pub returns : goal.returns
returns g c a b c' d is first middle end =
    turned_parts a b c' d c.args.shelf.now.items c.deref_mut.result.now c.rotate_right.new.self
    c.args.first c.args.middle c.args.end c.args.shelf.now.len is first middle end
    c.deref_mut.ensures.value c.args.shelf.now.ok.0 c.rotate_right.ensures.after
