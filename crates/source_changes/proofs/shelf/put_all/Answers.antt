use Rattle.std.proofs.Common.{drop, subst, sym, take}
use Rattle.geo_terms.specs.SlotOrder.{AreInOrder}
use Rattle.source_changes.proofs.Together.{all_placed_in_order}
use Rattle.source_changes.proofs.shelf.put_all.Goals as goal

pub returns-clause-order : goal.returns-clause-order
returns-clause-order g c =
    subst (AreInOrder g.T.Named.name) (sym c.put_between.ensures)
    (all_placed_in_order g.T.Named.name (drop c.len-count.result c.put_over.new.shelf.items)
    (take c.len-count.result c.put_over.new.shelf.items) c.put_over.ensures.order)
