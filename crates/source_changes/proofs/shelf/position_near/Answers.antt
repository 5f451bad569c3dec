use Rattle.std.proofs.Common.{refl}
use Rattle.source_changes.proofs.ShelfLemmas.{there}
use Rattle.source_changes.proofs.shelf.position_near.Goals as goal

pub returns-then-is_at : goal.returns-then-is_at
returns-then-is_at g c =
    there g.T.Named.name c.args.name.now c.args.name.now c.args.shelf.now c.args.shelf.now refl refl
    c.requires c.args.near.now (c.if-is_at.ensures.within refl) (c.if-is_at.ensures.found refl)
