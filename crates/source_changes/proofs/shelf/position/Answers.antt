use Rattle.std.proofs.Common.{refl}
use Rattle.source_changes.proofs.ShelfLemmas.{not_found, there}
use Rattle.source_changes.proofs.shelf.position.Goals as goal

pub returns-in-Ok : goal.returns-in-Ok
returns-in-Ok g c =
    there g.T.Named.name c.args.name.now c.args.name.now c.args.shelf.now c.args.shelf.now refl refl
    c.requires c.in-Ok.index c.in-Ok.ensures.within c.in-Ok.ensures.found

pub returns-in-Err : goal.returns-in-Err
returns-in-Err g c =
    not_found g.T.Named.name c.args.name.now c.args.name.now c.args.shelf.now c.args.shelf.now refl
    refl c.requires c.in-Err.field-0 c.in-Err.ensures.found
