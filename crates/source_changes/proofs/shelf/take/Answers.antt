use Rattle.std.proofs.Common.{◌∙◌, refl, sym}
use Rattle.source_changes.proofs.ShelfLemmas.{not_found, nothing_removed}
use Rattle.source_changes.proofs.ShelfLemmas.{removed_order, taken, there}
use Rattle.source_changes.proofs.shelf.take.Goals as goal

pub returns-in-Ok-clause-new : goal.returns-in-Ok-clause-new
returns-in-Ok-clause-new g c =
    taken g.T.Named.name c.args.name.now c.args.name.now c.as_slice.result.now
    c.args.shelf.now.items c.as_slice.ensures.value refl c.requires c.in-Ok.index _
    c.in-Ok.ensures.within c.in-Ok.ensures.found c.take_at-old.ensures.new

pub returns-in-Ok-clause-order : goal.returns-in-Ok-clause-order
returns-in-Ok-clause-order g c =
    removed_order g.T.Named.name c.args.name.now c.args.shelf.now.items _ c.requires
    (taken g.T.Named.name c.args.name.now c.args.name.now c.as_slice.result.now
    c.args.shelf.now.items c.as_slice.ensures.value refl c.requires c.in-Ok.index _
    c.in-Ok.ensures.within c.in-Ok.ensures.found c.take_at-old.ensures.new)

pub returns-in-Ok-clause-old : goal.returns-in-Ok-clause-old
returns-in-Ok-clause-old g c =
    sym c.take_at-old.ensures.old
    ∙ there g.T.Named.name c.args.name.now c.args.name.now c.as_slice.result.now
    c.args.shelf.now.items c.as_slice.ensures.value refl c.requires c.in-Ok.index
    c.in-Ok.ensures.within c.in-Ok.ensures.found

pub returns-in-Err-clause-new : goal.returns-in-Err-clause-new
returns-in-Err-clause-new g c =
    nothing_removed g.T.Named.name c.args.name.now c.args.name.now c.as_slice.result.now
    c.args.shelf.now.items c.as_slice.ensures.value refl c.requires c.in-Err.field-0
    c.in-Err.ensures.found

pub returns-in-Err-clause-old : goal.returns-in-Err-clause-old
returns-in-Err-clause-old g c =
    not_found g.T.Named.name c.args.name.now c.args.name.now c.as_slice.result.now
    c.args.shelf.now.items c.as_slice.ensures.value refl c.requires c.in-Err.field-0
    c.in-Err.ensures.found
