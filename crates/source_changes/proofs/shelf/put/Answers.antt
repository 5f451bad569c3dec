use Rattle.std.proofs.Common.{◌∙◌, refl, sym}
use Rattle.source_changes.proofs.ShelfLemmas.{found_within, not_found, placed_order}
use Rattle.source_changes.proofs.ShelfLemmas.{put_here, put_there, there}
use Rattle.source_changes.proofs.shelf.put.Goals as goal

pub replace_at-old-requires : goal.replace_at-old-requires
replace_at-old-requires g c =
    found_within g.T.Named.name c.name.result.now (g.T.Named.name c.args.thing)
    c.as_slice.result.now c.args.shelf.now.items c.as_slice.ensures.value c.name.ensures c.requires
    c.in-Ok.index c.in-Ok.ensures.within

pub returns-in-Ok-clause-new : goal.returns-in-Ok-clause-new
returns-in-Ok-clause-new g c =
    put_there g.T.Named.name c.name.result.now (g.T.Named.name c.args.thing)
    c.as_slice.result.now c.args.shelf.now.items c.as_slice.ensures.value c.name.ensures c.requires
    c.args.thing c.in-Ok.index _ refl c.in-Ok.ensures.within c.in-Ok.ensures.found
    c.replace_at-old.ensures.new

pub returns-in-Ok-clause-order : goal.returns-in-Ok-clause-order
returns-in-Ok-clause-order g c =
    placed_order g.T.Named.name c.args.thing c.args.shelf.now.items _ c.requires
    (put_there g.T.Named.name c.name.result.now (g.T.Named.name c.args.thing)
    c.as_slice.result.now c.args.shelf.now.items c.as_slice.ensures.value c.name.ensures c.requires
    c.args.thing c.in-Ok.index _ refl c.in-Ok.ensures.within c.in-Ok.ensures.found
    c.replace_at-old.ensures.new)

pub returns-in-Ok-clause-old : goal.returns-in-Ok-clause-old
returns-in-Ok-clause-old g c =
    sym c.replace_at-old.ensures.old
    ∙ there g.T.Named.name c.name.result.now (g.T.Named.name c.args.thing)
    c.as_slice.result.now c.args.shelf.now.items c.as_slice.ensures.value c.name.ensures c.requires
    c.in-Ok.index c.in-Ok.ensures.within c.in-Ok.ensures.found

pub returns-in_ok-insert-in-Err-clause-new : goal.returns-in_ok-insert-in-Err-clause-new
returns-in_ok-insert-in-Err-clause-new g c =
    put_here g.T.Named.name c.name.result.now (g.T.Named.name c.args.thing)
    c.as_slice.result.now c.args.shelf.now.items c.as_slice.ensures.value c.name.ensures c.requires
    c.args.thing c.in-Err.index _ refl c.in-Err.ensures.within c.in-Err.ensures.found
    c.in_ok-insert-in-Err.ensures.items

pub returns-in_ok-insert-in-Err-clause-order : goal.returns-in_ok-insert-in-Err-clause-order
returns-in_ok-insert-in-Err-clause-order g c =
    placed_order g.T.Named.name c.args.thing c.args.shelf.now.items _ c.requires
    (put_here g.T.Named.name c.name.result.now (g.T.Named.name c.args.thing)
    c.as_slice.result.now c.args.shelf.now.items c.as_slice.ensures.value c.name.ensures c.requires
    c.args.thing c.in-Err.index _ refl c.in-Err.ensures.within c.in-Err.ensures.found
    c.in_ok-insert-in-Err.ensures.items)

pub returns-in_ok-insert-in-Err-clause-old : goal.returns-in_ok-insert-in-Err-clause-old
returns-in_ok-insert-in-Err-clause-old g c =
    not_found g.T.Named.name c.name.result.now (g.T.Named.name c.args.thing)
    c.as_slice.result.now c.args.shelf.now.items c.as_slice.ensures.value c.name.ensures c.requires
    c.in-Err.index c.in-Err.ensures.found
