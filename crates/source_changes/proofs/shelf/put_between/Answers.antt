use Rattle.std.proofs.Common.{ap, rules, take}
use Rattle.source_changes.proofs.PlacingLemmas.{begin_between, last_between, never_found}
use Rattle.source_changes.proofs.PlacingLemmas.{went_between}
use Rattle.source_changes.proofs.shelf.put_between.Goals as goal

pub loop-count-init : goal.loop-count-init
loop-count-init g c =
    begin_between g.T.Named.name c.args.count c.len-end.result c.args.shelf.now.items
    c.requires.count (search rules) c.requires.shelf c.requires.things c.requires.apart

pub unreachable-requires : goal.unreachable-requires
unreachable-requires g c =
    never_found g.T.Named.name c.loop-count.count c.loop-count.end _ c.loop-count.shelf.items
    (last_between g.T.Named.name c.loop-count.count c.loop-count.end _ c.loop-count.shelf.items
    c.loop-count-test.true c.loop-count.invariant) _
    c.name.result.now c.index.result.now (ap (take c.loop-count.count) c.deref.ensures.value)
    c.name.ensures (search rules) c.in-Ok.field-0 c.in-Ok.ensures.within c.in-Ok.ensures.found

pub loop-count-preserved : goal.loop-count-preserved
loop-count-preserved g c =
    went_between g.T.Named.name c.loop-count.count c.loop-count.end _ c.loop-count.shelf.items
    (last_between g.T.Named.name c.loop-count.count c.loop-count.end _ c.loop-count.shelf.items
    c.loop-count-test.true c.loop-count.invariant) _
    c.name.result.now c.index.result.now (ap (take c.loop-count.count) c.deref.ensures.value)
    c.name.ensures (search rules) c.in-Err.index _ c.in-Err.ensures.within c.in-Err.ensures.found
    c.turn.ensures
