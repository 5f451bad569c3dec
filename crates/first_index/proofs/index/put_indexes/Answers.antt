use Rattle.std.proofs.Common.{◌≡◌, None, arith, get_or}
use Rattle.std.proofs.lemmas.List.{get_or_default}
use Rattle.std.proofs.lemmas.List.Edits.{map_over_more}
use Rattle.first_index.specs.FirstIndex.{with_index}
use Rattle.first_index.specs.declared.boundaries.Boundary.{Boundary}
use Rattle.first_index.proofs.index.put_indexes.Goals as goal

pub loop-boundary-preserved : goal.loop-boundary-preserved
loop-boundary-preserved c =
    let x : Boundary = get_or c.loop-boundary.boundary-items c.loop-boundary.boundary-index
    (record { at = 0; first = None }) in
    let same : x ≡ get_or c.loop-boundary.boundary-items c.loop-boundary.boundary-index x =
    get_or_default c.loop-boundary.boundary-items c.loop-boundary.boundary-index
    (record { at = 0; first = None }) x (omega arith) in
    rw c.index_of-boundary.ensures
    (map_over_more (with_index c.args.indexes.now) c.deref_mut-boundary-items.result.now
    c.loop-boundary.boundary-items c.loop-boundary.boundary-index x (omega arith)
    c.loop-boundary.invariant same)
