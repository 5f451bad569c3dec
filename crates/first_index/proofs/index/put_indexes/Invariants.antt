use Rattle.std.proofs.Common.{◌≡◌, ◌++◌, map, take, drop}
use Rattle.first_index.specs.FirstIndex.{with_index}
use Rattle.first_index.proofs.index.put_indexes.Given as goal

-- the boundaries that are left stand as they stood
abbrev pub invariant-loop-boundary : goal.invariant-loop-boundary
invariant-loop-boundary l =
    l.boundary-items ≡ map (with_index l.indexes) (take l.boundary-index l.initial.boundary-items)
    ++ drop l.boundary-index l.initial.boundary-items
