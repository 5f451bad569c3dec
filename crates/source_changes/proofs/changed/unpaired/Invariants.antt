use Rattle.std.proofs.Common.{map, take}
use Rattle.source_changes.proofs.Paired.{AsFar}
use Rattle.source_changes.proofs.changed.unpaired.Given as goal

abbrev pub invariant-loop-i : goal.invariant-loop-i
invariant-loop-i g l =
    AsFar g.S.Compared.same (take l.i l.old) (take l.i l.new) (map (λ s. s.now) l.old_left.items)
    (map (λ s. s.now) l.new_left.items)
