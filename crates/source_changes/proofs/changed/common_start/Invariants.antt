use Rattle.std.proofs.Common.{◌≡◌, true, take}
use Rattle.std.specs.List.{AllZip}
use Rattle.source_changes.proofs.changed.common_start.Given as goal

abbrev pub invariant-loop-i : goal.invariant-loop-i
invariant-loop-i g l =
    AllZip (λ x y. g.S.Compared.same x y ≡ true) (take l.i l.old) (take l.i l.new)
