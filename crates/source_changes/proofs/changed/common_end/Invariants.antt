use Rattle.std.proofs.Common.{◌≡◌, ◌-◌, true, drop, length}
use Rattle.std.specs.List.{AllZip}
use Rattle.source_changes.proofs.changed.common_end.Given as goal

abbrev pub invariant-loop-i : goal.invariant-loop-i
invariant-loop-i g l =
    AllZip (λ x y. g.S.Compared.same x y ≡ true) (drop (length l.old - l.i) l.old)
    (drop (length l.new - l.i) l.new)
