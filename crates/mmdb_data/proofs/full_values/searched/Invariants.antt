use Rattle.std.proofs.Common.{◌≡◌, drop, nat_eq}
use Rattle.std.specs.Cmp.Lexicographic.{pointwise}
use Rattle.std.specs.Map.{lookup}
use Rattle.mmdb_data.proofs.full_values.searched.Given as goal

abbrev pub invariant-loop-number : goal.invariant-loop-number
invariant-loop-number l =
    lookup (pointwise nat_eq l.spelled) (drop l.number l.list)
    ≡ lookup (pointwise nat_eq l.spelled) l.list
