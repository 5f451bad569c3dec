use Rattle.std.proofs.Common.{◌≡◌, ◌≤◌, ◌+◌, ◌-◌, ◌++◌, length, map}
use Rattle.source_changes.specs.Merging.{differing}
use Rattle.source_changes.specs.Sorting.{whole_cmp}
use Rattle.source_changes.specs.Touched.{ground_of}
use Rattle.source_changes.proofs.Found.{left}
use Rattle.source_changes.proofs.changed.push_differing.Given as goal

abbrev pub invariant-loop-i : goal.invariant-loop-i
invariant-loop-i g l = record {
  in_old : l.i ≤ length l.old;
  in_new : l.j ≤ length l.new;
  found :
      l.grounds ++ map (λ x. ground_of (g.S.Statement.range x))
      (left (whole_cmp g.S.Statement.range g.S.Compared.rest)
      (λ x. ground_of (g.S.Statement.range x)) l.old l.new l.i l.j)
      ≡ l.fn.grounds ++ map (λ x. ground_of (g.S.Statement.range x)) (differing (whole_cmp
      g.S.Statement.range g.S.Compared.rest) (map (λ s. s.now) l.old) (map (λ s. s.now) l.new));
}

-- each turn goes one statement further in one of the lists at least
abbrev pub decreases-loop-i : goal.decreases-loop-i
decreases-loop-i g l = (length l.old - l.i) + (length l.new - l.j)
