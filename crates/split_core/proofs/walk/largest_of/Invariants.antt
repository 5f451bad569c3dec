use Rattle.std.proofs.Common.{◌≡◌, ◌+◌, ◌-◌, ◌≤◌}
use Rattle.split_core.specs.Walk.{largest}
use Rattle.split_core.proofs.walk.largest_of.Given as goal

abbrev pub invariant-loop-range : goal.invariant-loop-range
invariant-loop-range l =
    record {
      short : l.len ≤ 128;
      same : largest 128 l.range.first (l.range.last + 1)
          ≡ largest (128 - l.len) l.range.first (l.range.last + 1);
    }

abbrev pub decreases-loop-range : goal.decreases-loop-range
decreases-loop-range l = 128 - l.len
