use Rattle.std.proofs.Common.{◌≤◌}
use Rattle.std.specs.Option.{option_copied}
use Rattle.first_index.specs.Links.{IsFirstReaching}
use Rattle.first_index.proofs.inetnums.cover.first_reaching.Given as goal

abbrev pub invariant-loop-index : goal.invariant-loop-index
invariant-loop-index l = record {
  within : l.left ≤ l.end;
  first : IsFirstReaching l.url l.family l.last l.refs l.left l.end
      (option_copied l.first);
}

abbrev pub decreases-loop-index : goal.decreases-loop-index
decreases-loop-index l = l.left
