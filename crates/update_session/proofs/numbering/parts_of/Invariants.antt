use Rattle.std.proofs.Common.{◌≡◌, map, take}
use Rattle.update_session.specs.Build.{renamed}
use Rattle.update_session.proofs.numbering.parts_of.Given as goal

abbrev pub invariant-loop-at : goal.invariant-loop-at
invariant-loop-at l = record {
  ranges : map (λ p. p.range) l.parts.items ≡ take l.at l.one.segments.items;
  leaves : map (λ p. p.leaf) l.parts.items
      ≡ map (renamed l.names.items) (take l.at l.one.leaves.items);
}
