use Rattle.std.proofs.Common.{◌+◌, ◌-◌, ◌*◌, ◌≤◌, length, sum_by}
use Rattle.std.specs.Prelude.{flat_map}
use Rattle.trie_core.specs.Store.{GrowsBy, IsRootOf}
use Rattle.update_session.specs.Build.{segments_of}
use Rattle.update_session.specs.Kept.{GrowsBy as PlacesGrowBy}
use Rattle.update_session.proofs.BuildLemmas.{IsPaintedSoFar}
use Rattle.update_session.proofs.build.repaint.Given as goal

abbrev pub invariant-loop-one : goal.invariant-loop-one
invariant-loop-one g l = record {
  of : IsRootOf l.store l.painted;
  painted : IsPaintedSoFar l.fn.sources (flat_map segments_of l.yielded) l.fn.store l.fn.root
      l.store l.places l.painted;
  ticks : l.fn.steps ≤ l.steps;
  few_ticks : l.steps ≤ l.fn.steps + 256 * sum_by (λ c. length c.segments.items) l.yielded;
  grows : GrowsBy l.fn.store l.store (l.steps - l.fn.steps);
  places : PlacesGrowBy l.fn.places l.places (sum_by (λ c. length c.places) l.yielded);
}
