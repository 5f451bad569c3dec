use Rattle.std.proofs.Common.{[], filter, map, take}
use Rattle.std.proofs.lemmas.List.Filters.{FiltersInPlace}
use Rattle.geo_terms.specs.Precedence.{spoken_at}
use Rattle.update_session.specs.Build.{StandFor, is_wanted}
use Rattle.update_session.specs.Kept.{GrowsBy}
use Rattle.update_session.proofs.choosing.chosen_in.Given as goal

abbrev pub invariant-loop-at : goal.invariant-loop-at
invariant-loop-at l = record {
  filtered : FiltersInPlace (is_wanted l.sources l.fn.blank) l.fn.segments.items l.segments.items
      l.kept l.at;
  stands : StandFor l.places l.leaves.items (map (λ r. spoken_at l.sources r.first)
      (filter (is_wanted l.sources l.fn.blank) (take l.at l.fn.segments.items)));
  grown : GrowsBy [] l.places l.kept;
}
