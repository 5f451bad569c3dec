use Rattle.std.proofs.Common.{map, take, Some}
use Rattle.update_session.specs.Build.{StandFor}
use Rattle.update_session.specs.Kept.{GrowsBy}
use Rattle.update_session.proofs.numbering.names_of.Given as goal

abbrev pub invariant-loop-at : goal.invariant-loop-at
invariant-loop-at l = record {
  stands : StandFor l.places l.names.items (take l.at (map Some l.local));
  grown : GrowsBy l.fn.places l.places l.at;
}
