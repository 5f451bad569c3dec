use Rattle.std.proofs.Common.{◌<◌, length, take}
use Rattle.geo_terms.specs.PlaceTable.{IsTable}
use Rattle.geo_terms.proofs.places.note_all.Given as goal

abbrev pub invariant-loop-at : goal.invariant-loop-at
invariant-loop-at l = record {
  table : IsTable (take l.at l.list) l.slots.items l.others;
  some : 1 < length l.slots.items;
}
