-- The columns so far and the last ones of what is left are the last ones of all.
use Rattle.std.proofs.Common.{◌≡◌, ◌++◌, drop, length}
use Rattle.first_index.specs.Columns.{last_ones, of_columns}
use Rattle.first_index.proofs.index.in_columns.Given as goal

abbrev pub invariant-loop-index : goal.invariant-loop-index
invariant-loop-index l = record {
  same_length : length l.points.items ≡ length l.codes.items;
  found : of_columns l.points.items l.codes.items ++ last_ones (drop l.index l.boundaries)
      ≡ last_ones l.boundaries;
}
