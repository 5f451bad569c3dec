-- The fields so far and the pieces of what is left are all pieces.
-- The text is bare exactly where what is left is.
use Rattle.std.proofs.Common.{◌≡◌, ◌++◌, length}
use Rattle.std.specs.List.{list_all}
use Rattle.geo_addr.specs.Lines.{pieces}
use Rattle.csv_lines.specs.Fields.{is_bare}
use Rattle.csv_lines.proofs.bare.cut_bare.Given as goal

abbrev pub invariant-fields : goal.invariant-fields
invariant-fields l = record {
  fields : l.row ++ pieces 44 l.left ≡ pieces 44 l.text;
  bare : list_all is_bare l.text ≡ list_all is_bare l.left;
}

abbrev pub decreases-fields : goal.decreases-fields
decreases-fields l = length l.left
