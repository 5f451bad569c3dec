-- The fields so far and the pieces of what is left are all pieces.
use Rattle.std.proofs.Common.{◌≡◌, [], ◌++◌, length}
use Rattle.csv.specs.Records.{fields_of, partial_of}
use Rattle.geo_addr.specs.Lines.{pieces}
use Rattle.csv_lines.proofs.bare.cut_row.Given as goal

abbrev pub invariant-fields : goal.invariant-fields
invariant-fields l =
    (fields_of l.row ++ pieces 44 l.left ≡ pieces 44 l.text) × (partial_of l.row ≡ [])

abbrev pub decreases-fields : goal.decreases-fields
decreases-fields l = length l.left
