-- What is left passes from the spot that was reached where the whole text passes.
use Rattle.std.proofs.Common.{◌≡◌, drop}
use Rattle.csv_lines.specs.Fields.{passes}
use Rattle.csv_lines.specs.declared.scan.Spot.TheVariants.{Start}
use Rattle.csv_lines.proofs.scan.passes.Given as goal

abbrev pub invariant-loop-byte : goal.invariant-loop-byte
invariant-loop-byte l = passes Start l.text ≡ passes l.spot (drop l.byte-index l.text)
