use Rattle.std.proofs.Common.{rules}
use Rattle.csv_lines.specs.Doubled.{slot}
use Rattle.csv_lines.proofs.fate.slot_of.Goals as goal

pub returns-clause-slot : goal.returns-clause-slot
unfolding slot
returns-clause-slot c = search rules
