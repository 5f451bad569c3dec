-- The law is the lemma.
use Rattle.csv_lines.proofs.FieldLaw.{fields_are_unique}
use Rattle.csv_lines.proofs.laws.fields_are_unique.Goals as goal

pub returns : goal.returns
returns c = fields_are_unique
