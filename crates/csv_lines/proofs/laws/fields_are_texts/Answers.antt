-- The law is the lemma.
use Rattle.csv_lines.proofs.TextLemmas.{fields_are_texts}
use Rattle.csv_lines.proofs.laws.fields_are_texts.Goals as goal

pub returns : goal.returns
returns c = fields_are_texts
