-- The law is the lemma.
use Rattle.csv_lines.proofs.CleanLemmas.{places_are_clean}
use Rattle.csv_lines.proofs.laws.places_are_clean.Goals as goal

pub returns : goal.returns
returns c = places_are_clean
