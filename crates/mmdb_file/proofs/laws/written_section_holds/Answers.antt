use Rattle.mmdb_file.proofs.SectionLemmas.{section_holds}
use Rattle.mmdb_file.proofs.laws.written_section_holds.Goals as goal

pub returns : goal.returns
returns c = section_holds
