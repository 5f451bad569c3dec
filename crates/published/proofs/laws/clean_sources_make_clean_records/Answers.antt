use Rattle.published.proofs.CleanRecords.{clean_records}
use Rattle.published.proofs.laws.clean_sources_make_clean_records.Goals as goal

pub returns : goal.returns
returns c = clean_records
