use Rattle.update_session.proofs.WriteLemmas.{too_large_means_no_file}
use Rattle.update_session.proofs.laws.too_large_means_no_file.Goals as goal

pub returns : goal.returns
returns c = too_large_means_no_file
