use Rattle.source_changes.proofs.Several.{kept_by_all}
use Rattle.source_changes.proofs.laws.kept_by_all.Goals as goal

pub returns : goal.returns
returns c = kept_by_all
