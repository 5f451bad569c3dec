use Rattle.source_changes.proofs.Several.{kept_by_one_more}
use Rattle.source_changes.proofs.laws.kept_by_one_more.Goals as goal

pub returns : goal.returns
returns c = kept_by_one_more
