use Rattle.published.proofs.Numbering as numbering
use Rattle.published.proofs.laws.numbers_do_not_matter.Goals as goal

pub returns : goal.returns
returns c = numbering.numbers_do_not_matter
