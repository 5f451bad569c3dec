use Rattle.std.proofs.Common.{rules}
use Rattle.source_changes.specs.Sorting.{reference_rest}
use Rattle.source_changes.proofs.compared.ReferenceCompared.compare_rest.Goals as goal

pub returns : goal.returns
unfolding reference_rest
returns c = search rules steps 1000000
