use Rattle.std.proofs.Common.{rules}
use Rattle.geo_terms.specs.Precedence.{reference_cmp}
use Rattle.geo_terms.proofs.order.ReferenceStatement.order.Goals as goal

pub returns : goal.returns
unfolding reference_cmp
returns c = search rules steps 1000000
