-- Notes in order are a sorted permutation.
use Rattle.geo_terms.proofs.ReportLemmas.{reports_are_in_order}
use Rattle.geo_terms.proofs.laws.reports_are_in_order.Goals as goal

pub returns : goal.returns
returns c = reports_are_in_order
