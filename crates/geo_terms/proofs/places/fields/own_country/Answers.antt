-- A region in form begins with two letters, behind which it may be cut.
use Rattle.std.proofs.Common.{rules}
use Rattle.geo_terms.proofs.PlaceLemmas.{region_cut}
use Rattle.geo_terms.proofs.places.fields.own_country.Goals as goal

pub range-requires-clause-end_boundary : goal.range-requires-clause-end_boundary
range-requires-clause-end_boundary c =
    region_cut c.args.region.now c.utf8.region c.requires (search rules)
