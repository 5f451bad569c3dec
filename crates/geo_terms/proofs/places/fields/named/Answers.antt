-- Fields in form are short.
use Rattle.geo_terms.proofs.PlaceLemmas.{made_short}
use Rattle.geo_terms.proofs.places.fields.named.Goals as goal

pub of-requires : goal.of-requires
of-requires c =
    made_short c.args.country.now c.args.region.now c.args.city.now c.args.postal.now _
    c.own_country-letters.ensures c.requires.country c.requires.region c.requires.lengths
