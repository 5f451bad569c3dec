-- The texts are those that the fields name.
use Rattle.std.proofs.Common.{sym, ◌∙◌}
use Rattle.geo_terms.proofs.PlaceLemmas.{made_in_form}
use Rattle.geo_terms.proofs.places.fields.said_in_form.Goals as goal

pub place_by-requires : goal.place_by-requires
place_by-requires c =
    made_in_form c.args.country.now c.args.region.now c.args.city.now c.args.postal.now _
    c.in_ok-made.ensures c.requires.country c.requires.region c.requires.lengths
    (sym c.says_nothing.ensures ∙ c.if-says_nothing.false)
