-- The code names a country or it does not.
use Rattle.std.proofs.Common.{◌≡◌, true, false, Some, ap, refl}
use Rattle.geo_terms.specs.PlaceForm.{names_country, place_of_country}
use Rattle.geo_terms.proofs.places.fields.country_place.Goals as goal

pub returns-in_default : goal.returns-in_default
unfolding place_of_country
returns-in_default c =
    let unnamed : names_country c.args.country.now ≡ false = c.in_default.ensures.none refl in
    rw unnamed refl

pub returns : goal.returns
unfolding place_of_country
returns c =
    let named : names_country c.args.country.now ≡ true = c.in-Some.ensures.named in
    rw named (ap Some c.in_ok-place_of_pair.ensures)
