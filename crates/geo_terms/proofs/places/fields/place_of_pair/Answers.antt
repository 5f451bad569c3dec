-- A country code is a text, and a place alone.
use Rattle.geo_terms.proofs.PlaceLemmas.{named_is_text, named_made}
use Rattle.geo_terms.proofs.places.fields.place_of_pair.Goals as goal

pub from_utf8_unchecked-country-requires : goal.from_utf8_unchecked-country-requires
from_utf8_unchecked-country-requires c = named_is_text c.args.country.now c.requires.named

pub new_place-requires : goal.new_place-requires
new_place-requires c =
    named_made c.args.country.now c.from_utf8_unchecked-country.result.now _ c.requires.named
    c.from_utf8_unchecked-country.ensures c.in_ok-made.ensures
