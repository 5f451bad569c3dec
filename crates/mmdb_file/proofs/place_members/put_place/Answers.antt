use Rattle.std.proofs.Common.{◌≡◌, OnOk, sym, subst}
use Rattle.std.specs.Str.{IsUtf8}
use Rattle.mmdb_data.specs.ValueTree.{CanBeReadBack}
use Rattle.geo_terms.specs.PlaceForm.{PlaceParts}
use Rattle.mmdb_data.specs.Packing.{in_full}
use Rattle.mmdb_file.specs.PlaceValue.{place_value}
use Rattle.mmdb_file.proofs.PlaceLemmas.{readable_place, parts_are}
use Rattle.mmdb_file.proofs.place_members.put_place.Goals as goal

pub put_parts-requires : goal.put_parts-requires
put_parts-requires c =
    subst (λ (p : PlaceParts). CanBeReadBack (place_value p))
    (sym (parts_are c.args.place.now c.country-country.result.now c.region-region.result.now
    c.city.result.now c.postal.result.now c.country-country.ensures.text c.region-region.ensures
    c.city.ensures c.postal.ensures))
    (readable_place c.args.place.now c.country-country.ensures.form
    (subst IsUtf8 c.country-country.ensures.text c.country-country.utf8)
    (subst IsUtf8 c.region-region.ensures c.region-region.utf8)
    (subst IsUtf8 c.city.ensures c.city.utf8)
    (subst IsUtf8 c.postal.ensures c.postal.utf8))

pub returns-clause-readable : goal.returns-clause-readable
returns-clause-readable c =
    readable_place c.args.place.now c.country-country.ensures.form
    (subst IsUtf8 c.country-country.ensures.text c.country-country.utf8)
    (subst IsUtf8 c.region-region.ensures c.region-region.utf8)
    (subst IsUtf8 c.city.ensures c.city.utf8)
    (subst IsUtf8 c.postal.ensures c.postal.utf8)

pub returns-clause-packed : goal.returns-clause-packed
returns-clause-packed c =
    subst (λ (p : PlaceParts). OnOk c.put_parts.result
    (c.put_parts.new.section ≡ in_full (place_value p) c.args.section.now))
    (parts_are c.args.place.now c.country-country.result.now c.region-region.result.now
    c.city.result.now c.postal.result.now c.country-country.ensures.text c.region-region.ensures
    c.city.ensures c.postal.ensures) c.put_parts.ensures.packed
