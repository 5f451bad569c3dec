use Rattle.std.proofs.Common.{length, sym, ap, subst, arith}
use Rattle.mmdb_data.specs.ValueTree.{CanBeReadBack}
use Rattle.mmdb_file.proofs.PlaceLemmas.{readable, short_country, short_region, short_city}
use Rattle.mmdb_file.proofs.PlaceLemmas.{short_postal}
use Rattle.mmdb_file.proofs.place.place_value.Goals as goal

pub returns-clause-readable : goal.returns-clause-readable
returns-clause-readable c =
    let form = c.country-country.ensures.form in
    subst CanBeReadBack (sym c.in_ok-value.ensures)
    (readable _ (record {
      country = (
        c.country-country.utf8,
        omega (arith, ap length c.country-country.ensures.text, short_country _ form),
      );
      region = (
        c.region-region.utf8,
        omega (arith, ap length c.region-region.ensures, short_region _ form),
      );
      city = (c.city.utf8, omega (arith, ap length c.city.ensures, short_city _ form));
      postal = (c.postal.utf8, omega (arith, ap length c.postal.ensures, short_postal _ form));
    }))
