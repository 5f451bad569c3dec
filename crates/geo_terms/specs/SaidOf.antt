-- What four fields of a line say.
use Rattle.std.specs.Prelude.{ℕ, not, List, Result, Ok, Err, if◌then◌else◌}
use Rattle.geo_terms.specs.PlaceForm.{PlaceParts, country_fits, region_fits, lengths_fit, parts_of}
use Rattle.geo_terms.specs.PlaceForm.{says_nothing}
use Rattle.geo_terms.specs.declared.place.PlaceFault.{PlaceFault}
use Rattle.geo_terms.specs.declared.place.PlaceFault.TheVariants.{Country, Region, TooLong}
use Rattle.geo_terms.specs.declared.place.Said.{Said}
use Rattle.geo_terms.specs.declared.place.Said.TheVariants.{Nothing, At}

-- texts that say nothing are no place
abbrev pub said_by : PlaceParts → Said
said_by p = if says_nothing p then Nothing else At p

-- what four trimmed fields say, or the first of their faults
unfoldable pub said_of : (country region city postal : List ℕ) → Result Said PlaceFault
said_of country region city postal =
    if not (country_fits country) then Err Country
    else (if not (region_fits region) then Err Region
    else (if not (lengths_fit city postal) then Err TooLong
    else Ok (said_by (parts_of country region city postal))))
