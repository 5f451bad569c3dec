-- The value that stands for a place in the data section, as readers of city files know it.
use Rattle.std.specs.Prelude.{ℕ, ◌==◌, List, [], ◌∷◌, ◌++◌, codes}
use Rattle.std.specs.List.{after_first}
use Rattle.mmdb_data.specs.ValueTree.{ValueTree, map, list, text, item, no_items}
use Rattle.mmdb_data.specs.View.{members_of}
use Rattle.geo_terms.specs.PlaceForm.{PlaceParts}

-- a map of one member
abbrev pub one : List ℕ → ValueTree → ValueTree
one key value = map (members_of ((key, value) ∷ []))

-- a member, left out where its text is empty
abbrev pub unless_empty : List ℕ → List ℕ → ValueTree → List (List ℕ × ValueTree)
unless_empty [] key value = []
unless_empty (b ∷ bytes) key value = (key, value) ∷ []

-- the part of a region after the dash
unfoldable pub subdivision : List ℕ → List ℕ
subdivision region = after_first (λ b. b == 45) region

abbrev pub city_member : List ℕ → List (List ℕ × ValueTree)
city_member city =
    unless_empty city (codes "city") (one (codes "names") (one (codes "en") (text city)))

abbrev pub country_member : List ℕ → List (List ℕ × ValueTree)
country_member country =
    unless_empty country (codes "country") (one (codes "iso_code") (text country))

abbrev pub postal_member : List ℕ → List (List ℕ × ValueTree)
postal_member postal = unless_empty postal (codes "postal") (one (codes "code") (text postal))

abbrev pub subdivision_list : List ℕ → ValueTree
subdivision_list region = list (item (one (codes "iso_code") (text (subdivision region))) no_items)

abbrev pub region_member : List ℕ → List (List ℕ × ValueTree)
region_member region = unless_empty region (codes "subdivisions") (subdivision_list region)

-- keys ascend by their bytes
unfoldable pub place_value : PlaceParts → ValueTree
place_value place =
    map (members_of (city_member place.city ++ (country_member place.country
    ++ (postal_member place.postal ++ region_member place.region))))
