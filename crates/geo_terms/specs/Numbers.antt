-- The numbers of places: the first place has number 1, and each new one the next.
use Rattle.std.specs.Prelude.{◌≡◌, ◌↔◌, IsTrue, Some, ℕ, zero, suc, ◌+◌, Bool, ◌&&◌, List, [], ◌∷◌}
use Rattle.std.specs.Prelude.{◌++◌, slice_get, position, Option, None, option_map, if◌then◌else◌}
use Rattle.std.specs.List.{list_any}
use Rattle.geo_terms.specs.PlaceForm.{PlaceParts, same_text}

abbrev pub same_place : PlaceParts → PlaceParts → Bool
same_place x y =
    same_text x.country y.country && same_text x.region y.region && same_text x.city y.city
    && same_text x.postal y.postal

-- the number of a place in a list of places
abbrev pub number_of : List PlaceParts → PlaceParts → Option ℕ
number_of places p = option_map (λ i. i + 1) (position (same_place p) places)

-- the place of a number
abbrev pub place_at : List PlaceParts → ℕ → Option PlaceParts
place_at places zero = None
place_at places (suc i) = slice_get places i

-- the list with a place in it: it goes last where it is new
abbrev pub with_place : List PlaceParts → PlaceParts → List PlaceParts
with_place places p = if list_any (same_place p) places then places else places ++ p ∷ []

-- the test of places decides their equality
abbrev pub PlacesAreToldApart : Type 0
PlacesAreToldApart = (x y : PlaceParts) → IsTrue (same_place x y) ↔ (x ≡ y)

-- the number of a place leads back to it, so two places have two numbers
abbrev pub NumbersNamePlaces : Type 0
NumbersNamePlaces =
    (places : List PlaceParts) (p : PlaceParts) (n : ℕ) → number_of places p ≡ Some n
    → place_at places n ≡ Some p

-- one more place changes no number
abbrev pub NumbersStay : Type 0
NumbersStay =
    (places : List PlaceParts) (p more : PlaceParts) (n : ℕ) → number_of places p ≡ Some n
    → number_of (with_place places more) p ≡ Some n
