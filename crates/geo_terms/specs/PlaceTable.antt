-- How the numbers of places are found: at two slots of a place, or in an ordered map.
use Rattle.std.specs.Prelude.{◌≡◌, ◌≢◌, ◌⊎◌, ℕ, zero, suc, ◌+◌, ◌-◌, ◌%◌, ◌<◌, cond, List, [], ◌∷◌}
use Rattle.std.specs.Prelude.{length, get_or, slice_get, set, Option, Some, None}
use Rattle.std.specs.BTreeMap.{BTreeMap, get}
use Rattle.geo_terms.specs.Numbers.{number_of, same_place}
use Rattle.geo_terms.specs.PlaceForm.{PlaceParts}
use Rattle.geo_terms.specs.PlaceMarks.{place_mark}
use Rattle.geo_terms.specs.PlaceOrder.{place_cmp}

-- the first of the two slots of a place, of so many slots; the second is the next one
unfoldable pub first_slot : PlaceParts → ℕ → ℕ
first_slot p len = place_mark p % (len - 1)

abbrev pub slots_of : PlaceParts → ℕ → List ℕ
slots_of p len = first_slot p len ∷ (first_slot p len + 1) ∷ []

-- what a place that has a number says of p, where it is not another
abbrev pub said_or : PlaceParts → ℕ → Option PlaceParts → Option ℕ → Option ℕ
said_or p number None rest = rest
said_or p number (Some q) rest = cond (same_place p q) (Some number) rest

-- what a slot says: 0 that no place with this slot has come, and a number to look at its place
-- first
abbrev pub said : List PlaceParts → PlaceParts → ℕ → Option ℕ → Option ℕ
said places p zero rest = None
said places p (suc k) rest = said_or p (suc k) (slice_get places k) rest

-- what the slots say one after the other, and then the others
abbrev pub look : List PlaceParts → List ℕ → Option ℕ → PlaceParts → List ℕ → Option ℕ
look places slots other p [] = other
look places slots other p (s ∷ ss) =
    said places p (get_or slots s 0) (look places slots other p ss)

-- the slots and the others lead to each place
pub record IsTable (places : List PlaceParts) (slots : List ℕ) (others : BTreeMap PlaceParts ℕ)
    : Type 0 where
  pub some : 0 < length slots → 1 < length slots
  pub within : (s k : ℕ) → get_or slots s 0 ≡ suc k → k < length places
  pub of : (p : PlaceParts) (n : ℕ) → get place_cmp others p ≡ Some n
      → number_of places p ≡ Some n
  pub finds : (p : PlaceParts) → look places slots (get place_cmp others p) p
      (slots_of p (length slots)) ≡ number_of places p

-- a place with its number went to the others
abbrev pub IsOther : PlaceParts → ℕ → BTreeMap PlaceParts ℕ → BTreeMap PlaceParts ℕ → Type 0
IsOther p n old new = (q : PlaceParts) → get place_cmp new q
    ≡ cond (same_place p q) (Some n) (get place_cmp old q)

-- the number went to the first free one of these slots, or the place to the others
abbrev pub IsPut : List ℕ → List ℕ → BTreeMap PlaceParts ℕ → BTreeMap PlaceParts ℕ → ℕ
    → PlaceParts → List ℕ → Type 0
IsPut slots slots' others others' n p [] = (slots' ≡ slots) × IsOther p n others others'
IsPut slots slots' others others' n p (s ∷ ss) =
    ((get_or slots s 0 ≡ 0) × (s < length slots) × (slots' ≡ set slots s n)
    × ((q : PlaceParts) → get place_cmp others' q ≡ get place_cmp others q))
    ⊎ ((get_or slots s 0 ≢ 0) × IsPut slots slots' others others' n p ss)
