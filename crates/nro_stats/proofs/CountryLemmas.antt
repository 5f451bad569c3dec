-- A country that is named is not empty, so its place has a country and nothing else.
use Rattle.std.proofs.Common.{◌≡◌, ℕ, Bool, true, false, cond, List, [], ◌∷◌, Some, None, sym, ap}
use Rattle.std.proofs.Common.{◌∙◌}
use Rattle.geo_terms.specs.DelegationForm.{IsCountryAlone}
use Rattle.geo_terms.specs.PlaceForm.{PlaceParts, country_place, names_country, place_of_country}

pub country_alone : (country : List ℕ) (p : PlaceParts) → Some p ≡ place_of_country country
    → IsCountryAlone p
unfolding place_of_country
country_alone [] p e = absurd (let f : Some p ≡ None = e in cc)
country_alone (a ∷ rest) p e =
    let one : (b : Bool) → Some p ≡ cond b (Some (country_place (a ∷ rest))) None
    → p ≡ country_place (a ∷ rest) =
    λ b. elim b as (λ t. Some p ≡ cond t (Some (country_place (a ∷ rest))) None
    → p ≡ country_place (a ∷ rest)) [ true ↦ λ h. cc | false ↦ λ h. absurd cc ] in
    let is = one (names_country (a ∷ rest)) e in
    record {
      country = λ h. let f = sym (ap (λ q. q.country) is) ∙ h in cc;
      region = ap (λ q. q.region) is;
      city = ap (λ q. q.city) is;
      postal = ap (λ q. q.postal) is;
    }
