-- Places are equal where their four texts are.
use Rattle.std.specs.Prelude.{◌≡◌, true, ◌&&◌}
use Rattle.std.specs.Cmp.{IsEquivalence, and_equiv, on_equiv, first_so, second_so}
use Rattle.std.specs.Cmp.Lexicographic.{bytes_decides, nat_list_eq_equiv}
use Rattle.geo_terms.specs.PlaceForm.{PlaceParts, same_text}
use Rattle.geo_terms.specs.Numbers.{same_place}

abbrev pub place_equiv : IsEquivalence same_place
place_equiv =
    and_equiv (and_equiv (and_equiv (on_equiv (λ (p : PlaceParts). p.country) nat_list_eq_equiv)
    (on_equiv (λ (p : PlaceParts). p.region) nat_list_eq_equiv))
    (on_equiv (λ (p : PlaceParts). p.city) nat_list_eq_equiv))
    (on_equiv (λ (p : PlaceParts). p.postal) nat_list_eq_equiv)

-- places with the same texts are the same
pub same_parts : (x y : PlaceParts) → same_place x y ≡ true → x ≡ y
same_parts x y h =
    let three = first_so (same_text x.country y.country && same_text x.region y.region
    && same_text x.city y.city) (same_text x.postal y.postal) h in
    let two = first_so (same_text x.country y.country && same_text x.region y.region)
    (same_text x.city y.city) three in
    let country = (bytes_decides x.country y.country).0
    (first_so (same_text x.country y.country) (same_text x.region y.region) two) in
    let region = (bytes_decides x.region y.region).0
    (second_so (same_text x.country y.country) (same_text x.region y.region) two) in
    let city = (bytes_decides x.city y.city).0
    (second_so (same_text x.country y.country && same_text x.region y.region)
    (same_text x.city y.city) three) in
    let postal = (bytes_decides x.postal y.postal).0
    (second_so (same_text x.country y.country && same_text x.region y.region
    && same_text x.city y.city) (same_text x.postal y.postal) h) in
    λ i. record { country = country i; region = region i; city = city i; postal = postal i }
