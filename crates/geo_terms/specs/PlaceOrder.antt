-- Places in an order that one number of each mostly tells.
use Rattle.std.proofs.Common.{ap, sym, ◌∙◌}
use Rattle.std.specs.Prelude.{◌≡◌, true, ◌&&◌, nat_eq}
use Rattle.std.specs.Cmp.{IsTotalOrder, on_total, then_total, both_tied, both_ways, second_so}
use Rattle.std.specs.Cmp.{nat_cmp_total, unsigned_ties, nat_eq_equiv}
use Rattle.std.specs.Cmp.Lexicographic.{slice_cmp, nat_list_cmp_total, texts_ties}
use Rattle.std.specs.Ordering.{nat_cmp, then_cmp, on, eq_by_cmp}
use Rattle.std.specs.declared.cmp.Ordering.{Ordering}
use Rattle.geo_terms.specs.Numbers.{same_place}
use Rattle.geo_terms.specs.PlaceEquality.{same_parts}
use Rattle.geo_terms.specs.PlaceForm.{PlaceParts}
use Rattle.geo_terms.specs.PlaceMarks.{place_rank}

-- by country and region
abbrev pub front_cmp : PlaceParts → PlaceParts → Ordering
front_cmp =
    then_cmp (on (λ p. p.country) (slice_cmp nat_cmp)) (on (λ p. p.region) (slice_cmp nat_cmp))

-- by the four texts
abbrev pub text_cmp : PlaceParts → PlaceParts → Ordering
text_cmp =
    then_cmp (then_cmp front_cmp (on (λ p. p.city) (slice_cmp nat_cmp)))
    (on (λ p. p.postal) (slice_cmp nat_cmp))

-- by one number, and where that is the same by the four texts
abbrev pub place_cmp : PlaceParts → PlaceParts → Ordering
place_cmp = then_cmp (on place_rank nat_cmp) text_cmp

text_total : IsTotalOrder text_cmp
text_total =
    then_total (then_total (then_total (on_total (λ (p : PlaceParts). p.country) nat_list_cmp_total)
    (on_total (λ (p : PlaceParts). p.region) nat_list_cmp_total))
    (on_total (λ (p : PlaceParts). p.city) nat_list_cmp_total))
    (on_total (λ (p : PlaceParts). p.postal) nat_list_cmp_total)

pub place_total : IsTotalOrder place_cmp
place_total = then_total (on_total place_rank nat_cmp_total) text_total

pub text_ties : (x y : PlaceParts) → same_place x y ≡ eq_by_cmp text_cmp x y
text_ties x y =
    both_tied _ _ _ _ (both_tied _ _ _ _ (both_tied _ _ _ _ (texts_ties x.country y.country)
    (texts_ties x.region y.region)) (texts_ties x.city y.city)) (texts_ties x.postal y.postal)

-- the same places have one number
alike_in_rank : (x y : PlaceParts) → same_place x y ≡ true
    → nat_eq (place_rank x) (place_rank y) ≡ true
alike_in_rank x y same =
    sym (ap (λ (z : PlaceParts). nat_eq (place_rank x) (place_rank z)) (same_parts x y same))
    ∙ nat_eq_equiv.refl (place_rank x)

pub place_ties : (x y : PlaceParts) → same_place x y ≡ eq_by_cmp place_cmp x y
place_ties x y =
    both_ways (same_place x y) (nat_eq (place_rank x) (place_rank y) && same_place x y)
    (λ same. ap (λ b. b && same_place x y) (alike_in_rank x y same) ∙ same)
    (second_so (nat_eq (place_rank x) (place_rank y)) (same_place x y))
    ∙ both_tied _ _ _ _ (unsigned_ties (place_rank x) (place_rank y)) (text_ties x y)
