-- In what order changed statements are looked for: by their ranges,
-- and then by the rest of what they have but their lines.
use Rattle.std.specs.Prelude.{◌≡◌, ◌&&◌, ◌+◌, ◌-◌, ◌^◌, Bool, true, false, nat_eq}
use Rattle.std.proofs.Common.{refl, sym, ap, ◌∙◌}
use Rattle.std.specs.Cmp.{IsTotalOrder, both_tied, nat_cmp_total, on_total, then_total}
use Rattle.std.specs.Cmp.{unsigned_ties, unsigned_Decides}
use Rattle.std.specs.Cmp.Lexicographic.{nat_list_cmp_total, options_total, texts_ties}
use Rattle.std.specs.Option.{option_cmp}
use Rattle.std.specs.Ordering.{is_eq, nat_cmp, ordering_then}
use Rattle.std.specs.declared.cmp.Ordering.{Ordering}
use Rattle.geo_addr.specs.Ranges.{Ends, Prefix, range_of_block}
use Rattle.geo_terms.specs.DelegationForm.{DelegationParts}
use Rattle.geo_terms.specs.PlaceOrder.{place_cmp, place_ties, place_total}
use Rattle.geo_terms.specs.Precedence.{said_place, text_cmp}
use Rattle.geo_terms.specs.declared.place.Said.{Said}
use Rattle.geo_terms.specs.declared.statement.Entry.{Entry}
use Rattle.geo_terms.specs.declared.statement.Override.{Override}
use Rattle.geo_terms.specs.declared.statement.Reference.{Reference}
use Rattle.geo_terms.specs.declared.place.Said.TheVariants.{Nothing, At}
use Rattle.source_changes.specs.SameStatement.{same_delegation, same_entry, same_override}
use Rattle.source_changes.specs.SameStatement.{same_range, same_reference, same_said}

abbrev pub range_cmp : Ends → Ends → Ordering
range_cmp x y = ordering_then (nat_cmp x.first y.first) (nat_cmp x.last y.last)

-- nothing goes before every place
abbrev pub said_cmp : Said → Said → Ordering
said_cmp x y = option_cmp place_cmp (said_place x) (said_place y)

-- the rest of what statements have, but their lines
unfoldable pub reference_rest : Reference → Reference → Ordering
reference_rest x y =
    ordering_then (nat_cmp x.modified y.modified)
    (ordering_then (text_cmp x.url y.url) (text_cmp x.slot y.slot))

unfoldable pub entry_rest : Entry → Entry → Ordering
entry_rest x y = ordering_then (nat_cmp x.block.len y.block.len) (said_cmp x.said y.said)

unfoldable pub delegation_rest : DelegationParts → DelegationParts → Ordering
delegation_rest x y = ordering_then (place_cmp x.place y.place) (text_cmp x.slot y.slot)

unfoldable pub override_rest : Override → Override → Ordering
override_rest x y = said_cmp x.said y.said

-- by the range, and then by the rest
abbrev pub whole_cmp : {X : Type 0} → (X → Ends) → (X → X → Ordering) → X → X → Ordering
whole_cmp range rest x y = ordering_then (range_cmp (range x) (range y)) (rest x y)

-- two statements are the same where neither goes before the other
abbrev pub DecidesSame : {X : Type 0} → (X → Ends) → (X → X → Bool) → (X → X → Ordering) → Type 0
DecidesSame {X} range same rest = (x y : X) → same x y ≡ is_eq (whole_cmp range rest x y)

-- each of these orders is total
said_total : IsTotalOrder said_cmp
said_total = on_total said_place (options_total place_total)

pub range_total : IsTotalOrder range_cmp
range_total =
    then_total (on_total (λ (r : Ends). r.first) nat_cmp_total)
    (on_total (λ (r : Ends). r.last) nat_cmp_total)

pub reference_rest_total : IsTotalOrder reference_rest
unfolding reference_rest
reference_rest_total =
    then_total (on_total (λ (r : Reference). r.modified) nat_cmp_total)
    (then_total (on_total (λ (r : Reference). r.url) nat_list_cmp_total)
    (on_total (λ (r : Reference). r.slot) nat_list_cmp_total))

pub entry_rest_total : IsTotalOrder entry_rest
unfolding entry_rest
entry_rest_total =
    then_total (on_total (λ (e : Entry). e.block.len) nat_cmp_total)
    (on_total (λ (e : Entry). e.said) said_total)

pub delegation_rest_total : IsTotalOrder delegation_rest
unfolding delegation_rest
delegation_rest_total =
    then_total (on_total (λ (d : DelegationParts). d.place) place_total)
    (on_total (λ (d : DelegationParts). d.slot) nat_list_cmp_total)

pub override_rest_total : IsTotalOrder override_rest
unfolding override_rest
override_rest_total = on_total (λ (o : Override). o.said) said_total

-- two statements tie where they are the same
pub range_ties : (x y : Ends) → same_range x y ≡ is_eq (range_cmp x y)
range_ties x y = both_tied _ _ _ _ (unsigned_ties x.first y.first) (unsigned_ties x.last y.last)

said_ties : (x y : Said) → same_said x y ≡ is_eq (said_cmp x y)
said_ties Nothing Nothing = refl
said_ties Nothing (At q) = refl
said_ties (At p) Nothing = refl
said_ties (At p) (At q) = place_ties p q

pub reference_decides : DecidesSame (λ r. r.range) same_reference reference_rest
unfolding same_reference reference_rest
reference_decides x y =
    both_tied _ _ _ _ (range_ties x.range y.range)
    (both_tied _ _ _ _ (unsigned_ties x.modified y.modified)
    (both_tied _ _ _ _ (texts_ties x.url y.url) (texts_ties x.slot y.slot)))

pub delegation_decides : DecidesSame (λ d. d.range) same_delegation delegation_rest
unfolding same_delegation delegation_rest
delegation_decides x y =
    both_tied _ _ _ _ (range_ties x.range y.range)
    (both_tied _ _ _ _ (place_ties x.place y.place) (texts_ties x.slot y.slot))

pub override_decides : DecidesSame (λ o. o.range) same_override override_rest
unfolding same_override override_rest
override_decides x y = both_tied _ _ _ _ (range_ties x.range y.range) (said_ties x.said y.said)

-- where the first two make the third, it need not be asked
implied : (first last len said : Bool) → (first ≡ true → len ≡ true → last ≡ true)
    → ((first && len) && said) ≡ ((first && last) && (len && said))
implied false last len said so = refl
implied true last true said so = sym (ap (λ b. b && said) (so refl refl))
implied true true false said so = refl
implied true false false said so = refl

same_last : (x y : Prefix) → nat_eq x.first y.first ≡ true → nat_eq x.len y.len ≡ true
    → nat_eq (range_of_block x).last (range_of_block y).last ≡ true
same_last x y first len =
    let first_is : x.first ≡ y.first = (unsigned_Decides x.first y.first).0 first in
    let len_is : x.len ≡ y.len = (unsigned_Decides x.len y.len).0 len in
    (unsigned_Decides (range_of_block x).last (range_of_block y).last).1
    (λ i. first_is i + (2 ^ (128 - len_is i) - 1))

pub entry_decides : DecidesSame (λ e. range_of_block e.block) same_entry entry_rest
unfolding same_entry entry_rest
entry_decides x y =
    implied (nat_eq x.block.first y.block.first)
    (nat_eq (range_of_block x.block).last (range_of_block y.block).last)
    (nat_eq x.block.len y.block.len) (same_said x.said y.said) (same_last x.block y.block)
    ∙ both_tied _ _ _ _ (range_ties (range_of_block x.block) (range_of_block y.block))
    (both_tied _ _ _ _ (unsigned_ties x.block.len y.block.len) (said_ties x.said y.said))
