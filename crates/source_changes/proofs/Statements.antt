-- Two statements are the same where they are equal but for their lines.
use Rattle.std.proofs.Common.{◌≡◌, ℕ, true, false, ◌&&◌, List, nat_eq, refl, sym, ap, subst}
use Rattle.std.specs.Cmp.{unsigned_Decides}
use Rattle.std.specs.Cmp.Lexicographic.{bytes_decides}
use Rattle.std.proofs.lemmas.Bool.{and_from, and_parts}
use Rattle.geo_addr.specs.Ranges.{Ends, Prefix}
use Rattle.geo_terms.specs.DelegationForm.{DelegationParts}
use Rattle.geo_terms.specs.Numbers.{same_place}
use Rattle.geo_terms.specs.PlaceForm.{same_text}
use Rattle.geo_terms.proofs.NumberLemmas.{places_are_told_apart}
use Rattle.geo_terms.specs.declared.place.Said.{Said}
use Rattle.geo_terms.specs.declared.place.Said.TheVariants.{Nothing, At}
use Rattle.geo_terms.specs.declared.statement.Entry.{Entry}
use Rattle.geo_terms.specs.declared.statement.Override.{Override}
use Rattle.geo_terms.specs.declared.statement.Reference.{Reference}
use Rattle.source_changes.specs.Laws.{LinesDoNotCount}
use Rattle.source_changes.specs.SameStatement.{same_block, same_delegation, same_entry}
use Rattle.source_changes.specs.SameStatement.{same_override, same_range, same_reference, same_said}

number_is : (m n : ℕ) → nat_eq m n ≡ true → m ≡ n
number_is m n e = (unsigned_Decides m n).0 e

text_is : (m n : List ℕ) → same_text m n ≡ true → m ≡ n
text_is m n e = (bytes_decides m n).0 e

number_itself : (n : ℕ) → nat_eq n n ≡ true
number_itself n = (unsigned_Decides n n).1 refl

text_itself : (n : List ℕ) → same_text n n ≡ true
text_itself n = (bytes_decides n n).1 refl

pub range_is : (x y : Ends) → same_range x y ≡ true → x ≡ y
range_is x y e =
    let parts = and_parts (nat_eq x.first y.first) (nat_eq x.last y.last) e in
    let first : x.first ≡ y.first = number_is x.first y.first parts.0 in
    let last : x.last ≡ y.last = number_is x.last y.last parts.1 in
    λ i. record { first = first i; last = last i }

range_itself : (x : Ends) → same_range x x ≡ true
range_itself x =
    and_from (nat_eq x.first x.first) (nat_eq x.last x.last) (number_itself x.first)
    (number_itself x.last)

block_is : (x y : Prefix) → same_block x y ≡ true → x ≡ y
block_is x y e =
    let parts = and_parts (nat_eq x.first y.first) (nat_eq x.len y.len) e in
    let first : x.first ≡ y.first = number_is x.first y.first parts.0 in
    let len : x.len ≡ y.len = number_is x.len y.len parts.1 in
    λ i. record { first = first i; len = len i }

block_itself : (x : Prefix) → same_block x x ≡ true
block_itself x =
    and_from (nat_eq x.first x.first) (nat_eq x.len x.len) (number_itself x.first)
    (number_itself x.len)

said_is : (x y : Said) → same_said x y ≡ true → x ≡ y
said_is Nothing Nothing e = refl
said_is Nothing (At q) e = absurd (let f : false ≡ true = e in cc)
said_is (At p) Nothing e = absurd (let f : false ≡ true = e in cc)
said_is (At p) (At q) e = ap At ((places_are_told_apart p q).0 e)

said_itself : (x : Said) → same_said x x ≡ true
said_itself Nothing = refl
said_itself (At p) = (places_are_told_apart p p).1 refl

reference_is : (x y : Reference) → same_reference x y ≡ true → record x { line = y.line } ≡ y
unfolding same_reference
reference_is x y e =
    let a = and_parts (same_range x.range y.range)
    (nat_eq x.modified y.modified && (same_text x.url y.url && same_text x.slot y.slot)) e in
    let b = and_parts (nat_eq x.modified y.modified)
    (same_text x.url y.url && same_text x.slot y.slot) a.1 in
    let c = and_parts (same_text x.url y.url) (same_text x.slot y.slot) b.1 in
    let range : x.range ≡ y.range = range_is x.range y.range a.0 in
    let modified : x.modified ≡ y.modified = number_is x.modified y.modified b.0 in
    let url : x.url ≡ y.url = text_is x.url y.url c.0 in
    let slot : x.slot ≡ y.slot = text_is x.slot y.slot c.1 in
    λ i. record {
      slot = slot i;
      line = y.line;
      range = range i;
      modified = modified i;
      url = url i;
    }

reference_itself : (x : Reference) → same_reference x x ≡ true
unfolding same_reference
reference_itself x =
    and_from _ _ (range_itself x.range) (and_from _ _ (number_itself x.modified)
    (and_from _ _ (text_itself x.url) (text_itself x.slot)))

reference_same : (x y : Reference) → record x { line = y.line } ≡ y → same_reference x y ≡ true
unfolding same_reference
reference_same x y e =
    subst (λ (z : Reference). same_reference z y ≡ true) (sym e) (reference_itself y)

entry_is : (x y : Entry) → same_entry x y ≡ true → record x { line = y.line } ≡ y
unfolding same_entry
entry_is x y e =
    let a = and_parts (same_block x.block y.block) (same_said x.said y.said) e in
    let block : x.block ≡ y.block = block_is x.block y.block a.0 in
    let said : x.said ≡ y.said = said_is x.said y.said a.1 in
    λ i. record { line = y.line; block = block i; said = said i }

entry_itself : (x : Entry) → same_entry x x ≡ true
unfolding same_entry
entry_itself x = and_from _ _ (block_itself x.block) (said_itself x.said)

entry_same : (x y : Entry) → record x { line = y.line } ≡ y → same_entry x y ≡ true
unfolding same_entry
entry_same x y e = subst (λ (z : Entry). same_entry z y ≡ true) (sym e) (entry_itself y)

delegation_is : (x y : DelegationParts) → same_delegation x y ≡ true
    → record x { line = y.line } ≡ y
unfolding same_delegation
delegation_is x y e =
    let a = and_parts (same_range x.range y.range)
    (same_place x.place y.place && same_text x.slot y.slot) e in
    let b = and_parts (same_place x.place y.place) (same_text x.slot y.slot) a.1 in
    let range : x.range ≡ y.range = range_is x.range y.range a.0 in
    let place : x.place ≡ y.place = (places_are_told_apart x.place y.place).0 b.0 in
    let slot : x.slot ≡ y.slot = text_is x.slot y.slot b.1 in
    λ i. record { slot = slot i; line = y.line; range = range i; place = place i }

delegation_itself : (x : DelegationParts) → same_delegation x x ≡ true
unfolding same_delegation
delegation_itself x =
    and_from _ _ (range_itself x.range)
    (and_from _ _ ((places_are_told_apart x.place x.place).1 refl) (text_itself x.slot))

delegation_same : (x y : DelegationParts) → record x { line = y.line } ≡ y
    → same_delegation x y ≡ true
unfolding same_delegation
delegation_same x y e =
    subst (λ (z : DelegationParts). same_delegation z y ≡ true) (sym e) (delegation_itself y)

override_is : (x y : Override) → same_override x y ≡ true → record x { line = y.line } ≡ y
unfolding same_override
override_is x y e =
    let a = and_parts (same_range x.range y.range) (same_said x.said y.said) e in
    let range : x.range ≡ y.range = range_is x.range y.range a.0 in
    let said : x.said ≡ y.said = said_is x.said y.said a.1 in
    λ i. record { line = y.line; range = range i; said = said i }

override_itself : (x : Override) → same_override x x ≡ true
unfolding same_override
override_itself x = and_from _ _ (range_itself x.range) (said_itself x.said)

override_same : (x y : Override) → record x { line = y.line } ≡ y → same_override x y ≡ true
unfolding same_override
override_same x y e = subst (λ (z : Override). same_override z y ≡ true) (sym e) (override_itself y)

pub lines_do_not_count : LinesDoNotCount
lines_do_not_count = record {
  references = λ x y. (reference_is x y, reference_same x y);
  entries = λ x y. (entry_is x y, entry_same x y);
  delegations = λ x y. (delegation_is x y, delegation_same x y);
  overrides = λ x y. (override_is x y, override_same x y);
}
