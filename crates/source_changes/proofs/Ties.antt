-- In each order of precedence: what is alike of two statements that hold one address and tie but
-- for slots and lines.
use Rattle.std.proofs.Common.{◌≡◌, ◌≢◌, ◌⊎◌, ℕ, suc, ◌+◌, ◌-◌, ◌*◌, ◌/◌, ◌%◌, ◌^◌, ◌<◌, ◌≤◌, true}
use Rattle.std.proofs.Common.{false, cond, max, ltb, leb, List, [], ◌∷◌, inl, inr, Ordering, Less}
use Rattle.std.proofs.Common.{Equal, Greater, refl, sym, ap, ◌∙◌, is_lt, is_eq, arith, pow_pos}
use Rattle.std.proofs.Common.{leb-true}
use Rattle.std.specs.Cmp.{unsigned_Decides, unsigned_ties}
use Rattle.std.specs.Cmp.Lexicographic.{bytes_decides, texts_ties}
use Rattle.std.specs.List.{AllByRecursion, AllPairs}
use Rattle.std.specs.Ordering.{nat_cmp, ordering_then}
use Rattle.std.proofs.Math.Nat.{mul-le-mul_left}
use Rattle.std.proofs.lemmas.Bool.{and_parts, cases_order}
use Rattle.std.proofs.lemmas.List.Elements.{recursion_from_All}
use Rattle.geo_addr.specs.Ranges.{Ends, IsBlock, Prefix, ground_first, holds, range_of_block, size}
use Rattle.geo_terms.specs.DelegationForm.{DelegationParts, IsCountryAlone}
use Rattle.geo_terms.specs.PlaceForm.{PlaceParts}
use Rattle.geo_terms.specs.Precedence.{delegation_cmp, entry_cmp, override_cmp, reference_cmp}
use Rattle.geo_terms.specs.Precedence.{text_cmp}
use Rattle.geo_terms.specs.declared.statement.Entry.{Entry}
use Rattle.geo_terms.specs.declared.statement.Override.{Override}
use Rattle.geo_terms.specs.declared.statement.Reference.{Reference}
use Rattle.geo_terms.proofs.Members.{Among, all_among}
use Rattle.source_changes.proofs.Views.{pointed}

-- what is less before slots and lines are asked is less
lt_then : (a b c : Ordering) → (is_lt b ≡ true → is_lt c ≡ true) → is_lt (ordering_then a b) ≡ true
    → is_lt (ordering_then a c) ≡ true
lt_then Less b c f h = refl
lt_then Equal b c f h = f h
lt_then Greater b c f h = h

equal_parts : (a b : Ordering) → ordering_then a b ≡ Equal → (a ≡ Equal) × (b ≡ Equal)
equal_parts Less b h = absurd (let e : Ordering.Less ≡ Ordering.Equal = h in cc)
equal_parts Equal b h = (refl, h)
equal_parts Greater b h = absurd (let e : Ordering.Greater ≡ Ordering.Equal = h in cc)

number_is : (m n : ℕ) → nat_cmp m n ≡ Equal → m ≡ n
number_is m n e = (unsigned_Decides m n).0 (unsigned_ties m n ∙ ap is_eq e)

text_is : (m n : List ℕ) → text_cmp m n ≡ Equal → m ≡ n
text_is m n e = (bytes_decides m n).0 (texts_ties m n ∙ ap is_eq e)

-- an address that a range holds lies between its ends
first_le : (r : Ends) → r.first ≤ ground_first r
unfolding ground_first
first_le r = elim (ltb r.last (2 ^ 32)) as (λ b. r.first ≤ cond b r.first (max r.first (2 ^ 32))) [
  | true ↦ omega arith
  | false ↦ omega arith
]

pub held_within : (r : Ends) (a : ℕ) → holds r a ≡ true → (r.first ≤ a) × (a ≤ r.last)
unfolding holds
held_within r a h =
    let parts = and_parts (leb (ground_first r) a) (leb a r.last) h in
    let from : ground_first r ≤ a = leb-true (ground_first r) a parts.0 in
    let le : r.first ≤ ground_first r = first_le r in
    (omega arith, leb-true a r.last parts.1)

-- ranges that hold one address and have one size and one first address are one range
range_is : (x y : Ends) (a : ℕ) → holds x a ≡ true → holds y a ≡ true → size x ≡ size y
    → x.first ≡ y.first → x ≡ y
range_is x y a h k sizes first =
    let p = held_within x a h in
    let q = held_within y a k in
    let last : x.last ≡ y.last = omega (arith, p.0, p.1, q.0, q.1) in
    λ i. record { first = first i; last = last i }

-- multiples of one number so close to an address are one multiple
one_multiple : (n q p a : ℕ) → n * q ≤ a → a < n * q + n → n * p ≤ a → a < n * p + n → q ≡ p
one_multiple n q p a low high low' high' = by (cases_order q p)
  where
    by : (q ≡ p) ⊎ ((q < p) ⊎ (p < q)) → q ≡ p
    by (inl e) = e
    by (inr (inl lt)) =
        let le : n * (q + 1) ≤ n * p = mul-le-mul_left n (omega arith) in
        absurd (omega arith)
    by (inr (inr lt)) =
        let le : n * (p + 1) ≤ n * q = mul-le-mul_left n (omega arith) in
        absurd (omega arith)

first_is : (n x y a : ℕ) → 0 < n → x % n ≡ 0 → y % n ≡ 0 → x ≤ a → a ≤ x + (n - 1) → y ≤ a
    → a ≤ y + (n - 1) → x ≡ y
first_is n x y a some x_even y_even x_low x_high y_low y_high =
    let x_is : n * (x / n) ≡ x = omega arith in
    let y_is : n * (y / n) ≡ y = omega arith in
    let same : x / n ≡ y / n =
    one_multiple n (x / n) (y / n) a (omega arith) (omega arith) (omega arith) (omega arith) in
    sym x_is ∙ ap (λ k. n * k) same ∙ y_is

-- blocks of one length that hold one address are one block
block_is : (x y : Prefix) (a : ℕ) → IsBlock x → IsBlock y → holds (range_of_block x) a ≡ true
    → holds (range_of_block y) a ≡ true → x.len ≡ y.len → x ≡ y
block_is x y a hx hy h k len =
    let p = held_within (range_of_block x) a h in
    let q = held_within (range_of_block y) a k in
    let sizes : 2 ^ (128 - y.len) ≡ 2 ^ (128 - x.len) = ap (λ l. 2 ^ (128 - l)) (sym len) in
    let even : y.first % 2 ^ (128 - x.len) ≡ 0 = ap (λ n. y.first % n) (sym sizes) ∙ hy.aligned in
    let high : a ≤ y.first + (2 ^ (128 - x.len) - 1) = omega (arith, q.1, sizes) in
    let first : x.first ≡ y.first = first_is (2 ^ (128 - x.len)) x.first y.first a
    (pow_pos (128 - x.len)) hx.aligned even p.0 p.1 q.0 high in
    λ i. record { first = first i; len = len i }

-- members that are told apart by something are one member where they have it in common
pub same_member : {X K : Type 0} (f : X → K) (xs : List X) → AllPairs (λ x y. f x ≢ f y) xs
    → (y z : X) → Among y xs → Among z xs → f y ≡ f z → y ≡ z
same_member f [] apart y z y_is z_is e = absurd y_is
same_member {X} f (x ∷ xs) apart y z y_is z_is e =
    by (λ h k. same_member f xs
    (λ i j d lt below. apart (suc i) (suc j) d (omega arith) (omega arith)) y z h k e) y_is z_is
  where
    head : AllByRecursion (λ w. f x ≢ f w) xs
    head =
        recursion_from_All (λ w. f x ≢ f w) xs
        (λ k d below. apart 0 (suc k) d (omega arith) (omega arith))

    by : (Among y xs → Among z xs → y ≡ z) → Among y (x ∷ xs) → Among z (x ∷ xs) → y ≡ z
    by rest (inl h) (inl k) = sym h ∙ k
    by rest (inl h) (inr k) = absurd (all_among (λ w. f x ≢ f w) z xs head k (ap f h ∙ e))
    by rest (inr h) (inl k) = absurd (all_among (λ w. f x ≢ f w) y xs head h (ap f k ∙ sym e))
    by rest (inr h) (inr k) = rest h k

-- references, with neither slot nor line
abbrev pub bare_reference : Reference → Reference
bare_reference r = record r { slot = []; line = 0 }

pub reference_finer : (x y : Reference)
    → is_lt (reference_cmp (bare_reference x) (bare_reference y)) ≡ true
    → is_lt (reference_cmp x y) ≡ true
unfolding reference_cmp
reference_finer x y h =
    lt_then (nat_cmp (size x.range) (size y.range)) _ _
    (lt_then (nat_cmp y.modified x.modified) _ _
    (lt_then (nat_cmp x.range.first y.range.first) _ _
    (lt_then (text_cmp x.url y.url) Equal _ (λ no. absurd (let e : false ≡ true = no in cc))))) h

pub reference_tied : (a : ℕ) (x y : Reference) → holds x.range a ≡ true → holds y.range a ≡ true
    → reference_cmp (bare_reference x) (bare_reference y) ≡ Equal → pointed x ≡ pointed y
unfolding reference_cmp
reference_tied a x y h k tie =
    let by_size = equal_parts (nat_cmp (size x.range) (size y.range)) _ tie in
    let by_time = equal_parts (nat_cmp y.modified x.modified) _ by_size.1 in
    let by_first = equal_parts (nat_cmp x.range.first y.range.first) _ by_time.1 in
    let by_url = equal_parts (text_cmp x.url y.url) _ by_first.1 in
    let range : x.range ≡ y.range =
    range_is x.range y.range a h k (number_is (size x.range) (size y.range) by_size.0)
    (number_is x.range.first y.range.first by_first.0) in
    let url : x.url ≡ y.url = text_is x.url y.url by_url.0 in
    λ i. (url i, range i)

-- delegations, with neither slot nor line
abbrev pub bare_delegation : DelegationParts → DelegationParts
bare_delegation d = record d { slot = []; line = 0 }

pub delegation_finer : (x y : DelegationParts)
    → is_lt (delegation_cmp (bare_delegation x) (bare_delegation y)) ≡ true
    → is_lt (delegation_cmp x y) ≡ true
unfolding delegation_cmp
delegation_finer x y h =
    lt_then (nat_cmp (size x.range) (size y.range)) _ _
    (lt_then (nat_cmp x.range.first y.range.first) _ _
    (lt_then (text_cmp x.place.country y.place.country) Equal _
    (λ no. absurd (let e : false ≡ true = no in cc)))) h

country_is : (p q : PlaceParts) → IsCountryAlone p → IsCountryAlone q
    → p.country ≡ q.country → p ≡ q
country_is p q h k country =
    let region : p.region ≡ q.region = h.region ∙ sym k.region in
    let city : p.city ≡ q.city = h.city ∙ sym k.city in
    let postal : p.postal ≡ q.postal = h.postal ∙ sym k.postal in
    λ i. record { country = country i; region = region i; city = city i; postal = postal i }

pub delegation_tied : (x y : DelegationParts) → IsCountryAlone x.place → IsCountryAlone y.place
    → delegation_cmp (bare_delegation x) (bare_delegation y) ≡ Equal → x.place ≡ y.place
unfolding delegation_cmp
delegation_tied x y h k tie =
    let by_size = equal_parts (nat_cmp (size x.range) (size y.range)) _ tie in
    let by_first = equal_parts (nat_cmp x.range.first y.range.first) _ by_size.1 in
    let by_country = equal_parts (text_cmp x.place.country y.place.country) _ by_first.1 in
    country_is x.place y.place h k (text_is x.place.country y.place.country by_country.0)

-- overrides and entries, of which the order reads neither
abbrev pub bare_override : Override → Override
bare_override o = record o { line = 0 }

pub override_finer : (x y : Override)
    → is_lt (override_cmp (bare_override x) (bare_override y)) ≡ true
    → is_lt (override_cmp x y) ≡ true
unfolding override_cmp
override_finer x y h = h

pub override_tied : (a : ℕ) (x y : Override) → holds x.range a ≡ true → holds y.range a ≡ true
    → override_cmp (bare_override x) (bare_override y) ≡ Equal → x.range ≡ y.range
unfolding override_cmp
override_tied a x y h k tie =
    let parts = equal_parts (nat_cmp (size x.range) (size y.range)) _ tie in
    range_is x.range y.range a h k (number_is (size x.range) (size y.range) parts.0)
    (number_is x.range.first y.range.first parts.1)

abbrev pub bare_entry : Entry → Entry
bare_entry e = record e { line = 0 }

pub entry_finer : (x y : Entry) → is_lt (entry_cmp (bare_entry x) (bare_entry y)) ≡ true
    → is_lt (entry_cmp x y) ≡ true
unfolding entry_cmp
entry_finer x y h = h

pub entry_tied : (a : ℕ) (x y : Entry) → IsBlock x.block → IsBlock y.block
    → holds (range_of_block x.block) a ≡ true → holds (range_of_block y.block) a ≡ true
    → entry_cmp (bare_entry x) (bare_entry y) ≡ Equal → x.block ≡ y.block
unfolding entry_cmp
entry_tied a x y hx hy h k tie =
    block_is x.block y.block a hx hy h k (sym (number_is y.block.len x.block.len tie))
