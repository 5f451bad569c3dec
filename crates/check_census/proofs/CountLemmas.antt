-- Counts that stand in order are told by how many addresses each country has.
use Rattle.std.proofs.Common.{◌≡◌, ℕ, zero, suc, ◌+◌, ◌^◌, ◌<◌, ◌≤◌, Bool, true, false, cond, not}
use Rattle.std.proofs.Common.{◌&&◌, eqb, ltb, Less, Equal, Greater, List, [], ◌∷◌, length, get_or}
use Rattle.std.proofs.Common.{set, slice_get, Option, Some, None, Ordering, Ok, Err, refl, sym, ap}
use Rattle.std.proofs.Common.{ap₂, subst, ◌∙◌, arith}
use Rattle.std.specs.List.{AllByRecursion, insert}
use Rattle.std.specs.List.Sorted.{IsBinarySearchResult}
use Rattle.std.specs.Prelude.{option_map}
use Rattle.std.specs.Cmp.Lexicographic.{texts_ties}
use Rattle.std.specs.Ordering.{is_eq, match_ordering, ordering_reverse}
use Rattle.std.proofs.lemmas.Bool.{eqb-true, eqb-false}
use Rattle.std.proofs.lemmas.Cmp.{nat_list_cmp_total, tied_itself}
use Rattle.std.proofs.lemmas.Map.Lookups.{exact_bytes}
use Rattle.geo_terms.specs.PlaceForm.{PlaceParts, same_text}
use Rattle.geo_terms.specs.Precedence.{text_cmp}
use Rattle.geo_terms.specs.SlotOrder.{AreInOrder, placed}
use Rattle.geo_terms.specs.Numbers.{place_at}
use Rattle.geo_terms.proofs.SlotLemmas.{Ascend, ascend, found_by_search, none_by_search}
use Rattle.geo_terms.proofs.SlotLemmas.{placed_in_order, put_between, put_over}
use Rattle.check_census.specs.Census.{count_of, v4_in, v6_in, added, with_address, counts_below}
use Rattle.check_census.specs.Census.{country_of}
use Rattle.check_census.specs.Counts.{with_country, counts_of, is_text, has_country}
use Rattle.check_census.specs.Spread.{ended_at, every}
use Rattle.check_census.specs.Tally.{sum_upto, count_below}
use Rattle.check_census.specs.declared.count.Count.{Count}
use Rattle.check_census.proofs.SpreadLemmas.{sum_upto-le, sum_upto-rises}

-- texts that pass the test are one text
pub text_from_same : (x y : List ℕ) → same_text x y ≡ true → x ≡ y
text_from_same x y e = by (text_cmp x y) refl
  where
    by : (o : Ordering) → text_cmp x y ≡ o → x ≡ y
    by Less is = absurd (let f : false ≡ true = sym (texts_ties x y ∙ ap is_eq is) ∙ e in cc)
    by Equal is = exact_bytes x y is
    by Greater is = absurd (let f : false ≡ true = sym (texts_ties x y ∙ ap is_eq is) ∙ e in cc)

pub same_itself : (x : List ℕ) → same_text x x ≡ true
same_itself x = texts_ties x x ∙ ap is_eq (tied_itself nat_list_cmp_total x)

unlike_from_less : (x y : List ℕ) → text_cmp x y ≡ Less → same_text x y ≡ false
unlike_from_less x y e = texts_ties x y ∙ ap is_eq e

unlike_from_greater : (x y : List ℕ) → text_cmp x y ≡ Greater → same_text x y ≡ false
unlike_from_greater x y e = texts_ties x y ∙ ap is_eq e

turned : (x y : List ℕ) → text_cmp x y ≡ Less → text_cmp y x ≡ Greater
turned x y e = nat_list_cmp_total.antisymm y x ∙ ap ordering_reverse e

turned_back : (x y : List ℕ) → text_cmp x y ≡ Greater → text_cmp y x ≡ Less
turned_back x y e = nat_list_cmp_total.antisymm y x ∙ ap ordering_reverse e

-- a count that is put in order is found by its country, and the others as before
pub count_of-placed : (c : List ℕ) (n : Count) (ns : List Count)
    → count_of c (placed (λ m. m.country) n ns) ≡ cond (same_text n.country c) (Some n)
    (count_of c ns)
count_of-placed c n [] = refl
count_of-placed c n (m ∷ ms) =
    elim (text_cmp n.country m.country) as (λ o. text_cmp n.country m.country ≡ o
    → count_of c (match_ordering o (n ∷ m ∷ ms) (n ∷ ms) (m ∷ placed (λ k. k.country) n ms)) ≡ cond
    (same_text n.country c) (Some n) (cond (same_text m.country c) (Some m) (count_of c ms))) [
      | Less ↦ λ e. refl
      | Equal ↦ λ e. same (same_text n.country c) (same_text m.country c)
          (ap (λ t. same_text t c) (exact_bytes n.country m.country e))
      | Greater ↦ λ e. ap (λ r. cond (same_text m.country c) (Some m) r) (count_of-placed c n ms)
          ∙ apart e (same_text n.country c) (same_text m.country c) refl refl
    ] refl
  where
    same : (p q : Bool) → p ≡ q → cond p (Some n) (count_of c ms) ≡ cond p (Some n)
        (cond q (Some m) (count_of c ms))
    same true q e = refl
    same false true e = absurd cc
    same false false e = refl

    apart : text_cmp n.country m.country ≡ Greater → (p q : Bool) → same_text n.country c ≡ p
        → same_text m.country c ≡ q
        → cond q (Some m) (cond p (Some n) (count_of c ms)) ≡ cond p (Some n)
        (cond q (Some m) (count_of c ms))
    apart g true true a b =
        let one : n.country ≡ m.country =
        text_from_same n.country c a ∙ sym (text_from_same m.country c b) in
        let tie : text_cmp n.country m.country ≡ Equal =
        ap (text_cmp n.country) (sym one) ∙ tied_itself nat_list_cmp_total n.country in
        absurd (let f : Greater ≡ Equal = sym g ∙ tie in cc)
    apart g true false a b = refl
    apart g false true a b = refl
    apart g false false a b = refl

-- what an addition adds
pub v4_in-added : (c d : List ℕ) (x y : ℕ) (ns : List Count)
    → v4_in (count_of c (added d x y ns)) ≡ v4_in (count_of c ns) + cond (same_text d c) x 0
v4_in-added c d x y ns =
    ap v4_in (count_of-placed c (record
    { country = d; v4 = v4_in (count_of d ns) + x; v6 = v6_in (count_of d ns) + y }) ns)
    ∙ by (same_text d c) refl
  where
    by : (p : Bool) → same_text d c ≡ p
        → v4_in (cond p (Some (record
        { country = d; v4 = v4_in (count_of d ns) + x; v6 = v6_in (count_of d ns) + y }))
        (count_of c ns)) ≡ v4_in (count_of c ns) + cond p x 0
    by true e = ap (λ t. v4_in (count_of t ns) + x) (text_from_same d c e)
    by false e = omega arith

pub v6_in-added : (c d : List ℕ) (x y : ℕ) (ns : List Count)
    → v6_in (count_of c (added d x y ns)) ≡ v6_in (count_of c ns) + cond (same_text d c) y 0
v6_in-added c d x y ns =
    ap v6_in (count_of-placed c (record
    { country = d; v4 = v4_in (count_of d ns) + x; v6 = v6_in (count_of d ns) + y }) ns)
    ∙ by (same_text d c) refl
  where
    by : (p : Bool) → same_text d c ≡ p
        → v6_in (cond p (Some (record
        { country = d; v4 = v4_in (count_of d ns) + x; v6 = v6_in (count_of d ns) + y }))
        (count_of c ns)) ≡ v6_in (count_of c ns) + cond p y 0
    by true e = ap (λ t. v6_in (count_of t ns) + y) (text_from_same d c e)
    by false e = omega arith

-- counts of which none is of no address, in order
abbrev pub Positive : Count → Type 0
Positive n = 0 < n.v4 + n.v6

pub record AreGood (ns : List Count) : Type 0 where
  pub order : AreInOrder (λ n. n.country) ns
  pub positive : AllByRecursion Positive ns

all_placed : (P : Count → Type 0) (n : Count) (ns : List Count) → P n → AllByRecursion P ns
    → AllByRecursion P (placed (λ m. m.country) n ns)
all_placed P n [] p h = (p, tt)
all_placed P n (m ∷ ms) p h =
    elim (text_cmp n.country m.country) as
    (λ o. AllByRecursion P (match_ordering o (n ∷ m ∷ ms) (n ∷ ms)
    (m ∷ placed (λ k. k.country) n ms))) [
      | Less ↦ (p, h)
      | Equal ↦ (p, h.1)
      | Greater ↦ (h.0, all_placed P n ms p h.1)
    ]

AreGood-nil : AreGood []
AreGood-nil = record {
  order = λ i j d lt below. absurd (omega arith);
  positive = tt;
}

AreGood-added : (c : List ℕ) (x y : ℕ) (ns : List Count) → 0 < x + y → AreGood ns
    → AreGood (added c x y ns)
AreGood-added c x y ns some good = record {
  order = placed_in_order (λ n. n.country)
      (record { country = c; v4 = v4_in (count_of c ns) + x; v6 = v6_in (count_of c ns) + y }) ns
      good.order;
  positive = all_placed Positive
      (record { country = c; v4 = v4_in (count_of c ns) + x; v6 = v6_in (count_of c ns) + y }) ns
      (omega arith) good.positive;
}

-- the counts of places

good_with_country : (o : Option (List ℕ)) (x y : ℕ) (ns : List Count) → AreGood ns
    → AreGood (with_country o x y ns)
good_with_country None x y ns good = good
good_with_country (Some c) x y ns good = by (eqb (x + y) 0) refl
  where
    by : (b : Bool) → eqb (x + y) 0 ≡ b → AreGood (cond b ns (added c x y ns))
    by true e = good
    by false e = let ne = eqb-false (x + y) 0 e in AreGood-added c x y ns (omega arith) good

pub good_counts_of : (places : List PlaceParts) (xs ys : List ℕ) (n : ℕ)
    → AreGood (counts_of places xs ys n)
unfolding counts_of
good_counts_of places xs ys zero = AreGood-nil
good_counts_of places xs ys (suc n) =
    good_with_country (country_of places (Some n)) (get_or xs n 0) (get_or ys n 0)
    (counts_of places xs ys n) (good_counts_of places xs ys n)

none_of_none : (b : Bool) (x : ℕ) → x ≡ 0 → cond b x 0 ≡ 0
none_of_none true x e = e
none_of_none false x e = refl

v4_with_country : (c : List ℕ) (o : Option (List ℕ)) (x y : ℕ) (ns : List Count)
    → v4_in (count_of c (with_country o x y ns)) ≡ v4_in (count_of c ns) + cond (is_text c o) x 0
v4_with_country c None x y ns = omega arith
v4_with_country c (Some d) x y ns = by (eqb (x + y) 0) refl
  where
    by : (b : Bool) → eqb (x + y) 0 ≡ b
        → v4_in (count_of c (cond b ns (added d x y ns))) ≡ v4_in (count_of c ns) + cond
        (same_text d c) x 0
    by true e = let sum = eqb-true (x + y) 0 e in let none =
        none_of_none (same_text d c) x (omega arith) in omega arith
    by false e = v4_in-added c d x y ns

v6_with_country : (c : List ℕ) (o : Option (List ℕ)) (x y : ℕ) (ns : List Count)
    → v6_in (count_of c (with_country o x y ns)) ≡ v6_in (count_of c ns) + cond (is_text c o) y 0
v6_with_country c None x y ns = omega arith
v6_with_country c (Some d) x y ns = by (eqb (x + y) 0) refl
  where
    by : (b : Bool) → eqb (x + y) 0 ≡ b
        → v6_in (count_of c (cond b ns (added d x y ns))) ≡ v6_in (count_of c ns) + cond
        (same_text d c) y 0
    by true e = let sum = eqb-true (x + y) 0 e in let none =
        none_of_none (same_text d c) y (omega arith) in omega arith
    by false e = v6_in-added c d x y ns

pub v4_counts_of : (c : List ℕ) (places : List PlaceParts) (xs ys : List ℕ) (n : ℕ)
    → v4_in (count_of c (counts_of places xs ys n)) ≡ ended_at (has_country places c) xs n
unfolding counts_of sum_upto
v4_counts_of c places xs ys zero = refl
v4_counts_of c places xs ys (suc n) =
    v4_with_country c (country_of places (Some n)) (get_or xs n 0) (get_or ys n 0)
    (counts_of places xs ys n)
    ∙ ap (λ s. s + cond (has_country places c n) (get_or xs n 0) 0) (v4_counts_of c places xs ys n)

pub v6_counts_of : (c : List ℕ) (places : List PlaceParts) (xs ys : List ℕ) (n : ℕ)
    → v6_in (count_of c (counts_of places xs ys n)) ≡ ended_at (has_country places c) ys n
unfolding counts_of sum_upto
v6_counts_of c places xs ys zero = refl
v6_counts_of c places xs ys (suc n) =
    v6_with_country c (country_of places (Some n)) (get_or xs n 0) (get_or ys n 0)
    (counts_of places xs ys n)
    ∙ ap (λ s. s + cond (has_country places c n) (get_or ys n 0) 0) (v6_counts_of c places xs ys n)

-- the counts of addresses

good_with_address : (o : Option (List ℕ)) (b : Bool) (ns : List Count) → AreGood ns
    → AreGood (with_address o b ns)
good_with_address None b ns good = good
good_with_address (Some c) true ns good = AreGood-added c 1 0 ns (omega arith) good
good_with_address (Some c) false ns good = AreGood-added c 0 1 ns (omega arith) good

pub good_counts_below : (f : ℕ → Option (List ℕ)) (n : ℕ) → AreGood (counts_below f n)
unfolding counts_below
good_counts_below f zero = AreGood-nil
good_counts_below f (suc n) = good_with_address (f n) _ (counts_below f n) (good_counts_below f n)

and_true : (b : Bool) → (b && true) ≡ b
and_true true = refl
and_true false = refl

and_false : (b : Bool) → (b && false) ≡ false
and_false true = refl
and_false false = refl

none_added : (b : Bool) → ◌≡◌ {A = ℕ} (cond b 0 0) (cond (b && false) 1 0)
none_added true = refl
none_added false = refl

v4_with_address : (c : List ℕ) (o : Option (List ℕ)) (b : Bool) (ns : List Count)
    → v4_in (count_of c (with_address o b ns)) ≡ v4_in (count_of c ns) + cond (is_text c o && b) 1 0
v4_with_address c None b ns = omega arith
v4_with_address c (Some d) true ns =
    v4_in-added c d 1 0 ns ∙ ap (λ p. v4_in (count_of c ns) + cond p 1 0)
    (sym (and_true (same_text d c)))
v4_with_address c (Some d) false ns =
    v4_in-added c d 0 1 ns ∙ ap (λ k. v4_in (count_of c ns) + k) (none_added (same_text d c))

v6_with_address : (c : List ℕ) (o : Option (List ℕ)) (b : Bool) (ns : List Count)
    → v6_in (count_of c (with_address o b ns)) ≡ v6_in (count_of c ns) + cond
    (is_text c o && not b) 1 0
v6_with_address c None b ns = omega arith
v6_with_address c (Some d) true ns =
    v6_in-added c d 1 0 ns ∙ ap (λ k. v6_in (count_of c ns) + k) (none_added (same_text d c))
v6_with_address c (Some d) false ns =
    v6_in-added c d 0 1 ns ∙ ap (λ p. v6_in (count_of c ns) + cond p 1 0)
    (sym (and_true (same_text d c)))

pub v4_counts_below : (c : List ℕ) (f : ℕ → Option (List ℕ)) (n : ℕ)
    → v4_in (count_of c (counts_below f n)) ≡ count_below (λ a. is_text c (f a) && ltb a (2 ^ 32)) n
unfolding counts_below count_below
v4_counts_below c f zero = refl
v4_counts_below c f (suc n) =
    v4_with_address c (f n) (ltb n (2 ^ 32)) (counts_below f n)
    ∙ ap (λ k. k + cond (is_text c (f n) && ltb n (2 ^ 32)) 1 0) (v4_counts_below c f n)

pub v6_counts_below : (c : List ℕ) (f : ℕ → Option (List ℕ)) (n : ℕ)
    → v6_in (count_of c (counts_below f n)) ≡ count_below
    (λ a. is_text c (f a) && not (ltb a (2 ^ 32))) n
unfolding counts_below count_below
v6_counts_below c f zero = refl
v6_counts_below c f (suc n) =
    v6_with_address c (f n) (ltb n (2 ^ 32)) (counts_below f n)
    ∙ ap (λ k. k + cond (is_text c (f n) && not (ltb n (2 ^ 32))) 1 0) (v6_counts_below c f n)

-- no count stands for a country that goes before all

none_below : (c : List ℕ) (ns : List Count) → AllByRecursion (λ n. text_cmp c n.country ≡ Less) ns
    → count_of c ns ≡ None
none_below c [] h = refl
none_below c (n ∷ ns) h = rw (unlike_from_greater n.country c (turned c n.country h.0))
    (none_below c ns h.1)

before_all : (c d : List ℕ) (ns : List Count) → text_cmp c d ≡ Less
    → AllByRecursion (λ n. text_cmp d n.country ≡ Less) ns
    → AllByRecursion (λ n. text_cmp c n.country ≡ Less) ns
before_all c d [] l h = tt
before_all c d (n ∷ ns) l h =
    (nat_list_cmp_total.trans c d n.country l h.0, before_all c d ns l h.1)

own_count : (n : Count) (ns : List Count) → count_of n.country (n ∷ ns) ≡ Some n
own_count n ns = rw (same_itself n.country) refl

-- the first of good counts is before those of another list, so that has none of its addresses
absent : (n : Count) (ns ms : List Count) → Positive n
    → AllByRecursion (λ m. text_cmp n.country m.country ≡ Less) ms
    → v4_in (count_of n.country (n ∷ ns)) ≡ v4_in (count_of n.country ms)
    → v6_in (count_of n.country (n ∷ ns)) ≡ v6_in (count_of n.country ms) → ⊥
absent n ns ms some before e4 e6 =
    let none = none_below n.country ms before in
    let own = own_count n ns in
    let a : n.v4 ≡ 0 = sym (ap v4_in own) ∙ e4 ∙ ap v4_in none in
    let b : n.v6 ≡ 0 = sym (ap v6_in own) ∙ e6 ∙ ap v6_in none in
    omega arith

abbrev count_with : List ℕ → ℕ → ℕ → Count
count_with c x y = record { country = c; v4 = x; v6 = y }

module _ (v : Option Count → ℕ) (v_none : v None ≡ 0) where
  -- what is left of equal counts behind equal countries
  rest_alike : (n m : Count) (ns ms : List Count) → n.country ≡ m.country
      → AllByRecursion (λ k. text_cmp n.country k.country ≡ Less) ns
      → AllByRecursion (λ k. text_cmp m.country k.country ≡ Less) ms
      → ((c : List ℕ) → v (count_of c (n ∷ ns)) ≡ v (count_of c (m ∷ ms))) → (c : List ℕ)
      → v (count_of c ns) ≡ v (count_of c ms)
  rest_alike n m ns ms one up_n up_m alike c = by (same_text n.country c) refl
    where
      by : (b : Bool) → same_text n.country c ≡ b → v (count_of c ns) ≡ v (count_of c ms)
      by true e =
          let is : n.country ≡ c = text_from_same n.country c e in
          let none_n : count_of c ns ≡ None =
          none_below c ns (subst (λ d. AllByRecursion (λ k. text_cmp d k.country ≡ Less) ns) is
          up_n) in
          let none_m : count_of c ms ≡ None =
          none_below c ms (subst (λ d. AllByRecursion (λ k. text_cmp d k.country ≡ Less) ms)
          (sym one ∙ is) up_m) in
          ap v none_n ∙ sym (ap v none_m)
      by false e =
          let other : same_text m.country c ≡ false = ap (λ d. same_text d c) (sym one) ∙ e in
          let left : count_of c (n ∷ ns) ≡ count_of c ns =
          ap (λ b. cond b (Some n) (count_of c ns)) e in
          let right : count_of c (m ∷ ms) ≡ count_of c ms =
          ap (λ b. cond b (Some m) (count_of c ms)) other in
          sym (ap v left) ∙ alike c ∙ ap v right

-- good counts that have the same addresses of each country are the same
same_ascending : (ns ms : List Count) → Ascend (λ n. n.country) ns → Ascend (λ n. n.country) ms
    → AllByRecursion Positive ns → AllByRecursion Positive ms
    → ((c : List ℕ) → v4_in (count_of c ns) ≡ v4_in (count_of c ms))
    → ((c : List ℕ) → v6_in (count_of c ns) ≡ v6_in (count_of c ms)) → ns ≡ ms
same_ascending [] [] un um pn pm e4 e6 = refl
same_ascending [] (m ∷ ms) un um pn pm e4 e6 =
    absurd (absent m ms [] pm.0 tt (sym (e4 m.country)) (sym (e6 m.country)))
same_ascending (n ∷ ns) [] un um pn pm e4 e6 =
    absurd (absent n ns [] pn.0 tt (e4 n.country) (e6 n.country))
same_ascending (n ∷ ns) (m ∷ ms) un um pn pm e4 e6 =
    by (text_cmp n.country m.country) refl
    (λ one. same_ascending ns ms un.1 um.1 pn.1 pm.1
    (rest_alike v4_in refl n m ns ms one un.0 um.0 e4)
    (rest_alike v6_in refl n m ns ms one un.0 um.0 e6))
  where
    heads : count_with n.country n.v4 n.v6 ≡ count_with m.country m.v4 m.v6 → ns ≡ ms
        → n ∷ ns ≡ m ∷ ms
    heads head rest = ap₂ (λ x xs. x ∷ xs) head rest

    by : (o : Ordering) → text_cmp n.country m.country ≡ o → (n.country ≡ m.country → ns ≡ ms)
        → n ∷ ns ≡ m ∷ ms
    by Less l rest = absurd (absent n ns (m ∷ ms) pn.0 (l, before_all n.country m.country ms l um.0)
        (e4 n.country) (e6 n.country))
    by Greater g rest =
        let l = turned_back n.country m.country g in
        absurd (absent m ms (n ∷ ns) pm.0 (l, before_all m.country n.country ns l un.0)
        (sym (e4 m.country)) (sym (e6 m.country)))
    by Equal e rest =
        let one : n.country ≡ m.country = exact_bytes n.country m.country e in
        let other : count_of n.country (m ∷ ms) ≡ Some m =
        ap (λ c. count_of c (m ∷ ms)) one ∙ own_count m ms in
        let v4 : n.v4 ≡ m.v4 = sym (ap v4_in (own_count n ns)) ∙ e4 n.country ∙ ap v4_in other in
        let v6 : n.v6 ≡ m.v6 = sym (ap v6_in (own_count n ns)) ∙ e6 n.country ∙ ap v6_in other in
        let head : count_with n.country n.v4 n.v6 ≡ count_with m.country m.v4 m.v6 =
        ap (λ c. count_with c n.v4 n.v6) one ∙ ap (λ x. count_with m.country x n.v6) v4
        ∙ ap (λ y. count_with m.country m.v4 y) v6 in
        heads head (rest one)

pub same_counts : (ns ms : List Count) → AreGood ns → AreGood ms
    → ((c : List ℕ) → v4_in (count_of c ns) ≡ v4_in (count_of c ms))
    → ((c : List ℕ) → v6_in (count_of c ns) ≡ v6_in (count_of c ms)) → ns ≡ ms
same_counts ns ms gn gm = same_ascending ns ms (ascend (λ n. n.country) ns gn.order)
    (ascend (λ n. n.country) ms gm.order) gn.positive gm.positive

-- how a halving finds and changes a count

pub old_count : (c : List ℕ) (old : Count) (ns : List Count) (i : ℕ)
    → AreInOrder (λ n. n.country) ns → i < length ns
    → IsBinarySearchResult (λ n. text_cmp n.country c) ns (Ok i) → slice_get ns i ≡ Some old
    → count_of c ns ≡ Some old
old_count c old ns i order lt found is =
    sym (found_by_search (λ n. n.country)
    (record { country = c; v4 = 0; v6 = 0 }) old ns i order lt found is)

pub set_is_added : (c : List ℕ) (x y : ℕ) (old : Count) (ns : List Count) (i : ℕ)
    → AreInOrder (λ n. n.country) ns → i < length ns
    → IsBinarySearchResult (λ n. text_cmp n.country c) ns (Ok i)
    → slice_get ns i ≡ Some old → set ns i
    (record { country = c; v4 = old.v4 + x; v6 = old.v6 + y }) ≡ added c x y ns
set_is_added c x y old ns i order lt found is =
    put_over (λ n. n.country)
    (record { country = c; v4 = old.v4 + x; v6 = old.v6 + y }) ns i order lt found
    ∙ ap (λ o. placed (λ n. n.country)
    (record { country = c; v4 = v4_in o + x; v6 = v6_in o + y }) ns)
    (sym (old_count c old ns i order lt found is))

pub insert_is_added : (c : List ℕ) (x y : ℕ) (ns : List Count) (i : ℕ)
    → AreInOrder (λ n. n.country) ns → i ≤ length ns
    → IsBinarySearchResult (λ n. text_cmp n.country c) ns (Err i)
    → insert ns i (record { country = c; v4 = x; v6 = y }) ≡ added c x y ns
insert_is_added c x y ns i order le found =
    let none : None ≡ count_of c ns =
    none_by_search (λ n. n.country) (record { country = c; v4 = x; v6 = y }) ns i order found in
    let none4 : 0 ≡ v4_in (count_of c ns) = ap v4_in none in
    let none6 : 0 ≡ v6_in (count_of c ns) = ap v6_in none in
    let more4 : x ≡ v4_in (count_of c ns) + x = omega arith in
    let more6 : y ≡ v6_in (count_of c ns) + y = omega arith in
    put_between (λ n. n.country) (record { country = c; v4 = x; v6 = y }) ns i order le found
    ∙ ap₂ (λ a b. placed (λ n. n.country) (record { country = c; v4 = a; v6 = b }) ns) more4 more6

-- one place more

cond_le : (b : Bool) (x : ℕ) → cond b x 0 ≤ x
cond_le true x = omega arith
cond_le false x = omega arith

room_beside : (c : List ℕ) (places : List PlaceParts) (xs : List ℕ) (n slots : ℕ) → n < slots
    → ended_at every xs slots < 2 ^ 128
    → ended_at (has_country places c) xs n + get_or xs n 0 < 2 ^ 128
unfolding sum_upto
room_beside c places xs n slots lt few =
    let own = sum_upto-le (λ k. cond (has_country places c k) (get_or xs k 0) 0)
    (λ k. get_or xs k 0) n (λ k. cond_le (has_country places c k) (get_or xs k 0)) in
    let more = sum_upto-rises (λ k. get_or xs k 0) (suc n) slots (omega arith) in
    omega arith

pub room_v4 : (c : List ℕ) (places : List PlaceParts) (xs ys : List ℕ) (n slots : ℕ)
    (ns : List Count) → ns ≡ counts_of places xs ys n → n < slots
    → ended_at every xs slots < 2 ^ 128
    → v4_in (count_of c ns) + get_or xs n 0 < 2 ^ 128
room_v4 c places xs ys n slots ns is lt few =
    let room = room_beside c places xs n slots lt few in
    let own : v4_in (count_of c ns) ≡ ended_at (has_country places c) xs n =
    ap (λ ms. v4_in (count_of c ms)) is ∙ v4_counts_of c places xs ys n in
    omega arith

pub room_v6 : (c : List ℕ) (places : List PlaceParts) (xs ys : List ℕ) (n slots : ℕ)
    (ns : List Count) → ns ≡ counts_of places xs ys n → n < slots
    → ended_at every ys slots < 2 ^ 128
    → v6_in (count_of c ns) + get_or ys n 0 < 2 ^ 128
room_v6 c places xs ys n slots ns is lt few =
    let room = room_beside c places ys n slots lt few in
    let own : v6_in (count_of c ns) ≡ ended_at (has_country places c) ys n =
    ap (λ ms. v6_in (count_of c ms)) is ∙ v6_counts_of c places xs ys n in
    omega arith

pub order_so_far : (places : List PlaceParts) (xs ys : List ℕ) (n : ℕ) (ns : List Count)
    → ns ≡ counts_of places xs ys n → AreInOrder (λ m. m.country) ns
order_so_far places xs ys n ns is =
    subst (λ ms. AreInOrder (λ m. m.country) ms) (sym is) (good_counts_of places xs ys n).order

pub counts_begin : (places : List PlaceParts) (xs ys : List ℕ) (ns : List Count) → ns ≡ []
    → ns ≡ counts_of places xs ys 0
unfolding counts_of
counts_begin places xs ys ns is = is

pub counts_step : (places : List PlaceParts) (xs ys : List ℕ) (n : ℕ) (ns ms : List Count)
    (o : Option PlaceParts) → ns ≡ counts_of places xs ys n → o ≡ place_at places n
    → ms ≡ with_country (option_map (λ p. p.country) o) (get_or xs n 0) (get_or ys n 0) ns
    → ms ≡ counts_of places xs ys (n + 1)
unfolding counts_of
counts_step places xs ys n ns ms o is here step =
    let next : suc n ≡ n + 1 = omega arith in
    step ∙ ap (λ p. with_country (option_map (λ q. q.country) p) (get_or xs n 0) (get_or ys n 0) ns)
    here
    ∙ ap (with_country (option_map (λ q. q.country) (place_at places n)) (get_or xs n 0)
    (get_or ys n 0)) is ∙ ap (counts_of places xs ys) next
