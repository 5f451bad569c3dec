-- One pass over grounds that nest: what its boundaries and the open grounds tell of an address.
use Rattle.std.proofs.Common.{◌≡◌, ℕ, zero, suc, ◌+◌, ◌-◌, ◌^◌, ◌<◌, ◌≤◌, Bool, true, false, cond}
use Rattle.std.proofs.Common.{◌&&◌, ◌||◌, eqb, leb, ltb, List, [], ◌∷◌, ◌++◌, length, get_or, map}
use Rattle.std.proofs.Common.{fold, take, Option, Some, None, slice_get, Ordering, refl, sym, ap}
use Rattle.std.proofs.Common.{◌∙◌, subst, arith}
use Rattle.std.specs.List.{filter}
use Rattle.std.specs.List.Sorted.{IsNonDecreasingBy}
use Rattle.std.specs.Option.{option_map}
use Rattle.std.specs.Ordering.{is_lt}
use Rattle.std.proofs.lemmas.Bool.Decides.{nat_tests}
use Rattle.std.proofs.lemmas.List.Elements.{filter-append}
use Rattle.std.proofs.lemmas.List.Folds.{list_any-append}
use Rattle.std.proofs.lemmas.List.Sums.{fold-append}
use Rattle.geo_addr.specs.Ranges.{Ends, IsRange, ground_first, holds}
use Rattle.first_index.specs.Boundaries.{told}
use Rattle.geo_terms.specs.First.{better}
use Rattle.first_index.specs.FirstIndex.{index_cmp}
use Rattle.first_index.specs.Nested.{AreBoundariesOf, ArePassed, Climb, IsPut, Nest, Reach}
use Rattle.first_index.specs.Nested.{best, best_index, innermost, is_edge, is_end, stands_at, top}
use Rattle.first_index.specs.declared.boundaries.Boundary.{Boundary}
use Rattle.first_index.proofs.BoundaryLemmas.{ground_before, held}

-- a list with a last item
pub last_is : {A : Type 0} (xs : List A) (t : A) → slice_get xs (length xs - 1) ≡ Some t
    → xs ≡ take (length xs - 1) xs ++ t ∷ []
last_is [] t is = absurd cc
last_is (x ∷ []) t is = ap (λ y. y ∷ []) (some_is is)
  where
    some_is : {A : Type 0} {x y : A} → Some x ≡ Some y → x ≡ y
    some_is e = cc
last_is (x ∷ y ∷ ys) t is =
    let e : length (x ∷ y ∷ ys) - 1 ≡ suc (length (y ∷ ys) - 1) = omega arith in
    rw e (ap (λ zs. x ∷ zs) (last_is (y ∷ ys) t (rw e at is)))

pub snoc_length : {A : Type 0} (xs : List A) (t : A) → length (xs ++ t ∷ []) ≡ length xs + 1
snoc_length [] t = refl
snoc_length (x ∷ xs) t = let e : length (xs
    ++ t ∷ []) ≡ length xs + 1 = snoc_length xs t in omega arith

module _ {C : Type 0} where
  inner_more : (outer : Option C) (os : List (ℕ × C)) (l : ℕ) (x : C) (a : ℕ) → Reach (l + 1) os
      → innermost outer (os ++ (l, x) ∷ []) a ≡ cond (leb a l) (Some x) (innermost outer os a)
  inner_more outer [] l x a far = refl
  inner_more outer (o ∷ os) l x a far =
      elim (leb a o.0) as (λ v. leb a o.0 ≡ v
      → cond v (innermost (Some o.1) (os ++ (l, x) ∷ []) a) outer
      ≡ cond (leb a l) (Some x) (cond v (innermost (Some o.1) os a) outer)) [
        | true ↦ λ e. inner_more (Some o.1) os l x a far.1
        | false ↦ λ e. let le : l + 1 ≤ o.0 + 1 = far.0 in
            let over : leb a l ≡ false = grind (arith, nat_tests) in rw over refl
      ] refl

  inner_top : (outer : Option C) (os : List (ℕ × C)) (a : ℕ) → Reach (a + 1) os
      → innermost outer os a ≡ top outer os
  inner_top outer [] a far = refl
  inner_top outer (o ∷ os) a far =
      let le : a + 1 ≤ o.0 + 1 = far.0 in
      let here : leb a o.0 ≡ true = grind (arith, nat_tests) in
      rw here (inner_top (Some o.1) os a far.1)

  top_more : (outer : Option C) (os : List (ℕ × C)) (l : ℕ) (x : C)
      → top outer (os ++ (l, x) ∷ []) ≡ Some x
  top_more outer [] l x = refl
  top_more outer (o ∷ os) l x = top_more (Some o.1) os l x

  nest_low : (high : ℕ) (os : List (ℕ × C)) (l : ℕ) (x : C) → Nest high (os ++ (l, x) ∷ [])
      → l ≤ high
  nest_low high [] l x h = h.0
  nest_low high (o ∷ os) l x h =
      let le : l ≤ o.0 = nest_low o.0 os l x h.1 in omega (arith, h.0)

  nest_reach : (high : ℕ) (os : List (ℕ × C)) (l : ℕ) (x : C) → Nest high (os ++ (l, x) ∷ [])
      → Reach (l + 1) os
  nest_reach high [] l x h = tt
  nest_reach high (o ∷ os) l x h =
      let le : l ≤ o.0 = nest_low o.0 os l x h.1 in (omega arith, nest_reach o.0 os l x h.1)

  nest_less : (high : ℕ) (os : List (ℕ × C)) (l : ℕ) (x : C) → Nest high (os ++ (l, x) ∷ [])
      → Nest high os
  nest_less high [] l x h = tt
  nest_less high (o ∷ os) l x h = (h.0, nest_less o.0 os l x h.1)

  nest_more : (high : ℕ) (os : List (ℕ × C)) (l : ℕ) (x : C) → Nest high os → Reach (l + 1) os
      → l ≤ high → Nest high (os ++ (l, x) ∷ [])
  nest_more high [] l x h far le = (le, tt)
  nest_more high (o ∷ os) l x h far le = (
    h.0,
    nest_more o.0 os l x h.1 far.1 (let f : l + 1 ≤ o.0 + 1 = far.0 in omega arith),
  )

  pub reach_weaker : (low high : ℕ) (os : List (ℕ × C)) → low ≤ high → Reach high os → Reach low os
  reach_weaker low high [] le far = tt
  reach_weaker low high (o ∷ os) le far = (omega (arith, far.0), reach_weaker low high os le far.1)

  reach_more : (to : ℕ) (os : List (ℕ × C)) (l : ℕ) (x : C) → Reach to os → to ≤ l + 1
      → Reach to (os ++ (l, x) ∷ [])
  reach_more to [] l x far le = (le, tt)
  reach_more to (o ∷ os) l x far le = (far.0, reach_more to os l x far.1 le)

  reach_last : (to : ℕ) (os : List (ℕ × C)) (l : ℕ) (x : C) → Reach to (os ++ (l, x) ∷ [])
      → to ≤ l + 1
  reach_last to [] l x far = far.0
  reach_last to (o ∷ os) l x far = reach_last to os l x far.1

  -- where the innermost one reaches up to an address, all do
  pub all_reach : (high to : ℕ) (os : List (ℕ × C)) (t : ℕ × C)
      → slice_get os (length os - 1) ≡ Some t → to ≤ t.0 + 1 → Nest high os → Reach to os
  all_reach high to os t is le nest =
      let ys : List (ℕ × C) = take (length os - 1) os in
      let e : os ≡ ys ++ t ∷ [] = last_is os t is in
      let h : Nest high (ys ++ t ∷ []) = subst (Nest high) e nest in
      subst (Reach to) (sym e) (reach_more to ys t.0 t.1
      (reach_weaker to (t.0 + 1) ys le (nest_reach high ys t.0 t.1 h)) le)

  pub none_reach : (to : ℕ) (os : List (ℕ × C)) → slice_get os (length os - 1) ≡ None → Reach to os
  none_reach to [] is = tt
  none_reach to (o ∷ os) is = absurd (some (o ∷ os) (length (o ∷ os) - 1) (omega arith) is)
    where
      some : (xs : List (ℕ × C)) (k : ℕ) → k < length xs → slice_get xs k ≡ None → ⊥
      some [] k below e = omega arith
      some (x ∷ xs) zero below e = cc
      some (x ∷ xs) (suc k) below e = some xs k (omega arith) e

  pub top_last : (os : List (ℕ × C)) (t : ℕ × C) → slice_get os (length os - 1) ≡ Some t
      → top None os ≡ Some t.1
  top_last os t is =
      ap (top None) (last_is os t is) ∙ top_more None (take (length os - 1) os) t.0 t.1

  pub top_none : (os : List (ℕ × C)) → slice_get os (length os - 1) ≡ None → top None os ≡ None
  top_none os is = let far = none_reach 0 os is in none os is
    where
      none : (xs : List (ℕ × C)) → slice_get xs (length xs - 1) ≡ None → top None xs ≡ None
      none [] e = refl
      none (x ∷ xs) e = absurd (let r = none_reach (x.0 + 2) (x ∷ xs) e in omega (arith, r.0))

  end_more : (os : List (ℕ × C)) (l : ℕ) (x : C) (c : ℕ) → is_end (os ++ (l, x) ∷ []) c
      ≡ (is_end os c || eqb (l + 1) c)
  end_more os l x c =
      list_any-append (λ (o : ℕ × C). eqb (o.0 + 1) c) os ((l, x) ∷ [])
      ∙ (let e : (eqb (l + 1) c || false) ≡ eqb (l + 1) c = grind (arith, nat_tests) in
      ap (λ b. is_end os c || b) e)

-- boundaries that climb
climb_le : (low high : ℕ) (bs : List Boundary) → Climb low high bs → low ≤ high
climb_le low high [] up = up
climb_le low high (b ∷ bs) up =
    let le : b.at ≤ high = climb_le b.at high bs up.1 in omega (arith, up.0)

climb_higher : (low high to : ℕ) (bs : List Boundary) → high ≤ to → Climb low high bs
    → Climb low to bs
climb_higher low high to [] le up = omega (arith, up)
climb_higher low high to (b ∷ bs) le up = (up.0, climb_higher b.at high to bs le up.1)

climb_more : (low : ℕ) (bs : List Boundary) (b : Boundary) → Climb low b.at bs
    → Climb low b.at (bs ++ b ∷ [])
climb_more low [] b up = (up, omega arith)
climb_more low (x ∷ xs) b up = (up.0, climb_more x.at xs b up.1)

climb_less : (low high : ℕ) (bs : List Boundary) (b : Boundary) → Climb low high (bs ++ b ∷ [])
    → Climb low high bs
climb_less low high [] b up = omega (arith, up.0, up.1)
climb_less low high (x ∷ xs) b up = (up.0, climb_less x.at high xs b up.1)

none_lower : (low high : ℕ) (bs : List Boundary) → Climb low high bs → (j : ℕ) (d : Boundary)
    → j < length bs → low ≤ (get_or bs j d).at
none_lower low high [] up j d below = absurd (omega arith)
none_lower low high (b ∷ bs) up zero d below = up.0
none_lower low high (b ∷ bs) up (suc j) d below = let le : b.at ≤ (get_or bs j d).at =
    none_lower b.at high bs up.1 j d (omega arith) in omega (arith, up.0)

climb_ordered : (low high : ℕ) (bs : List Boundary) → Climb low high bs
    → IsNonDecreasingBy (λ (b : Boundary). b.at) bs
climb_ordered low high [] up i j d le below = absurd (omega arith)
climb_ordered low high (b ∷ bs) up zero zero d le below = omega arith
climb_ordered low high (b ∷ bs) up zero (suc j) d le below =
    none_lower b.at high bs up.1 j d (omega arith)
climb_ordered low high (b ∷ bs) up (suc i) zero d le below = absurd (omega arith)
climb_ordered low high (b ∷ bs) up (suc i) (suc j) d le below =
    climb_ordered b.at high bs up.1 i j d (omega arith) (omega arith)

told_more : (before : Option ℕ) (low : ℕ) (bs : List Boundary) (b : Boundary) (a : ℕ)
    → Climb low b.at bs
    → told before (bs ++ b ∷ []) a ≡ cond (leb b.at a) b.first (told before bs a)
told_more before low [] b a up = refl
told_more before low (x ∷ xs) b a up =
    elim (leb x.at a) as (λ v. leb x.at a ≡ v → cond v (told x.first (xs ++ b ∷ []) a) before
    ≡ cond (leb b.at a) b.first (cond v (told x.first xs a) before)) [
      | true ↦ λ e. told_more x.first x.at xs b a up.1
      | false ↦ λ e. let le : x.at ≤ b.at = climb_le x.at b.at xs up.1 in
          let over : leb b.at a ≡ false = grind (arith, nat_tests) in rw over refl
    ] refl

stands_more : (bs : List Boundary) (b : Boundary) (c : ℕ) → stands_at (bs ++ b ∷ []) c
    ≡ (stands_at bs c || eqb b.at c)
stands_more bs b c =
    list_any-append (λ (x : Boundary). eqb x.at c) bs (b ∷ [])
    ∙ (let e : (eqb b.at c || false) ≡ eqb b.at c = grind (arith, nat_tests) in
    ap (λ v. stands_at bs c || v) e)

pub put_new : (at : ℕ) (first : Option ℕ) (bs : List Boundary)
    → IsPut at first bs (bs ++ record { at = at; first = first } ∷ [])
put_new at first bs =
    let b : Boundary = record { at = at; first = first } in
    record {
      climb = λ low up. climb_more low bs b up;
      tell = λ low up a. told_more None low bs b a up;
      stand = λ low up c. stands_more bs b c;
    }

put_over : (at : ℕ) (first : Option ℕ) (bs : List Boundary) (old : Boundary) → old.at ≡ at
    → IsPut at first (bs ++ old ∷ []) (bs ++ record { at = at; first = first } ∷ [])
put_over at first bs old is =
    let b : Boundary = record { at = at; first = first } in
    record {
      climb = λ low up. climb_more low bs b (climb_less low at bs old up);
      tell = λ low up a.
          let before : Climb low at bs = climb_less low at bs old up in
          told_more None low bs b a before ∙ sym (ap (λ t. cond (leb at a) first t)
          (told_more None low bs old a (subst (λ n. Climb low n bs) (sym is) before)
          ∙ ap (λ n. cond (leb n a) old.first (told None bs a)) is)
          ∙ once (leb at a) first old.first (told None bs a));
      stand = λ low up c. stands_more bs b c ∙ sym (ap (λ v. v || eqb at c) (stands_more bs old c)
          ∙ (let e : ((stands_at bs c || eqb old.at c) || eqb at c) ≡ (stands_at bs c || eqb at c) =
          grind (arith, nat_tests) in e));
    }
  where
    once : (v : Bool) (x y z : Option ℕ) → cond v x (cond v y z) ≡ cond v x z
    once true x y z = refl
    once false x y z = refl

climb_last : (low high : ℕ) (bs : List Boundary) (b : Boundary) → Climb low high (bs ++ b ∷ [])
    → b.at ≤ high
climb_last low high [] b up = up.1
climb_last low high (x ∷ xs) b up = climb_last x.at high xs b up.1

-- where what comes before ascends, a last boundary that is not below an address stands at it
pub put_last : (at : ℕ) (first : Option ℕ) (bs : List Boundary) (old : Boundary) → at ≤ old.at
    → IsPut at first (bs ++ old ∷ []) (bs ++ record { at = old.at; first = first } ∷ [])
put_last at first bs old le = record {
  climb = λ low up. (over low up).climb low up;
  tell = λ low up. (over low up).tell low up;
  stand = λ low up. (over low up).stand low up;
}
  where
    over : (low : ℕ) → Climb low at (bs ++ old ∷ [])
        → IsPut at first (bs ++ old ∷ []) (bs ++ record { at = old.at; first = first } ∷ [])
    over low up =
        let below : old.at ≤ at = climb_last low at bs old up in
        let is : old.at ≡ at = omega arith in
        subst (λ n. IsPut at first (bs ++ old ∷ []) (bs ++ record { at = n; first = first } ∷ []))
        (sym is) (put_over at first bs old is)

-- a point that is an edge, where the ground ends or begins there
stand_close : (s e q w : Bool) → (q ≡ true → w ≡ true)
    → ((s || q) || (e && w)) ≡ (s || ((e || q) && w))
stand_close true e q w f = refl
stand_close false true true true f = refl
stand_close false true true false f = absurd (let g : false ≡ true = f refl in cc)
stand_close false true false w f = refl
stand_close false false true true f = refl
stand_close false false true false f = absurd (let g : false ≡ true = f refl in cc)
stand_close false false false w f = refl

stand_none : (s e q w : Bool) → (q ≡ true → w ≡ false)
    → (s || (e && w)) ≡ (s || ((e || q) && w))
stand_none true e q w f = refl
stand_none false true q w f = refl
stand_none false false true true f = absurd (let g : true ≡ false = f refl in cc)
stand_none false false true false f = refl
stand_none false false false w f = refl

stand_open : (s e g t w r : Bool) → (g ≡ true → w ≡ true) → (s || (e && w)) ≡ (r && w)
    → ((s || g) || ((e || t) && w)) ≡ ((r || (g || t)) && w)
stand_open s e g t w r f h =
    elim g as (λ v. (v ≡ true → w ≡ true)
    → ((s || v) || ((e || t) && w)) ≡ ((r || (v || t)) && w)) [
      | true ↦ λ f. let is : w ≡ true = f refl in grind arith
      | false ↦ λ f. grind arith
    ] f

module _ {X : Type 0} (order : X → X → Ordering) (range_of : X → Ends) where
  abbrev lt : ℕ × X → ℕ × X → Bool
  lt x y = is_lt (index_cmp order x y)

  abbrev index : ℕ × X → ℕ
  index c = c.0

  best_more : (cs : List (ℕ × X)) (c : ℕ × X) (a : ℕ) → best order range_of (cs ++ c ∷ []) a
      ≡ cond (holds (range_of c.1) a) (better lt (best order range_of cs a) c)
      (best order range_of cs a)
  best_more cs c a =
      let p : ℕ × X → Bool = λ x. holds (range_of x.1) a in
      ap (fold (better lt) None) (filter-append p cs (c ∷ []))
      ∙ fold-append (better lt) None (filter p cs) (filter p (c ∷ []))
      ∙ elim (holds (range_of c.1) a) as (λ v. fold (better lt) (fold (better lt) None
      (filter p cs))
      (cond v (c ∷ []) []) ≡ cond v (better lt (fold (better lt) None (filter p cs)) c)
      (fold (better lt) None (filter p cs))) [ true ↦ refl | false ↦ refl ]

  edge_more : (cs : List (ℕ × X)) (x : ℕ × X) (c : ℕ)
      → is_edge (map (λ (y : ℕ × X). range_of y.1) (cs ++ x ∷ [])) c
      ≡ (is_edge (map (λ (y : ℕ × X). range_of y.1) cs) c
      || (eqb (ground_first (range_of x.1)) c || eqb ((range_of x.1).last + 1) c))
  edge_more [] x c =
      let r : Ends = range_of x.1 in
      grind (arith, nat_tests)
  edge_more (y ∷ ys) x c =
      let r : Ends = range_of y.1 in
      let later = edge_more ys x c in
      ap (λ v. (eqb (ground_first r) c || eqb (r.last + 1) c) || v) later
      ∙ assoc (eqb (ground_first r) c || eqb (r.last + 1) c)
      (is_edge (map (λ (z : ℕ × X). range_of z.1) ys) c)
      (eqb (ground_first (range_of x.1)) c || eqb ((range_of x.1).last + 1) c)
    where
      assoc : (u v w : Bool) → (u || (v || w)) ≡ ((u || v) || w)
      assoc true v w = refl
      assoc false v w = refl

  pub none_passed : ArePassed order range_of [] 0 [] []
  none_passed = record {
    bound = omega arith;
    climb = omega arith;
    nest = tt;
    reach = tt;
    past = λ a lt. absurd (omega arith);
    now = λ a le within. refl;
    here = λ a le within. refl;
    stand = λ c. refl;
  }

  module _ (cs : List (ℕ × X)) (low : ℕ) (bs : List Boundary) (os : List (ℕ × (ℕ × X))) where
    -- the same up to a higher address that all open grounds reach
    pub passed_on : (to : ℕ) → low ≤ to → to ≤ 2 ^ 128 → Reach to os
        → ArePassed order range_of cs low bs os → ArePassed order range_of cs to bs os
    passed_on to le within far h = record {
      bound = within;
      climb = climb_higher 0 low to bs le h.climb;
      nest = h.nest;
      reach = far;
      past = λ a below. elim (ltb a low) as (λ v. ltb a low ≡ v
          → told None bs a ≡ best_index order range_of cs a) [
            | true ↦ λ e. h.past a (grind (arith, nat_tests))
            | false ↦ λ e. let from : low ≤ a = grind (arith, nat_tests) in
                let high : a < 2 ^ 128 = omega arith in
                h.here a from high ∙ sym (ap (option_map index) (h.now a from high
                ∙ inner_top None os a (reach_weaker (a + 1) to os (omega arith) far)))
          ] refl;
      now = λ a from high. h.now a (omega arith) high;
      here = λ a from high. h.here a (omega arith) high;
      stand = h.stand;
    }

    -- one ground is closed
    module _ (l : ℕ) (x : ℕ × X)
        (h : ArePassed order range_of cs low bs (os ++ (l, x) ∷ [])) where
      bound : l ≤ 2 ^ 128 - 1
      bound = nest_low (2 ^ 128 - 1) os l x h.nest

      outer_far : Reach (l + 1) os
      outer_far = nest_reach (2 ^ 128 - 1) os l x h.nest

      pub low_last : low ≤ l + 1
      low_last = reach_last low os l x h.reach

      upto_last : ArePassed order range_of cs (l + 1) bs (os ++ (l, x) ∷ [])
      upto_last = record {
        bound = omega (arith, bound);
        climb = climb_higher 0 low (l + 1) bs low_last h.climb;
        nest = h.nest;
        reach = reach_more (l + 1) os l x outer_far (omega arith);
        past = λ a below. elim (ltb a low) as (λ v. ltb a low ≡ v
            → told None bs a ≡ best_index order range_of cs a) [
              | true ↦ λ e. h.past a (grind (arith, nat_tests))
              | false ↦ λ e. let from : low ≤ a = grind (arith, nat_tests) in
                  let high : a < 2 ^ 128 = omega (arith, bound) in
                  h.here a from high ∙ sym (ap (option_map index) (h.now a from high
                  ∙ inner_top None (os ++ (l, x) ∷ []) a (reach_more (a + 1) os l x
                  (reach_weaker (a + 1) (l + 1) os (omega arith) outer_far) (omega arith))))
            ] refl;
        now = λ a from high. h.now a (omega (arith, low_last)) high;
        here = λ a from high. h.here a (omega (arith, low_last)) high;
        stand = h.stand;
      }

      rest : (a : ℕ) → l + 1 ≤ a → a < 2 ^ 128 → best order range_of cs a ≡ innermost None os a
      rest a from high =
          let over : leb a l ≡ false = grind (arith, nat_tests) in
          upto_last.now a from high ∙ inner_more None os l x a outer_far ∙ rw over refl

      closed_put : (new : List Boundary) → l < 2 ^ 128 - 1
          → IsPut (l + 1) (option_map index (top None os)) bs new
          → ArePassed order range_of cs (l + 1) new os
      closed_put new below put = record {
        bound = upto_last.bound;
        climb = put.climb 0 upto_last.climb;
        nest = nest_less (2 ^ 128 - 1) os l x h.nest;
        reach = outer_far;
        past = λ a lower. let over : leb (l + 1) a ≡ false = grind (arith, nat_tests) in
            put.tell 0 upto_last.climb a ∙ rw over (upto_last.past a lower);
        now = rest;
        here = λ a from high. let passed : leb (l + 1) a ≡ true = grind (arith, nat_tests) in
            put.tell 0 upto_last.climb a ∙ rw passed refl;
        stand = λ c. ap (λ v. v || (is_end os c && ltb c (2 ^ 128)))
            (put.stand 0 upto_last.climb c)
            ∙ stand_close (stands_at bs c) (is_end os c) (eqb (l + 1) c) (ltb c (2 ^ 128))
            (λ is. grind (arith, nat_tests))
            ∙ ap (λ v. stands_at bs c || (v && ltb c (2 ^ 128))) (sym (end_more os l x c))
            ∙ h.stand c;
      }

      closed_none : l ≡ 2 ^ 128 - 1 → ArePassed order range_of cs (l + 1) bs os
      closed_none is = record {
        bound = upto_last.bound;
        climb = upto_last.climb;
        nest = nest_less (2 ^ 128 - 1) os l x h.nest;
        reach = outer_far;
        past = upto_last.past;
        now = rest;
        here = λ a from high. absurd (omega arith);
        stand = λ c. stand_none (stands_at bs c) (is_end os c) (eqb (l + 1) c) (ltb c (2 ^ 128))
            (λ same. grind (arith, nat_tests))
            ∙ ap (λ v. stands_at bs c || (v && ltb c (2 ^ 128))) (sym (end_more os l x c))
            ∙ h.stand c;
      }

      pub closed : (new : List Boundary)
          → (l < 2 ^ 128 - 1 → IsPut (l + 1) (option_map index (top None os)) bs new)
          → (l ≡ 2 ^ 128 - 1 → new ≡ bs) → ArePassed order range_of cs (l + 1) new os
      closed new put none =
          elim (ltb l (2 ^ 128 - 1)) as (λ v. ltb l (2 ^ 128 - 1) ≡ v
          → ArePassed order range_of cs (l + 1) new os) [
            | true ↦ λ e. let below : l < 2 ^ 128 - 1 = grind (arith, nat_tests) in
                closed_put new below (put below)
            | false ↦ λ e. let from : 2 ^ 128 - 1 ≤ l = grind (arith, nat_tests) in
                let is : l ≡ 2 ^ 128 - 1 = omega (arith, bound) in
                subst (λ bs. ArePassed order range_of cs (l + 1) bs os) (sym (none is))
                (closed_none is)
          ] refl

    -- one more ground is open
    module _ (x : ℕ × X) (within : IsRange (range_of x.1))
        (h : ArePassed order range_of cs (ground_first (range_of x.1)) bs os)
        (far : Reach ((range_of x.1).last + 1) os) (b : ℕ × X)
        (is : Some b ≡ better lt (top None os) x) (new : List Boundary)
        (put : IsPut (ground_first (range_of x.1)) (Some b.0) bs new) where
      abbrev from : ℕ
      from = ground_first (range_of x.1)

      abbrev last : ℕ
      last = (range_of x.1).last

      order_of : from < last + 1
      order_of = ground_before (range_of x.1) within

      told_now : (a : ℕ) → from ≤ a → a < 2 ^ 128 → best order range_of (cs ++ x ∷ []) a
          ≡ innermost None (os ++ (last, b) ∷ []) a
      told_now a low_a high =
          let begun : leb from a ≡ true = grind (arith, nat_tests) in
          best_more cs x a ∙ elim (leb a last) as (λ v. leb a last ≡ v
          → cond (holds (range_of x.1) a) (better lt (best order range_of cs a) x)
          (best order range_of cs a) ≡ cond v (Some b) (innermost None os a)) [
            | true ↦ λ e. let inside : ltb a (last + 1) ≡ true = grind (arith, nat_tests) in
                let is_held : holds (range_of x.1) a ≡ true =
                held (range_of x.1) a ∙ rw (begun, inside) refl in
                rw is_held (ap (λ o. better lt o x) (h.now a low_a high ∙ inner_top None os a
                (reach_weaker (a + 1) (last + 1) os (grind (arith, nat_tests)) far)) ∙ sym is)
            | false ↦ λ e. let inside : ltb a (last + 1) ≡ false = grind (arith, nat_tests) in
                let not_held : holds (range_of x.1) a ≡ false =
                held (range_of x.1) a ∙ rw (begun, inside) refl in
                rw not_held (h.now a low_a high)
          ] refl
          ∙ sym (inner_more None os last b a far)

      pub opened : ArePassed order range_of (cs ++ x ∷ []) from new (os ++ (last, b) ∷ [])
      opened = record {
        bound = omega (arith, order_of, within.within);
        climb = put.climb 0 h.climb;
        nest = nest_more (2 ^ 128 - 1) os last b h.nest far (omega (arith, within.within));
        reach = reach_more from os last b h.reach (omega (arith, order_of));
        past = λ a lower. let over : leb from a ≡ false = grind (arith, nat_tests) in
            let not_held : holds (range_of x.1) a ≡ false =
            held (range_of x.1) a ∙ rw over refl in
            let same : best order range_of (cs ++ x ∷ []) a ≡ best order range_of cs a =
            best_more cs x a ∙ rw not_held refl in
            put.tell 0 h.climb a ∙ rw over (h.past a lower) ∙ sym (ap (option_map index) same);
        now = told_now;
        here = λ a low_a high. let passed : leb from a ≡ true = grind (arith, nat_tests) in
            put.tell 0 h.climb a ∙ rw passed refl
            ∙ sym (ap (option_map index) (top_more None os last b));
        stand = λ c. ap (λ v. v || (is_end (os ++ (last, b) ∷ []) c && ltb c (2 ^ 128)))
            (put.stand 0 h.climb c)
            ∙ ap (λ v. (stands_at bs c || eqb from c) || (v && ltb c (2 ^ 128)))
            (end_more os last b c)
            ∙ stand_open (stands_at bs c) (is_end os c) (eqb from c) (eqb (last + 1) c)
            (ltb c (2 ^ 128)) (is_edge (map (λ (y : ℕ × X). range_of y.1) cs) c)
            (λ same. let low_end : from < last + 1 = order_of in
            let end : last < 2 ^ 128 = within.within in grind (arith, nat_tests)) (h.stand c)
            ∙ ap (λ v. v && ltb c (2 ^ 128)) (sym (edge_more cs x c));
      }

    pub all_passed : ArePassed order range_of cs (2 ^ 128) bs os → Reach (2 ^ 128 + 1) os
        → AreBoundariesOf order range_of cs bs
    all_passed h far = record {
      ordered = climb_ordered 0 (2 ^ 128) bs h.climb;
      tell = h.past;
      stand = λ c. no_end (stands_at bs c) (is_end os c) (ltb c (2 ^ 128))
          (none_open os h.nest far c)
          ∙ h.stand c;
    }
      where
        no_end : (s e w : Bool) → e ≡ false → s ≡ (s || (e && w))
        no_end true e w is = refl
        no_end false true w is = absurd cc
        no_end false false w is = refl

        none_open : (os : List (ℕ × (ℕ × X))) → Nest (2 ^ 128 - 1) os → Reach (2 ^ 128 + 1) os
            → (c : ℕ) → is_end os c ≡ false
        none_open [] n f c = refl
        none_open (o ∷ os) n f c = absurd (omega (arith, n.0, f.0))
