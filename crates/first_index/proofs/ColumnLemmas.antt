-- Boundaries in two columns tell, and stand, as the boundaries that they were made of.
use Rattle.std.proofs.Common.{◌≡◌, ℕ, zero, suc, ◌+◌, ◌-◌, ◌<◌, ◌≤◌, Bool, true, false, cond, ◌||◌}
use Rattle.std.proofs.Common.{eqb, leb, List, [], ◌∷◌, ◌++◌, length, get_or, map, Option, None}
use Rattle.std.proofs.Common.{refl, sym, ap, ◌∙◌, subst, inl, inr, arith, drop, append_assoc}
use Rattle.std.proofs.Common.{Ordering, Some, slice_get, slice_set, take}
use Rattle.std.specs.Option.{option_and_then}
use Rattle.std.specs.List.Sorted.{IsNonDecreasingBy, IsPartitionPoint, IsStrictlyIncreasing}
use Rattle.std.proofs.lemmas.Bool.{cases_lt}
use Rattle.std.proofs.lemmas.Bool.Decides.{nat_tests}
use Rattle.std.proofs.lemmas.List.Kept.{AllPairs-from_increasing}
use Rattle.geo_addr.specs.Ranges.{Ends}
use Rattle.geo_terms.proofs.Ascending.{Up}
use Rattle.first_index.specs.Boundaries.{told}
use Rattle.first_index.specs.Columns.{AreColumns, begin_at, coded_index, last_ones, of_columns}
use Rattle.first_index.specs.FirstIndex.{TellsFirst}
use Rattle.first_index.specs.Nested.{IsPut, stands_at}
use Rattle.first_index.specs.declared.boundaries.Boundary.{Boundary}
use Rattle.first_index.proofs.NestedLemmas.{last_is, put_last, put_new, snoc_length}

abbrev place : Boundary → ℕ
place b = b.at

pub columns_more : (ps cs : List ℕ) (p c : ℕ) → length ps ≡ length cs
    → of_columns (ps ++ p ∷ []) (cs ++ c ∷ [])
    ≡ of_columns ps cs ++ record { at = p; first = coded_index c } ∷ []
columns_more [] [] p c same = refl
columns_more [] (d ∷ cs) p c same = absurd (omega arith)
columns_more (q ∷ ps) [] p c same = absurd (omega arith)
columns_more (q ∷ ps) (d ∷ cs) p c same =
    ap (λ (bs : List Boundary). record { at = q; first = coded_index d } ∷ bs)
    (columns_more ps cs p c (omega arith))

-- the column of addresses is where the boundaries stand
pub points_are : (ps cs : List ℕ) → length ps ≡ length cs → map place (of_columns ps cs) ≡ ps
points_are [] cs same = refl
points_are (p ∷ ps) [] same = absurd (omega arith)
points_are (p ∷ ps) (c ∷ cs) same = ap (λ xs. p ∷ xs) (points_are ps cs (omega arith))

-- what is told is what the last boundary at or below the address tells
pub told_in : (before : Option ℕ) (ps cs : List ℕ) (i a : ℕ) → length ps ≡ length cs
    → i ≤ length ps → ((k : ℕ) → k < i → get_or ps k 0 ≤ a) → (i < length ps → a < get_or ps i 0)
    → told before (of_columns ps cs) a ≡ cond (eqb i 0) before (coded_index (get_or cs (i - 1) 0))
told_in before [] cs i a same le low high = let e : i ≡ 0 = omega arith in rw e refl
told_in before (p ∷ ps) [] i a same le low high = absurd (omega arith)
told_in before (p ∷ ps) (c ∷ cs) zero a same le low high =
    let gt : leb p a ≡ false =
    (let lt : a < p = high (omega arith) in grind (arith, nat_tests)) in rw gt refl
told_in before (p ∷ ps) (c ∷ cs) (suc i) a same le low high =
    let here : leb p a ≡ true =
    (let first : p ≤ a = low 0 (omega arith) in grind (arith, nat_tests)) in
    let later : told (coded_index c) (of_columns ps cs) a
    ≡ cond (eqb i 0) (coded_index c) (coded_index (get_or cs (i - 1) 0)) =
    told_in (coded_index c) ps cs i a (omega arith) (omega arith)
    (λ k lt. low (suc k) (omega arith)) (λ lt. high (omega arith)) in
    rw here (later ∙ last i)
  where
    last : (i : ℕ) → cond (eqb i 0) (coded_index c) (coded_index (get_or cs (i - 1) 0))
        ≡ cond (eqb (suc i) 0) before (coded_index (get_or (c ∷ cs) (suc i - 1) 0))
    last zero = refl
    last (suc j) =
        let f : eqb (suc j) 0 ≡ false = grind (arith, nat_tests) in
        let g : eqb (suc (suc j)) 0 ≡ false = grind (arith, nat_tests) in
        let m : suc j - 1 ≡ j = omega arith in
        let n : suc (suc j) - 1 ≡ suc j = omega arith in
        rw (f, g, m, n) refl

-- the same, from what a search by halving found
pub told_where : (ps cs : List ℕ) (i a : ℕ) → length ps ≡ length cs → i ≤ length ps
    → IsPartitionPoint (λ p. leb p a ≡ true) (λ p. leb p a ≡ false) ps i
    → told None (of_columns ps cs) a
    ≡ cond (eqb i 0) None (coded_index (get_or cs (i - 1) 0))
told_where ps cs i a same le found =
    told_in None ps cs i a same le
    (λ k lt. let e : leb (get_or ps k 0) a ≡ true = found.0 k 0 (omega arith) lt in
    grind (arith, nat_tests))
    (λ lt. let e : leb (get_or ps i 0) a ≡ false = found.1 i 0 (omega arith) lt in
    grind (arith, nat_tests))

pub rises : (xs : List ℕ) → IsStrictlyIncreasing xs → IsNonDecreasingBy (λ (y : ℕ). y) xs
rises xs h i j d le below =
    elim (cases_lt i j) [
      | inl lt ↦ let less : get_or xs i d < get_or xs j d =
          AllPairs-from_increasing xs h i j d lt below in omega arith
      | inr ge ↦ let e : i ≡ j = omega arith in rw e (omega arith)
    ]

-- of two boundaries at one address the last one tells
pub told_last : (before : Option ℕ) (bs : List Boundary) (a : ℕ)
    → told before (last_ones bs) a ≡ told before bs a
told_last before [] a = refl
told_last before (b ∷ []) a = refl
told_last before (b ∷ c ∷ bs) a =
    elim (eqb c.at b.at) as (λ v. eqb c.at b.at ≡ v
    → told before (cond v (last_ones (c ∷ bs)) (b ∷ last_ones (c ∷ bs))) a
    ≡ told before (b ∷ c ∷ bs) a) [
      | true ↦ λ e. told_last before (c ∷ bs) a ∙ skipped e
      | false ↦ λ e. ap (λ o. cond (leb b.at a) o before) (told_last b.first (c ∷ bs) a)
    ] refl
  where
    twice : (v : Bool) (x y z : Option ℕ) → cond v x y ≡ cond v (cond v x z) y
    twice true x y z = refl
    twice false x y z = refl

    skipped : eqb c.at b.at ≡ true → told before (c ∷ bs) a ≡ told before (b ∷ c ∷ bs) a
    skipped e =
        let same : c.at ≡ b.at = grind (arith, nat_tests) in
        let at : leb b.at a ≡ leb c.at a = ap (λ n. leb n a) (sym same) in
        twice (leb c.at a) (told c.first bs a) before b.first
        ∙ ap (λ v. cond v (cond (leb c.at a) (told c.first bs a) b.first) before) (sym at)

pub stands_last : (bs : List Boundary) (k : ℕ) → stands_at (last_ones bs) k ≡ stands_at bs k
stands_last [] k = refl
stands_last (b ∷ []) k = refl
stands_last (b ∷ c ∷ bs) k =
    elim (eqb c.at b.at) as (λ v. eqb c.at b.at ≡ v
    → stands_at (cond v (last_ones (c ∷ bs)) (b ∷ last_ones (c ∷ bs))) k
    ≡ stands_at (b ∷ c ∷ bs) k) [
      | true ↦ λ e. stands_last (c ∷ bs) k ∙ skipped e
      | false ↦ λ e. ap (λ v. eqb b.at k || v) (stands_last (c ∷ bs) k)
    ] refl
  where
    twice : (v w : Bool) → (v || w) ≡ (v || (v || w))
    twice true w = refl
    twice false w = refl

    skipped : eqb c.at b.at ≡ true → stands_at (c ∷ bs) k ≡ stands_at (b ∷ c ∷ bs) k
    skipped e =
        let same : c.at ≡ b.at = grind (arith, nat_tests) in
        twice (eqb c.at k) (stands_at bs k)
        ∙ ap (λ n. eqb n k || (eqb c.at k || stands_at bs k)) same

-- the first of these boundaries is not below an address
abbrev From : ℕ → List Boundary → Type 0
From low [] = Unit {0}
From low (b ∷ bs) = low ≤ b.at

up_last : (low : ℕ) (bs : List Boundary) → IsNonDecreasingBy place bs → From low bs
    → Up low (map place (last_ones bs))
up_last low [] up le = tt
up_last low (b ∷ []) up le = (le, tt)
up_last low (b ∷ c ∷ bs) up le =
    let step : b.at ≤ c.at = up zero (suc zero) b (omega arith) (omega arith) in
    elim (eqb c.at b.at) as (λ v. eqb c.at b.at ≡ v
    → Up low (map place (cond v (last_ones (c ∷ bs)) (b ∷ last_ones (c ∷ bs))))) [
      | true ↦ λ e. up_last low (c ∷ bs) later (omega (arith, le))
      | false ↦ λ e. (le, up_last (b.at + 1) (c ∷ bs) later (grind (arith, nat_tests)))
    ] refl
  where
    later : IsNonDecreasingBy place (c ∷ bs)
    later i j d low below = up (suc i) (suc j) d (omega arith) (omega arith)

increasing : (low : ℕ) (xs : List ℕ) → Up low xs → IsStrictlyIncreasing xs
increasing low [] up k below = absurd (omega arith)
increasing low (x ∷ []) up k below = absurd (omega arith)
increasing low (x ∷ y ∷ ys) up zero below = omega (arith, up.1.0)
increasing low (x ∷ y ∷ ys) up (suc k) below =
    let later = increasing (x + 1) (y ∷ ys) up.1 k (omega arith) in
    let step : suc k + 1 ≡ suc (k + 1) = omega arith in
    rw step later

low_from : (bs : List Boundary) → From 0 bs
low_from [] = tt
low_from (b ∷ bs) = omega arith

-- columns that stand for the last ones of boundaries in order are those of an index
pub columns_of_last : (bs : List Boundary) (ps cs : List ℕ) → IsNonDecreasingBy place bs
    → length ps ≡ length cs → of_columns ps cs ≡ last_ones bs → AreColumns ps cs
columns_of_last bs ps cs up same is = record {
  same_length = same;
  ascending =
      subst IsStrictlyIncreasing (ap (map place) (sym is) ∙ points_are ps cs same)
      (increasing 0 (map place (last_ones bs)) (up_last 0 bs up (low_from bs)));
}

-- one more point and its code behind those that there are
pub put_columns : (ps cs : List ℕ) (a c : ℕ) (first : Option ℕ) → length ps ≡ length cs
    → coded_index c ≡ first
    → IsPut a first (of_columns ps cs) (of_columns (ps ++ a ∷ []) (cs ++ c ∷ []))
put_columns ps cs a c first same code =
    subst (λ bs. IsPut a first (of_columns ps cs) bs) (sym (columns_more ps cs a c same))
    (subst (λ o. IsPut a first (of_columns ps cs)
    (of_columns ps cs ++ record { at = a; first = o } ∷ [])) (sym code)
    (put_new a first (of_columns ps cs)))

set_snoc : (cs : List ℕ) (d c : ℕ) → slice_set (cs ++ d ∷ []) (length (cs ++ d ∷ []) - 1) c
    ≡ cs ++ c ∷ []
set_snoc [] d c = refl
set_snoc (x ∷ cs) d c =
    let long : length (cs ++ d ∷ []) ≡ length cs + 1 = snoc_length cs d in
    let n : length (x ∷ cs ++ d ∷ []) - 1 ≡ suc (length (cs ++ d ∷ []) - 1) = omega arith in
    rw n (ap (λ ys. x ∷ ys) (set_snoc cs d c))

some_last : (cs : List ℕ) → 0 < length cs → (ds : List ℕ) × (d : ℕ) × (cs ≡ ds ++ d ∷ [])
some_last [] lt = absurd (omega arith)
some_last (x ∷ []) lt = ([], x, refl)
some_last (x ∷ y ∷ ys) lt =
    let (ds, d, is) = some_last (y ∷ ys) (omega arith) in (x ∷ ds, d, ap (λ zs. x ∷ zs) is)

-- another code in place of the last one, where that does not stand below an address
pub set_columns : (ps cs : List ℕ) (p a c : ℕ) (first : Option ℕ) → length ps ≡ length cs
    → slice_get ps (length ps - 1) ≡ Some p → a ≤ p → coded_index c ≡ first
    → IsPut a first (of_columns ps cs) (of_columns ps (slice_set cs (length cs - 1) c))
set_columns ps cs p a c first same is le code =
    let qs : List ℕ = take (length ps - 1) ps in
    let points : ps ≡ qs ++ p ∷ [] = last_is ps p is in
    let long : length ps ≡ length qs + 1 = ap length points ∙ snoc_length qs p in
    let (ds, d, codes) = some_last cs (omega arith) in
    let short : length cs ≡ length ds + 1 = ap length codes ∙ snoc_length ds d in
    let both : length qs ≡ length ds = omega arith in
    let set : slice_set cs (length cs - 1) c ≡ ds ++ c ∷ [] =
    ap (λ zs. slice_set zs (length zs - 1) c) codes ∙ set_snoc ds d c in
    let old : Boundary = record { at = p; first = coded_index d } in
    let given : of_columns ps cs ≡ of_columns qs ds ++ old ∷ [] =
    ap (λ zs. of_columns zs cs) points ∙ ap (λ zs. of_columns (qs ++ p ∷ []) zs) codes
    ∙ columns_more qs ds p d both in
    let made : of_columns ps (slice_set cs (length cs - 1) c)
    ≡ of_columns qs ds ++ record { at = p; first = coded_index c } ∷ [] =
    ap (λ zs. of_columns zs (slice_set cs (length cs - 1) c)) points
    ∙ ap (λ zs. of_columns (qs ++ p ∷ []) zs) set
    ∙ columns_more qs ds p c both in
    rw (given, made, code) (put_last a first (of_columns qs ds) old le)

drop_here : {X : Type 0} (xs : List X) (i : ℕ) (x : X) → i < length xs → get_or xs i x ≡ x
    → drop i xs ≡ x ∷ drop (i + 1) xs
drop_here [] i x lt is = absurd (omega arith)
drop_here (y ∷ ys) zero x lt is = ap (λ z. z ∷ ys) is
drop_here (y ∷ ys) (suc i) x lt is =
    let n : suc i + 1 ≡ suc (i + 1) = omega arith in rw n (drop_here ys i x (omega arith) is)

module _ (xs : List Boundary) (i : ℕ) (b : Boundary) (within : i < length xs)
    (here : get_or xs i b ≡ b) where
  left : (v : Bool) → begin_at (drop (i + 1) xs) b.at ≡ v → last_ones (drop i xs)
      ≡ cond v (last_ones (drop (i + 1) xs)) (b ∷ last_ones (drop (i + 1) xs))
  left v e =
      ap last_ones (drop_here xs i b within here)
      ∙ ap (λ w. cond w (last_ones (drop (i + 1) xs)) (b ∷ last_ones (drop (i + 1) xs))) e

  -- a boundary at the address of the next one is passed over
  pub passed_over : (done : List Boundary) → begin_at (drop (i + 1) xs) b.at ≡ true
      → done ++ last_ones (drop i xs) ≡ last_ones xs
      → done ++ last_ones (drop (i + 1) xs) ≡ last_ones xs
  passed_over done e h = ap (λ ys. done ++ ys) (sym (left true e)) ∙ h

  -- any other one is put into both columns
  pub put_behind : (ps cs : List ℕ) (c : ℕ) → begin_at (drop (i + 1) xs) b.at ≡ false
      → length ps ≡ length cs → coded_index c ≡ b.first
      → of_columns ps cs ++ last_ones (drop i xs) ≡ last_ones xs
      → of_columns (ps ++ b.at ∷ []) (cs ++ c ∷ []) ++ last_ones (drop (i + 1) xs) ≡ last_ones xs
  put_behind ps cs c e same code h =
      let new : Boundary = record { at = b.at; first = coded_index c } in
      let is : new ≡ b = ap (λ (f : Option ℕ). record { at = b.at; first = f }) code in
      let more : of_columns (ps ++ b.at ∷ []) (cs ++ c ∷ []) ≡ of_columns ps cs ++ b ∷ [] =
      columns_more ps cs b.at c same ∙ ap (λ n. of_columns ps cs ++ n ∷ []) is in
      ap (λ ys. ys ++ last_ones (drop (i + 1) xs)) more
      ∙ append_assoc (of_columns ps cs) (b ∷ []) (last_ones (drop (i + 1) xs))
      ∙ ap (λ ys. of_columns ps cs ++ ys) (sym (left false e)) ∙ h

-- what the last ones tell of statements is what all tell
pub tells_last : {X : Type 0} (order : X → X → Ordering) (range_of : X → Ends) (xs : List X)
    (bs : List Boundary) → TellsFirst order range_of xs bs
    → TellsFirst order range_of xs (last_ones bs)
tells_last order range_of xs bs h a lt =
    ap (option_and_then (slice_get xs)) (told_last None bs a) ∙ h a lt
