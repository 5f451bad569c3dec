-- What is passed over, what one pass finds, and what is left of one list where
-- the other is empty: what changed.
use Rattle.std.proofs.Common.{◌≡◌, ◌⊎◌, ℕ, suc, ◌+◌, ◌-◌, ◌<◌, ◌≤◌, true, List, [], ◌∷◌, ◌++◌, map}
use Rattle.std.proofs.Common.{length, get_or, take, drop, inl, inr, Ordering, Less, Equal, Greater}
use Rattle.std.proofs.Common.{Bor, refl, sym, ap, ◌∙◌, subst, is_eq, append_assoc, append-nil}
use Rattle.std.proofs.Common.{arith, drop-cons, take-append-drop, drop_of_length-le, length-drop}
use Rattle.std.proofs.Common.{take_all, Bool, zero}
use Rattle.std.specs.Cmp.{IsEquivalence, IsTotalOrder, on_total, then_total, tied_then}
use Rattle.std.specs.List.{AllZip}
use Rattle.std.specs.List.Sorted.{IsPermutation, IsSorted}
use Rattle.std.specs.Ordering.{eq_by_cmp, match_ordering}
use Rattle.std.proofs.lemmas.Bool.{and_parts}
use Rattle.std.proofs.lemmas.Cmp.{eq_by_cmp_equiv}
use Rattle.std.proofs.lemmas.List.{map-append}
use Rattle.std.proofs.lemmas.List.Sorted.{IsPermutation-trans}
use Rattle.geo_addr.specs.Ranges.{Ends}
use Rattle.source_changes.specs.Changed.{changed, without}
use Rattle.source_changes.specs.Merging.{differing}
use Rattle.source_changes.specs.Sorting.{DecidesSame, range_cmp, range_ties, range_total, whole_cmp}
use Rattle.source_changes.specs.Touched.{ground_of}
use Rattle.source_changes.proofs.Counts.{as_equivalence, changed_moves, times, times_append}
use Rattle.source_changes.proofs.Counts.{times_zipped}
use Rattle.source_changes.proofs.Merges.{differing_is_changed}
use Rattle.source_changes.proofs.Paired.{AsFar}
use Rattle.source_changes.proofs.Statements.{range_is}

-- one more pair that is the same, behind and in front
pub zip_more : {X : Type 0} (R : X → X → Type 0) (xs ys : List X) (i : ℕ) (x y : X) → i < length xs
    → i < length ys → x ≡ get_or xs i x → y ≡ get_or ys i y → R x y
    → AllZip R (take i xs) (take i ys) → AllZip R (take (suc i) xs) (take (suc i) ys)
zip_more R [] ys i x y below below' is is' h zip = absurd (omega arith)
zip_more R (a ∷ xs) [] i x y below below' is is' h zip = absurd (omega arith)
zip_more {X} R (a ∷ xs) (b ∷ ys) zero x y below below' is is' h zip =
    (subst (λ (w : X). R w b) is (subst (λ (w : X). R x w) is' h), tt)
zip_more R (a ∷ xs) (b ∷ ys) (suc i) x y below below' is is' h zip =
    (zip.0, zip_more R xs ys i x y (omega arith) (omega arith) is is' h zip.1)

pub drop_here : {X : Type 0} (xs : List X) (i : ℕ) (x : X) → i < length xs → x ≡ get_or xs i x
    → drop i xs ≡ x ∷ drop (i + 1) xs
drop_here xs i x below is =
    let next : suc i ≡ i + 1 = omega arith in
    drop-cons xs i x below ∙ (λ k. sym is k ∷ drop (next k) xs)

pub zip_before : {X : Type 0} (R : X → X → Type 0) (xs ys : List X) (i j i' j' : ℕ) (x y : X)
    → i < length xs → j < length ys → i' ≡ i + 1 → j' ≡ j + 1 → x ≡ get_or xs i x
    → y ≡ get_or ys j y → R x y
    → AllZip R (drop i' xs) (drop j' ys) → AllZip R (drop i xs) (drop j ys)
zip_before {X} R xs ys i j i' j' x y below below' next next' is is' h zip =
    let xs_are : drop i xs ≡ x ∷ drop i' xs =
    drop_here xs i x below is ∙ (λ k. x ∷ drop (sym next k) xs) in
    let ys_are : drop j ys ≡ y ∷ drop j' ys =
    drop_here ys j y below' is' ∙ (λ k. y ∷ drop (sym next' k) ys) in
    subst (λ (zs : List X). AllZip R zs (drop j ys)) (sym xs_are)
    (subst (λ (zs : List X). AllZip R (x ∷ drop i' xs) zs) (sym ys_are) (h, zip))

module _ {X : Type 0} (range : X → Ends) (same : X → X → Bool) (rest : X → X → Ordering)
    (total : IsTotalOrder rest) (decides : DecidesSame range same rest) where
  pub whole_total : IsTotalOrder (whole_cmp range rest)
  whole_total = then_total (on_total range range_total) total

  alike : IsEquivalence same
  alike =
      as_equivalence same (eq_by_cmp (whole_cmp range rest)) decides (eq_by_cmp_equiv whole_total)

  ground_alike : (x y : X) → eq_by_cmp (whole_cmp range rest) x y ≡ true
      → ground_of (range x) ≡ ground_of (range y)
  ground_alike x y tie =
      let parts = and_parts (is_eq (range_cmp (range x) (range y))) (is_eq (rest x y))
      (tied_then (range_cmp (range x) (range y)) (rest x y) ∙ tie) in
      ap ground_of (range_is (range x) (range y) (range_ties (range x) (range y) ∙ parts.0))

  ground_same : (x y : X) → same x y ≡ true → ground_of (range x) ≡ ground_of (range y)
  ground_same x y h = ground_alike x y (sym (decides x y) ∙ h)

  times_split : (k : X) (n : ℕ) (xs : List X)
      → times same alike k xs ≡ times same alike k (take n xs) + times same alike k (drop n xs)
  times_split k n xs =
      ap (times same alike k) (sym (take-append-drop n xs))
      ∙ times_append same alike k (take n xs) (drop n xs)

  -- without what both lists begin with
  start_passed : (n : ℕ) (old new : List X)
      → AllZip (λ x y. same x y ≡ true) (take n old) (take n new)
      → IsPermutation (map (λ x. ground_of (range x)) (changed same old new))
      (map (λ x. ground_of (range x)) (changed same (drop n old) (drop n new)))
  start_passed n old new zip =
      changed_moves same alike (λ x. ground_of (range x)) ground_same old new (drop n old)
      (drop n new)
      (λ k.
      let t : times same alike k (take n old) ≡ times same alike k (take n new) =
      times_zipped same alike k (take n old) (take n new) zip in
      let o : times same alike k old
      ≡ times same alike k (take n old) + times same alike k (drop n old) = times_split k n old in
      let w : times same alike k new
      ≡ times same alike k (take n new) + times same alike k (drop n new) = times_split k n new in
      omega arith)

  -- without what both lists end with
  end_passed : (m n : ℕ) (old new : List X)
      → AllZip (λ x y. same x y ≡ true) (drop m old) (drop n new)
      → IsPermutation (map (λ x. ground_of (range x)) (changed same old new))
      (map (λ x. ground_of (range x)) (changed same (take m old) (take n new)))
  end_passed m n old new zip =
      changed_moves same alike (λ x. ground_of (range x)) ground_same old new (take m old)
      (take n new)
      (λ k.
      let t : times same alike k (drop m old) ≡ times same alike k (drop n new) =
      times_zipped same alike k (drop m old) (drop n new) zip in
      let o : times same alike k old
      ≡ times same alike k (take m old) + times same alike k (drop m old) = times_split k m old in
      let w : times same alike k new
      ≡ times same alike k (take n new) + times same alike k (drop n new) = times_split k n new in
      omega arith)

  pub both_passed : (old new old1 new1 : List X) (n m : ℕ) → old1 ≡ drop n old → new1 ≡ drop n new
      → AllZip (λ x y. same x y ≡ true) (take n old) (take n new)
      → AllZip (λ x y. same x y ≡ true) (drop (length old1 - m) old1) (drop (length new1 - m) new1)
      → IsPermutation (map (λ x. ground_of (range x)) (changed same old new))
      (map (λ x. ground_of (range x))
      (changed same (take (length old1 - m) old1) (take (length new1 - m) new1)))
  both_passed old new old1 new1 n m old_is new_is start end =
      let begun : IsPermutation (map (λ x. ground_of (range x)) (changed same old new))
      (map (λ x. ground_of (range x)) (changed same old1 new1)) =
      subst (λ (zs : List X). IsPermutation (map (λ x. ground_of (range x)) (changed same old new))
      (map (λ x. ground_of (range x)) (changed same zs new1))) (sym old_is)
      (subst (λ (zs : List X). IsPermutation (map (λ x. ground_of (range x)) (changed same old new))
      (map (λ x. ground_of (range x)) (changed same (drop n old) zs))) (sym new_is)
      (start_passed n old new start)) in
      IsPermutation-trans (map (λ x. ground_of (range x)) (changed same old new))
      (map (λ x. ground_of (range x)) (changed same old1 new1)) (map (λ x. ground_of (range x))
      (changed same (take (length old1 - m) old1) (take (length new1 - m) new1)))
      begun (end_passed (length old1 - m) (length new1 - m) old1 new1 end)

  -- what changed between lists that are as far apart
  pub far_changed : (old new old' new' : List X) → AsFar same old new old' new'
      → IsPermutation (map (λ x. ground_of (range x)) (changed same old new))
      (map (λ x. ground_of (range x)) (changed same old' new'))
  far_changed old new old' new' far =
      changed_moves same alike (λ x. ground_of (range x)) ground_same old new old' new' (far alike)

  none_without : (ys : List X) → without same [] ys ≡ []
  none_without [] = refl
  none_without (y ∷ ys) = none_without ys

  -- where one list is empty, all of the other one changed
  pub all_new : (old new : List X) → old ≡ []
      → map (λ x. ground_of (range x)) (changed same old new) ≡ map (λ x. ground_of (range x)) new
  all_new old new none =
      ap (λ zs. map (λ x. ground_of (range x)) (changed same zs new)) none
      ∙ ap (λ zs. map (λ x. ground_of (range x)) (zs ++ new)) (none_without new)

  pub all_old : (old new : List X) → new ≡ []
      → map (λ x. ground_of (range x)) (changed same old new) ≡ map (λ x. ground_of (range x)) old
  all_old old new none =
      ap (λ zs. map (λ x. ground_of (range x)) (changed same old zs)) none
      ∙ ap (λ zs. map (λ x. ground_of (range x)) (old ++ zs)) (none_without old)
      ∙ ap (map (λ x. ground_of (range x))) (append-nil old)

  -- what one pass finds in both lists in order
  pub pass_finds : (old new old' new' : List X) → IsPermutation old old' → IsPermutation new new'
      → IsSorted (whole_cmp range rest) old' → IsSorted (whole_cmp range rest) new'
      → IsPermutation (map (λ x. ground_of (range x)) (changed same old new))
      (map (λ x. ground_of (range x)) (differing (whole_cmp range rest) old' new'))
  pass_finds old new old' new' moved moved' up up' =
      let test : same ≡ eq_by_cmp (whole_cmp range rest) = λ i x y. decides x y i in
      subst
      (λ (s : X → X → Bool). IsPermutation (map (λ x. ground_of (range x)) (changed s old new))
      (map (λ x. ground_of (range x)) (differing (whole_cmp range rest) old' new'))) (sym test)
      (differing_is_changed (whole_cmp range rest) whole_total
      (λ x. ground_of (range x)) ground_alike old new old' new' moved moved' up up')

-- one step of the pass
module _ {X : Type 0} (order : X → X → Ordering) (ground : X → Ends) where
  abbrev pub left : (old new : List (Bor X)) → ℕ → ℕ → List X
  left old new i j =
      differing order (map (λ (r : Bor X). r.now) (drop i old))
      (map (λ (r : Bor X). r.now) (drop j new))

  here : (old new : List (Bor X)) (i j : ℕ) (x y : Bor X) → i < length old → j < length new
      → x ≡ get_or old i x → y ≡ get_or new j y
      → left old new i j ≡ match_ordering (order x.now y.now) (x.now ∷ left old new (i + 1) j)
      (left old new (i + 1) (j + 1)) (y.now ∷ left old new i (j + 1))
  here old new i j x y below below' is is' =
      let old_is : drop i old ≡ x ∷ drop (i + 1) old = drop_here old i x below is in
      let new_is : drop j new ≡ y ∷ drop (j + 1) new = drop_here new j y below' is' in
      let now : Bor X → X = λ r. r.now in
      (λ k. differing order (map now (old_is k)) (map now (new_is k)))
      ∙ (λ k. match_ordering (order x.now y.now)
      (x.now ∷ differing order (map now (drop (i + 1) old)) (map now (sym new_is k)))
      (left old new (i + 1) (j + 1))
      (y.now ∷ differing order (map now (sym old_is k)) (map now (drop (j + 1) new))))

  pub step_less : (old new : List (Bor X)) (i j : ℕ) (x y : Bor X) (gs gs' all : List Ends)
      → i < length old → j < length new → x ≡ get_or old i x → y ≡ get_or new j y
      → order x.now y.now ≡ Less
      → gs' ≡ gs ++ ground x.now ∷ [] → gs ++ map ground (left old new i j) ≡ all
      → gs' ++ map ground (left old new (i + 1) j) ≡ all
  step_less old new i j x y gs gs' all below below' is is' less more kept =
      let found : left old new i j ≡ x.now ∷ left old new (i + 1) j =
      here old new i j x y below below' is is'
      ∙ ap (λ o. match_ordering o (x.now ∷ left old new (i + 1) j) (left old new (i + 1) (j + 1))
      (y.now ∷ left old new i (j + 1))) less in
      ap (λ zs. zs ++ map ground (left old new (i + 1) j)) more
      ∙ append_assoc gs (ground x.now ∷ []) (map ground (left old new (i + 1) j))
      ∙ ap (λ zs. gs ++ map ground zs) (sym found) ∙ kept

  pub step_equal : (old new : List (Bor X)) (i j : ℕ) (x y : Bor X) (gs all : List Ends)
      → i < length old → j < length new → x ≡ get_or old i x → y ≡ get_or new j y
      → order x.now y.now ≡ Equal
      → gs ++ map ground (left old new i j) ≡ all
      → gs ++ map ground (left old new (i + 1) (j + 1)) ≡ all
  step_equal old new i j x y gs all below below' is is' tie kept =
      let found : left old new i j ≡ left old new (i + 1) (j + 1) =
      here old new i j x y below below' is is'
      ∙ ap (λ o. match_ordering o (x.now ∷ left old new (i + 1) j) (left old new (i + 1) (j + 1))
      (y.now ∷ left old new i (j + 1))) tie in
      ap (λ zs. gs ++ map ground zs) (sym found) ∙ kept

  pub step_greater : (old new : List (Bor X)) (i j : ℕ) (x y : Bor X) (gs gs' all : List Ends)
      → i < length old → j < length new → x ≡ get_or old i x → y ≡ get_or new j y
      → order x.now y.now ≡ Greater
      → gs' ≡ gs ++ ground y.now ∷ [] → gs ++ map ground (left old new i j) ≡ all
      → gs' ++ map ground (left old new i (j + 1)) ≡ all
  step_greater old new i j x y gs gs' all below below' is is' greater more kept =
      let found : left old new i j ≡ y.now ∷ left old new i (j + 1) =
      here old new i j x y below below' is is'
      ∙ ap (λ o. match_ordering o (x.now ∷ left old new (i + 1) j) (left old new (i + 1) (j + 1))
      (y.now ∷ left old new i (j + 1))) greater in
      ap (λ zs. zs ++ map ground (left old new i (j + 1))) more
      ∙ append_assoc gs (ground y.now ∷ []) (map ground (left old new i (j + 1)))
      ∙ ap (λ zs. gs ++ map ground zs) (sym found) ∙ kept

  -- where one list has ended, the rest of the other one stands alone
  differing_end : (xs : List X) → differing order xs [] ≡ xs
  differing_end [] = refl
  differing_end (x ∷ xs) = ap (λ zs. x ∷ zs) (differing_end xs)

  one_ended : (xs ys : List X) → (xs ≡ []) ⊎ (ys ≡ []) → differing order xs ys ≡ xs ++ ys
  one_ended xs ys (inl none) =
      ap (λ zs. differing order zs ys) none ∙ ap (λ zs. zs ++ ys) (sym none)
  one_ended xs ys (inr none) =
      ap (differing order xs) none ∙ differing_end xs ∙ sym (append-nil xs)
      ∙ ap (λ zs. xs ++ zs) (sym none)

  map_now : (rs : List (Bor X))
      → map ground (map (λ (r : Bor X). r.now) rs) ≡ map (λ (r : Bor X). ground r.now) rs
  map_now [] = refl
  map_now (r ∷ rs) = ap (λ zs. ground r.now ∷ zs) (map_now rs)

  -- the end of the pass: what is left of the one list that has not ended
  pub rest_is : (old new : List (Bor X)) (i j : ℕ) (gs gs' gs'' all : List Ends)
      → (length old ≤ i) ⊎ (length new ≤ j)
      → gs' ≡ gs ++ map (λ (r : Bor X). ground r.now) (drop i old)
      → gs'' ≡ gs' ++ map (λ (r : Bor X). ground r.now) (drop j new)
      → gs ++ map ground (left old new i j) ≡ all → gs'' ≡ all
  rest_is old new i j gs gs' gs'' all ended first then kept =
      let now : Bor X → X = λ r. r.now in
      let both : differing order (map now (drop i old)) (map now (drop j new))
      ≡ map now (drop i old) ++ map now (drop j new) =
      one_ended (map now (drop i old)) (map now (drop j new)) (none ended) in
      then ∙ ap (λ zs. zs ++ map (λ (r : Bor X). ground r.now) (drop j new)) first
      ∙ append_assoc gs (map (λ (r : Bor X). ground r.now) (drop i old))
      (map (λ (r : Bor X). ground r.now) (drop j new))
      ∙ (λ k. gs ++ (sym (map_now (drop i old)) k ++ sym (map_now (drop j new)) k))
      ∙ ap (λ zs. gs ++ zs) (sym (map-append ground (map now (drop i old)) (map now (drop j new))))
      ∙ ap (λ zs. gs ++ map ground zs) (sym both) ∙ kept
    where
      none : (length old ≤ i) ⊎ (length new ≤ j) → (map (λ (r : Bor X). r.now) (drop i old) ≡ [])
          ⊎ (map (λ (r : Bor X). r.now) (drop j new) ≡ [])
      none (inl past) = inl (ap (map (λ (r : Bor X). r.now)) (drop_of_length-le old past))
      none (inr past) = inr (ap (map (λ (r : Bor X). r.now)) (drop_of_length-le new past))

pub empty_is : {X : Type 0} (xs : List X) → length xs ≡ 0 → xs ≡ []
empty_is [] e = refl
empty_is (x ∷ xs) e = absurd (omega arith)

-- all that is behind an index
pub rest_all : {X : Type 0} (i : ℕ) (xs : List X) → take (length xs - i) (drop i xs) ≡ drop i xs
rest_all i xs = take_all (length xs - i) (drop i xs) (omega (arith, length-drop i xs))
