-- The number of a place that was just put into the list, and of one that stands in it.
use Rattle.std.proofs.Common.{◌≡◌, ℕ, suc, ◌+◌, ◌<◌, Bool, true, false, cond, not, ◌||◌, ltb}
use Rattle.std.proofs.Common.{zero, eqb, get_or, length-append, List, [], ◌∷◌, ◌++◌, length}
use Rattle.std.proofs.Common.{position}
use Rattle.std.proofs.Common.{Some, None, option_map, refl, sym, ap, ◌∙◌, arith, subst, ◌≤◌}
use Rattle.std.proofs.Common.{inl, inr}
use Rattle.std.proofs.lemmas.Bool.{cases_Bool}
use Rattle.std.specs.Cmp.Lexicographic.{bytes_decides}
use Rattle.std.specs.List.{AllByRecursion, list_any, position_or_len}
use Rattle.std.specs.Prelude.{slice_get}
use Rattle.std.proofs.lemmas.List.Folds.{list_any_at, position_or_len_push}
use Rattle.std.proofs.lemmas.List.Sums.{passes_at_first}
use Rattle.std.proofs.lemmas.Option.{slice_get-get_or}
use Rattle.geo_terms.specs.Numbers.{NumbersNamePlaces, NumbersStay, PlacesAreToldApart, number_of}
use Rattle.geo_terms.specs.Numbers.{place_at, same_place, with_place}
use Rattle.geo_terms.specs.PlaceEquality.{same_parts}
use Rattle.geo_terms.specs.PlaceForm.{PlaceParts, same_text}
use Rattle.std.proofs.lemmas.Bool.Decides.{Decides-ltb, nat_tests}

-- the index of a member behind one that does not pass
position_later : {X : Type 0} (q : X → Bool) (k : X) (xs : List X) (n : ℕ) → q k ≡ false
    → position q xs ≡ Some n → position q (k ∷ xs) ≡ Some (1 + n)
position_later q k xs n fails at = rw fails (grind (arith, nat_tests))

pub position_after_insert : {X : Type 0} (q : X → Bool) (xs : List X) (y : X) → q y ≡ true
    → position q (cond (list_any q xs) xs (xs ++ y ∷ [])) ≡ Some (position_or_len q xs)
position_after_insert q [] y is = rw is refl
position_after_insert q (x ∷ xs) y is =
    elim (q x) as (λ b. q x ≡ b → position q (cond (b || list_any q xs) (x ∷ xs)
    (x ∷ (xs ++ y ∷ []))) ≡ Some (cond (not b) (1 + position_or_len q xs) 0)) [
      | true ↦ λ e. rw e (grind (arith, nat_tests))
      | false ↦ λ e. elim (list_any q xs)
          as (λ b. position q (cond b xs (xs ++ y ∷ [])) ≡ Some (position_or_len q xs)
          → position q (cond b (x ∷ xs) (x ∷ (xs ++ y ∷ []))) ≡ Some (1 + position_or_len q xs)) [
            | true ↦ position_later q x xs (position_or_len q xs) e
            | false ↦ position_later q x (xs ++ y ∷ []) (position_or_len q xs) e
          ] (position_after_insert q xs y is)
    ] refl

-- two texts are the same where the test says so
pub text_told : (x y : List ℕ) → (same_text x y ≡ true → x ≡ y) × (x ≡ y → same_text x y ≡ true)
text_told x y = bytes_decides x y

pub place_is_itself : (x y : PlaceParts) → x ≡ y → same_place x y ≡ true
place_is_itself x y e =
    rw (
      (text_told x.country y.country).1 (ap (λ p. p.country) e),
      (text_told x.region y.region).1 (ap (λ p. p.region) e),
      (text_told x.city y.city).1 (ap (λ p. p.city) e),
      (text_told x.postal y.postal).1 (ap (λ p. p.postal) e),
    ) refl

pub places_are_told_apart : PlacesAreToldApart
places_are_told_apart x y = (same_parts x y, place_is_itself x y)

pub fails_at : (q : PlaceParts → Bool) (xs : List PlaceParts) (p : PlaceParts) (i : ℕ)
    → AllByRecursion (λ y. q y ≡ false) xs → slice_get xs i ≡ Some p → q p ≡ false
fails_at q [] p zero none at = absurd (let e : None ≡ Some p = at in cc)
fails_at q [] p (suc i) none at = absurd (let e : None ≡ Some p = at in cc)
fails_at q (x ∷ xs) p zero none at =
    let is : x ≡ p = (let e : Some x ≡ Some p = at in cc) in ap q (sym is) ∙ none.0
fails_at q (x ∷ xs) p (suc i) none at = fails_at q xs p i none.1 at

pub told_apart_back : (x y : PlaceParts) → same_place x y ≡ false → same_place y x ≡ false
told_apart_back x y apart =
    elim (same_place y x) as (λ b. same_place y x ≡ b → b ≡ false) [
      | true ↦ λ e. sym (place_is_itself x y (sym (same_parts y x e))) ∙ apart
      | false ↦ λ e. refl
    ] refl

pub numbers_name_places : NumbersNamePlaces
numbers_name_places places p n =
    by_test (ltb (position_or_len (same_place p) places) (length places)) refl
  where
    by_test : (b : Bool) → ltb (position_or_len (same_place p) places) (length places) ≡ b
        → option_map (λ i. i + 1) (cond b (Some (position_or_len (same_place p) places)) None)
        ≡ Some n → place_at places n ≡ Some p
    by_test false is e = absurd (let f : None ≡ Some n = e in cc)
    by_test true is e =
        let i = position_or_len (same_place p) places in
        let below : i < length places = (Decides-ltb i (length places)).0 is in
        let at : n ≡ suc i =
        (let f : Some (i + 1) ≡ Some n = e in let g : i + 1 ≡ n = cc in omega arith) in
        let found : p ≡ get_or places i p =
        same_parts p (get_or places i p) (passes_at_first (same_place p) places p below) in
        rw (at, slice_get-get_or places i p below) (ap (λ q. Some q) (sym found))

-- a list with the place in it is the same once it is put in
pub table_kept : (places : List PlaceParts) (p : PlaceParts) (n : ℕ) → number_of places p ≡ Some n
    → places ≡ with_place places p
table_kept places p n = by_test (ltb (position_or_len (same_place p) places) (length places)) refl
  where
    by_test : (b : Bool) → ltb (position_or_len (same_place p) places) (length places) ≡ b
        → option_map (λ i. i + 1) (cond b (Some (position_or_len (same_place p) places)) None)
        ≡ Some n → places ≡ with_place places p
    by_test false is e = absurd (let f : None ≡ Some n = e in cc)
    by_test true is e =
        let i = position_or_len (same_place p) places in
        let below : i < length places = (Decides-ltb i (length places)).0 is in
        let any : list_any (same_place p) places ≡ true =
        list_any_at (same_place p) places i p below
        (passes_at_first (same_place p) places p below) in
        rw any refl

-- a member at the end changes no index of one that was found before it
pub position_stays : {X : Type 0} (q : X → Bool) (xs : List X) (y : X) (n : ℕ)
    → option_map (λ i. i + 1) (position q xs) ≡ Some n
    → option_map (λ i. i + 1) (position q (xs ++ y ∷ [])) ≡ Some n
position_stays {X} q xs y n = by_test (ltb (position_or_len q xs) (length xs)) refl
  where
    by_test : (b : Bool) → ltb (position_or_len q xs) (length xs) ≡ b
        → option_map (λ i. i + 1) (cond b (Some (position_or_len q xs)) None) ≡ Some n
        → option_map (λ i. i + 1) (position q (xs ++ y ∷ [])) ≡ Some n
    by_test false is e = absurd (let f : None ≡ Some n = e in cc)
    by_test true is e =
        let below : position_or_len q xs < length xs =
        (Decides-ltb (position_or_len q xs) (length xs)).0 is in
        let apart : eqb (position_or_len q xs) (length xs) ≡ false = grind (arith, nat_tests) in
        let same : position_or_len q (xs ++ y ∷ []) ≡ position_or_len q xs =
        position_or_len_push q xs y
        ∙ ap (λ b. cond b (length xs + cond (q y) 0 1) (position_or_len q xs)) apart in
        let within : ltb (position_or_len q (xs ++ y ∷ [])) (length (xs ++ y ∷ [])) ≡ true =
        (Decides-ltb (position_or_len q (xs ++ y ∷ [])) (length (xs ++ y ∷ []))).1
        (omega (arith, length-append xs (y ∷ []))) in
        ap (λ b. option_map (λ i. i + 1) (cond b (Some (position_or_len q (xs ++ y ∷ []))) None))
        within
        ∙ ap (λ i. Some (i + 1)) same ∙ e

pub numbers_stay : NumbersStay
numbers_stay places p more n h =
    elim (list_any (same_place more) places)
    as (λ b. number_of (cond b places (places ++ more ∷ [])) p ≡ Some n)
    [ true ↦ h | false ↦ position_stays (same_place p) places more n h ]

-- ---- one more place at the end

at_most : {X : Type 0} (q : X → Bool) (xs : List X) → position_or_len q xs ≤ length xs
at_most q [] = omega arith
at_most q (x ∷ xs) =
    let h = at_most q xs in
    elim (cases_Bool (q x)) [ inl e ↦ rw e (omega arith) | inr e ↦ rw e (omega (arith, h)) ]

at_end : (i n : ℕ) → i ≤ n → option_map (λ k. k + 1) (cond (ltb i n) (Some i) None) ≡ None
    → Some (n + 1) ≡ option_map (λ k. k + 1)
    (cond (ltb (cond (eqb i n) (n + 0) i) (n + 1)) (Some (cond (eqb i n) (n + 0) i)) None)
at_end i n most none = grind (arith, nat_tests)

as_before : (i n : ℕ) → i ≤ n
    → option_map (λ k. k + 1) (cond (ltb i n) (Some i) None) ≡ option_map (λ k. k + 1)
    (cond (ltb (cond (eqb i n) (n + 1) i) (n + 1)) (Some (cond (eqb i n) (n + 1) i)) None)
as_before i n most = grind (arith, nat_tests)

pub number_push : (xs : List PlaceParts) (p q : PlaceParts) → number_of xs p ≡ None
    → cond (same_place p q) (Some (length xs + 1)) (number_of xs q) ≡ number_of (xs ++ p ∷ []) q
number_push xs p q none =
    elim (same_place p q) as (λ b. same_place p q ≡ b
    → cond b (Some (length xs + 1)) (number_of xs q) ≡ number_of (xs ++ p ∷ []) q) [
      | true ↦ λ e.
          let is : p ≡ q = same_parts p q e in
          let own : number_of xs q ≡ None = subst (λ (z : PlaceParts). number_of xs z
          ≡ None) is none in
          rw (
            position_or_len_push (same_place q) xs p,
            place_is_itself q p (sym is),
            length-append xs (p ∷ []),
          ) (at_end (position_or_len (same_place q) xs) (length xs)
          (at_most (same_place q) xs) own)
      | false ↦ λ e.
          rw (
            position_or_len_push (same_place q) xs p,
            told_apart_back p q e,
            length-append xs (p ∷ []),
          ) (as_before (position_or_len (same_place q) xs) (length xs)
          (at_most (same_place q) xs))
    ] refl

pub absent_any : (xs : List PlaceParts) (p : PlaceParts) → number_of xs p ≡ None
    → list_any (same_place p) xs ≡ false
absent_any xs p none =
    elim (list_any (same_place p) xs)
    as (λ b. position (same_place p) (cond b xs (xs ++ p ∷ []))
    ≡ Some (position_or_len (same_place p) xs) → b ≡ false) [
      | true ↦ λ e. absurd (let f : None ≡ Some (position_or_len (same_place p) xs + 1) =
          sym none ∙ ap (option_map (λ i. i + 1)) e in cc)
      | false ↦ λ e. refl
    ] (position_after_insert (same_place p) xs p (place_is_itself p p refl))

-- a new place has the next number, and stands last
pub number_new : (xs ys : List PlaceParts) (p : PlaceParts) (n : ℕ) → number_of xs p ≡ None
    → ys ≡ xs ++ p ∷ [] → n ≡ length xs → number_of ys p ≡ Some (n + 1)
number_new xs ys p n none pushed long =
    let last : cond (same_place p p) (Some (length xs + 1)) (number_of xs p)
    ≡ Some (length xs + 1) =
    rw (place_is_itself p p refl) refl in
    rw (pushed, long) (sym (number_push xs p p none) ∙ last)

pub table_new : (xs ys : List PlaceParts) (p : PlaceParts) → number_of xs p ≡ None
    → ys ≡ xs ++ p ∷ [] → ys ≡ with_place xs p
table_new xs ys p none pushed = rw (absent_any xs p none) pushed
