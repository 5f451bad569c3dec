-- The places of the elements that pass a test, and what stands there.
use Rattle.std.proofs.Common.{◌≡◌, ℕ, zero, suc, ◌+◌, ◌-◌, ◌<◌, ◌≤◌, Bool, true, false, cond, All}
use Rattle.std.proofs.Common.{List, [], ◌∷◌, ◌++◌, length, map, filter, filter_map, fold, take}
use Rattle.std.proofs.Common.{drop, get_or, Option, None, refl, sym, ap, ◌∙◌, subst, arith}
use Rattle.std.proofs.Common.{ltb, ◌==◌}
use Rattle.std.specs.List.{SwappedAt, cons_option}
use Rattle.std.proofs.lemmas.Bool.{and_parts, eq-eqb, eqb-true, lt-ltb, ltb-true}
use Rattle.std.proofs.lemmas.Bool.{false_from_ne_true}
use Rattle.std.proofs.lemmas.List.{drop_more, get_or-drop, length-drop, length-take-le, take_more}
use Rattle.std.proofs.lemmas.List.{append-nil}
use Rattle.std.proofs.lemmas.List.Elements.{All-head, All-tail}
use Rattle.std.proofs.lemmas.List.Filters.{FiltersInPlace, FiltersInPlace-more_no}
use Rattle.std.proofs.lemmas.List.Filters.{FiltersInPlace-more_swap}
use Rattle.geo_addr.specs.Ranges.{Ends}
use Rattle.geo_terms.specs.Report.{same_ends}
use Rattle.geo_terms.specs.declared.place.Said.{Said}
use Rattle.csv_lines.specs.Doubled.{IsAlone, Shown, fate_by, is_next, places_from, shown, with_row}
use Rattle.csv_lines.specs.Repeats.{Rises, fate, fault_by, is_kept_by, repeat_faults}
use Rattle.csv_lines.specs.declared.fate.Fate.{Fate}
use Rattle.csv_lines.specs.declared.fate.Fate.TheVariants.{Kept}
use Rattle.csv_lines.specs.declared.fate.RepeatRules.{RepeatRules}
use Rattle.csv_lines.proofs.AloneLemmas.{alone_kept}
use Rattle.csv_lines.proofs.FateLemmas.{both, element_at, ends_same, fate_told, first_of_rest}
use Rattle.csv_lines.proofs.FateLemmas.{get_or_same, member_at}

heads : {Y : Type 0} (ys : List Y) (n : ℕ) (y : Y) (rest : List Y) → drop n ys ≡ y ∷ rest
    → (n < length ys) × ((d : Y) → get_or ys n d ≡ y) × (drop (n + 1) ys ≡ rest)
heads ys n y rest e =
    let long = length-drop n ys in
    let some : length (drop n ys) ≡ suc (length rest) = ap length e in
    let l : n < length ys = omega arith in (
      l,
      λ d. let pair : get_or ys n d ∷ drop (n + 1) ys ≡ y ∷ rest = sym (drop_more ys n d l) ∙ e in
          cc,
      let pair : get_or ys n y ∷ drop (n + 1) ys ≡ y ∷ rest = sym (drop_more ys n y l) ∙ e in cc,
    )

module _ {X : Type 0} (p : X → Bool) where
  push_step : (b : Bool) (i : ℕ) (us vs ws : List ℕ) → us ≡ vs ++ ws
      → cond b (i ∷ us) us ≡ cond b (i ∷ vs) vs ++ ws
  push_step true i us vs ws e = ap (λ t. i ∷ t) e
  push_step false i us vs ws e = e

  places_push : (i : ℕ) (xs : List X) (y : X) → places_from p i (xs ++ (y ∷ []))
      ≡ places_from p i xs ++ cond (p y) ((i + length xs) ∷ []) []
  places_push i [] y =
      let e : i ≡ i + 0 = omega arith in
      ap (λ n. cond (p y) (n ∷ []) []) e
  places_push i (x ∷ xs) y =
      let e : i + 1 + length xs ≡ i + length (x ∷ xs) = omega arith in
      push_step (p x) i (places_from p (i + 1) (xs ++ (y ∷ []))) (places_from p (i + 1) xs)
      (cond (p y) ((i + length (x ∷ xs)) ∷ []) []) (places_push (i + 1) xs y
      ∙ ap (λ n. places_from p (i + 1) xs ++ cond (p y) (n ∷ []) []) e)

  -- one more element
  places_more : (xs : List X) (n : ℕ) (x : X) → n < length xs → x ≡ get_or xs n x
      → places_from p 0 (take (n + 1) xs)
      ≡ places_from p 0 (take n xs) ++ cond (p x) (n ∷ []) []
  places_more xs n x l is =
      let long = length-take-le n xs (omega arith) in
      let e : 0 + length (take n xs) ≡ n = omega arith in
      ap (places_from p 0) (take_more xs n x l)
      ∙ places_push 0 (take n xs) (get_or xs n x)
      ∙ ap (λ m. places_from p 0 (take n xs) ++ cond (p (get_or xs n x)) (m ∷ []) []) e
      ∙ ap (λ y. places_from p 0 (take n xs) ++ cond (p y) (n ∷ []) []) (sym is)

  pub places_yes : (xs : List X) (n : ℕ) (x : X) → n < length xs → x ≡ get_or xs n x
      → p x ≡ true
      → places_from p 0 (take n xs) ++ (n ∷ []) ≡ places_from p 0 (take (n + 1) xs)
  places_yes xs n x l is holds =
      sym (places_more xs n x l is
      ∙ ap (λ b. places_from p 0 (take n xs) ++ cond b (n ∷ []) []) holds)

  pub places_no : (xs : List X) (n : ℕ) (x : X) → n < length xs → x ≡ get_or xs n x
      → p x ≡ false → places_from p 0 (take n xs) ≡ places_from p 0 (take (n + 1) xs)
  places_no xs n x l is fails =
      sym (places_more xs n x l is
      ∙ ap (λ b. places_from p 0 (take n xs) ++ cond b (n ∷ []) []) fails
      ∙ append-nil (places_from p 0 (take n xs)))

  bound_step : (b : Bool) (i n : ℕ) (us : List ℕ)
      → ((k : ℕ) → k < length us → (i + 1 ≤ get_or us k 0) × (get_or us k 0 < i + 1 + n))
      → (j : ℕ) → j < length (cond b (i ∷ us) us)
      → (i ≤ get_or (cond b (i ∷ us) us) j 0) × (get_or (cond b (i ∷ us) us) j 0 < i + suc n)
  bound_step true i n us more zero l = (omega arith, omega arith)
  bound_step true i n us more (suc j) l =
      let m = more j (omega arith) in (omega (arith, m.0), omega (arith, m.1))
  bound_step false i n us more j l =
      let m = more j l in (omega (arith, m.0), omega (arith, m.1))

  place_bound : (i : ℕ) (xs : List X) (j : ℕ) → j < length (places_from p i xs)
      → (i ≤ get_or (places_from p i xs) j 0) × (get_or (places_from p i xs) j 0 < i + length xs)
  place_bound i [] j l = absurd (omega arith)
  place_bound i (x ∷ xs) j l =
      bound_step (p x) i (length xs) (places_from p (i + 1) xs) (place_bound (i + 1) xs) j l

  -- each is a place of the list
  pub places_within : (xs : List X) → All (λ i. i < length xs) (places_from p 0 xs)
  places_within xs j d l =
      let m = place_bound 0 xs j l in
      rw (get_or_same (places_from p 0 xs) j d 0 l) (omega (arith, m.1))

  long_step : (b : Bool) (i : ℕ) (x : X) (us : List ℕ) (ys : List X) → length us ≡ length ys
      → length (cond b (i ∷ us) us) ≡ length (cond b (x ∷ ys) ys)
  long_step true i x us ys e = ap suc e
  long_step false i x us ys e = e

  pub length-places : (i : ℕ) (xs : List X) → length (places_from p i xs) ≡ length (filter p xs)
  length-places i [] = refl
  length-places i (x ∷ xs) =
      long_step (p x) i x (places_from p (i + 1) xs) (filter p xs) (length-places (i + 1) xs)

  picked_step : (b : Bool) (i : ℕ) (x : X) (xs ys : List X) (us : List ℕ) (d : X)
      → ((k : ℕ) → k < length us → (i + 1 ≤ get_or us k 0)
      × (get_or ys k d ≡ get_or xs (get_or us k 0 - (i + 1)) d))
      → (j : ℕ) → j < length (cond b (i ∷ us) us)
      → get_or (cond b (x ∷ ys) ys) j d ≡ get_or (x ∷ xs) (get_or (cond b (i ∷ us) us) j 0 - i) d
  picked_step true i x xs ys us d more zero l =
      let e : i - i ≡ 0 = omega arith in
      rw e refl
  picked_step true i x xs ys us d more (suc j) l =
      let m = more j (omega arith) in
      let e : get_or us j 0 - i ≡ suc (get_or us j 0 - (i + 1)) = omega (arith, m.0) in
      rw e (m.1)
  picked_step false i x xs ys us d more j l =
      let m = more j l in
      let e : get_or us j 0 - i ≡ suc (get_or us j 0 - (i + 1)) = omega (arith, m.0) in
      rw e (m.1)

  picked_from : (i : ℕ) (xs : List X) (d : X) (j : ℕ) → j < length (places_from p i xs)
      → get_or (filter p xs) j d ≡ get_or xs (get_or (places_from p i xs) j 0 - i) d
  picked_from i [] d j l = absurd (omega arith)
  picked_from i (x ∷ xs) d j l =
      picked_step (p x) i x xs (filter p xs) (places_from p (i + 1) xs) d
      (λ k m. ((place_bound (i + 1) xs k m).0, picked_from (i + 1) xs d k m)) j l

  -- what stands at a place is the element that passes
  pub picked : (xs : List X) (places : List ℕ) (j : ℕ) (x : X) → places ≡ places_from p 0 xs
      → j < length places → x ≡ get_or xs (get_or places j 0) x
      → (j < length (filter p xs)) × (x ≡ get_or (filter p xs) j x)
  picked xs places j x is l at =
      let same : length places ≡ length (places_from p 0 xs) = ap length is in
      let m : j < length (places_from p 0 xs) = omega arith in
      let long = length-places 0 xs in
      let none : get_or (places_from p 0 xs) j 0 ≡ get_or (places_from p 0 xs) j 0 - 0 =
      omega arith in (
        omega arith,
        at ∙ ap (λ (ps : List ℕ). get_or xs (get_or ps j 0) x) is
            ∙ ap (λ n. get_or xs n x) none ∙ sym (picked_from 0 xs x j m),
      )

  -- what gives nothing where the test fails gives all from those that pass
  pub filtered_map : {Y : Type 0} (h : X → Option Y) (xs : List X)
      → All (λ x. p x ≡ false → h x ≡ None) xs → filter_map h (filter p xs) ≡ filter_map h xs
  filtered_map h [] all = refl
  filtered_map h (x ∷ xs) all =
      by (p x) refl
      (filtered_map h xs (All-tail (λ y. p y ≡ false → h y ≡ None) x xs all))
    where
      by : (b : Bool) → p x ≡ b → filter_map h (filter p xs) ≡ filter_map h xs
          → filter_map h (cond b (x ∷ filter p xs) (filter p xs))
          ≡ cons_option (h x) (filter_map h xs)
      by true e more = ap (cons_option (h x)) more
      by false e more =
          let none : h x ≡ None = All-head (λ y. p y ≡ false → h y ≡ None) x xs all e in
          more ∙ rw none refl

  -- what is left of the places and their fates at an element
  pub record Cursor (f : X → Fate) (xs : List X) (places : List ℕ) (fates : List Fate)
      (n i : ℕ) : Type 0 where
    pub places_left : drop n places ≡ places_from p i (drop i xs)
    pub fates_left : drop n fates ≡ map f (filter p (drop i xs))

  module _ (f : X → Fate) (xs : List X) (places : List ℕ) (fates : List Fate) (n i : ℕ) where
    passed : (us : List ℕ) → drop n places ≡ i ∷ us → is_next places n i ≡ true
    passed us e =
        let (l, at, rest) = heads places n i us e in
        both (ltb n (length places)) (get_or places n 0 == i) (lt-ltb n (length places) l)
        (eq-eqb (get_or places n 0) i (at 0))

    not_passed : (ys : List X) → drop n places ≡ places_from p (i + 1) ys
        → is_next places n i ≡ false
    not_passed ys e = false_from_ne_true _ (λ h.
        let (less, same) = and_parts (ltb n (length places)) (get_or places n 0 == i) h in
        let l = ltb-true n (length places) less in
        let here = eqb-true (get_or places n 0) i same in
        let none : n + 0 ≡ n = omega arith in
        let front : get_or places n 0 ≡ get_or (places_from p (i + 1) ys) 0 0 =
        ap (λ m. get_or places m 0) (sym none) ∙ sym (get_or-drop n places 0 0)
        ∙ ap (λ t. get_or t 0 0) e in
        let long : length (places_from p (i + 1) ys) ≡ length places - n =
        ap length (sym e) ∙ length-drop n places in
        let m = place_bound (i + 1) ys 0 (omega arith) in
        omega (arith, m.0))

    abbrev Step : X → Bool → Type 0
    Step x b =
        (cond b (get_or fates n Kept) Kept ≡ f x)
        × Cursor f xs places fates (cond b (n + 1) n) (i + 1)

    -- one more element
    pub cursor_more : Cursor f xs places fates n i → (x : X) → i < length xs → x ≡ get_or xs i x
        → (p x ≡ false → f x ≡ Kept) → Step x (is_next places n i)
    cursor_more at x l is others = by (p x) refl
        (at.places_left ∙ ap (places_from p i) front)
        (at.fates_left ∙ ap (λ t. map f (filter p t)) front)
      where
        rest : List X
        rest = drop (i + 1) xs

        front : drop i xs ≡ x ∷ drop (i + 1) xs
        front = drop_more xs i x l ∙ ap (λ y. y ∷ drop (i + 1) xs) (sym is)

        by : (b : Bool) → p x ≡ b
            → drop n places ≡ cond b (i ∷ places_from p (i + 1) rest) (places_from p (i + 1) rest)
            → drop n fates ≡ map f (cond b (x ∷ filter p rest) (filter p rest))
            → Step x (is_next places n i)
        by true e places_is fates_is =
            let (l, at, places_rest) = heads places n i (places_from p (i + 1) rest) places_is in
            let (m, told, fates_rest) = heads fates n (f x) (map f (filter p rest)) fates_is in
            subst (λ (b : Bool). Step x b) (sym (passed (places_from p (i + 1) rest) places_is))
            (told Kept, record { places_left = places_rest; fates_left = fates_rest })
        by false e places_is fates_is =
            subst (λ (b : Bool). Step x b) (sym (not_passed rest places_is))
            (sym (others e), record { places_left = places_is; fates_left = fates_is })

  module _ (f : X → Fate) (xs ys : List X) (places : List ℕ) (fates : List Fate) (k n i : ℕ)
      (so_far : FiltersInPlace (λ x. is_kept_by (f x)) xs ys k i)
      (at : Cursor f xs places fates n i) (others : All (λ x. p x ≡ false → f x ≡ Kept) xs)
      (l : i < length ys) where
    told_here : (x : X) → x ≡ get_or ys i x → Step f xs places fates n i x (is_next places n i)
    told_here x e =
        let same : x ≡ get_or xs i x = e ∙ first_of_rest ys xs i x so_far.rest in
        let long : i < length xs = rw (← so_far.long) l in
        cursor_more f xs places fates n i at x long same
        (subst (λ (y : X). p y ≡ false → f y ≡ Kept) (sym same) (others i x long))

    pub keep_yes : (zs : List X) (r : Fate) (m : ℕ)
        → r ≡ cond (is_next places n i) (get_or fates n Kept) Kept
        → m ≡ cond (is_next places n i) (n + 1) n → is_kept_by r ≡ true → SwappedAt ys zs k i
        → FiltersInPlace (λ x. is_kept_by (f x)) xs zs (k + 1) (i + 1)
        × Cursor f xs places fates m (i + 1)
    keep_yes zs r m is_r is_m holds swapped =
        let (x, e) = element_at ys i l in
        let (told, onwards) = told_here x e in (
          FiltersInPlace-more_swap so_far l (ap is_kept_by (sym (is_r ∙ told)) ∙ holds) e swapped,
          subst (λ (q : ℕ). Cursor f xs places fates q (i + 1)) (sym is_m) onwards,
        )

    pub keep_no : (r : Fate) (m : ℕ)
        → r ≡ cond (is_next places n i) (get_or fates n Kept) Kept
        → m ≡ cond (is_next places n i) (n + 1) n → is_kept_by r ≡ false
        → FiltersInPlace (λ x. is_kept_by (f x)) xs ys k (i + 1)
        × Cursor f xs places fates m (i + 1)
    keep_no r m is_r is_m fails =
        let (x, e) = element_at ys i l in
        let (told, onwards) = told_here x e in (
          FiltersInPlace-more_no so_far l (ap is_kept_by (sym (is_r ∙ told)) ∙ fails) e,
          subst (λ (q : ℕ). Cursor f xs places fates q (i + 1)) (sym is_m) onwards,
        )

  -- what changes nothing where the test fails makes of all what it makes of those that pass
  pub filtered_fold : {Y : Type 0} (g : Y → X → Y) (xs : List X) (s : Y)
      → ((t : Y) (x : X) → p x ≡ false → g t x ≡ t) → fold g s (filter p xs) ≡ fold g s xs
  filtered_fold {Y = Y} g [] s stays = refl
  filtered_fold {Y = Y} g (x ∷ xs) s stays =
      by (p x) refl (λ t. filtered_fold g xs t stays)
    where
      by : (b : Bool) → p x ≡ b → ((t : Y) → fold g t (filter p xs) ≡ fold g t xs)
          → fold g s (cond b (x ∷ filter p xs) (filter p xs)) ≡ fold g (g s x) xs
      by true e more = more (g s x)
      by false e more = more s ∙ ap (λ t. fold g t xs) (sym (stays s x e))

module _ {X : Type 0} (line : X → ℕ) (range : X → Ends) (said : X → Said) where
  -- what all lines of a line's range show tells its fate
  pub fate_picked : (all : List X) (q : Ends → Bool) (x : X) (i : ℕ) (s : Option Shown)
      → Rises 0 (map line all) → i < length all → x ≡ get_or all i x → q (range x) ≡ true
      → s ≡ shown line range said (filter (λ y. q (range y)) all) (range x)
      → fate_by s (line x) ≡ fate line range said all x
  fate_picked all q x i s up l is own told =
      let k = range x in
      let whole : shown line range said (filter (λ y. q (range y)) all) k
      ≡ shown line range said all k =
      filtered_fold (λ y. q (range y)) (λ t y. with_row line range said t y k) all None
      (λ t y fails.
      let other : same_ends (range y) k ≡ false = false_from_ne_true _ (λ h.
      let clash : true ≡ false = sym own ∙ ap q (sym (ends_same (range y) k h)) ∙ fails in cc) in
      rw other refl) in
      ap (λ t. fate_by t (line x)) (told ∙ whole)
      ∙ fate_told line range said 0 all up x (member_at all i x l is)

  -- a line whose range is alone is kept
  pub others_kept : (all : List X) (q : Ends → Bool)
      → ((k : Ends) → q k ≡ false → IsAlone k (map range all))
      → All (λ x. q (range x) ≡ false → fate line range said all x ≡ Kept) all
  others_kept all q alone i d l fails =
      alone_kept line range said all (get_or all i d) i l (get_or_same all i d (get_or all i d) l)
      (alone (range (get_or all i d)) fails)

  pub others_silent : (rules : RepeatRules) (all : List X) (q : Ends → Bool)
      → ((k : Ends) → q k ≡ false → IsAlone k (map range all))
      → filter_map (λ x. fault_by rules (line x) (fate line range said all x))
      (filter (λ y. q (range y)) all)
      ≡ repeat_faults line range said rules all
  others_silent rules all q alone =
      filtered_map (λ y. q (range y))
      (λ x. fault_by rules (line x) (fate line range said all x)) all
      (λ i d l fails. ap (fault_by rules (line (get_or all i d)))
      (others_kept all q alone i d l fails))
