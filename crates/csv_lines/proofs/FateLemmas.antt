-- What becomes of lines of the same range, told by the first of each range.
use Rattle.std.proofs.Common.{inl, inr, ◌≡◌, ℕ, zero, suc, ◌+◌, ◌-◌, ◌<◌, ◌≤◌, ◌⊎◌, ltb, Bool, true}
use Rattle.std.proofs.Common.{false, not, cond, ◌&&◌, ◌||◌, ◌==◌, All, AllPairs, List, [], ◌∷◌}
use Rattle.std.proofs.Common.{◌++◌, length, map, filter, filter_map, find, fold, take, drop, get_or}
use Rattle.std.proofs.Common.{Option, Some, None, refl, sym, ap, ◌∙◌, subst, arith}
use Rattle.std.specs.List.{list_any}
use Rattle.std.proofs.lemmas.Bool.{and_parts, cases_Bool, cases_eq, cases_order, eqb-true, ltb-true}
use Rattle.std.proofs.lemmas.Bool.{lt-ltb, eq-eqb, le-ltb, or_right, and_left, and_right}
use Rattle.std.proofs.lemmas.Bool.{false_from_ne_true}
use Rattle.std.specs.Prelude.{MatchOption, option_to_list}
use Rattle.std.specs.List.{cons_option}
use Rattle.std.proofs.lemmas.List.{take_more, map-append, length-take-le, get_or-take}
use Rattle.std.proofs.lemmas.List.Quantifiers.{all_pairs_push}
use Rattle.geo_terms.specs.declared.note.LineNote.{LineNote}
use Rattle.std.proofs.lemmas.List.Elements.{All-head, All-tail, All-weaker, filter_map-append}
use Rattle.std.proofs.lemmas.List.Folds.{list_any_none}
use Rattle.std.proofs.lemmas.List.Sums.{fold_push}
use Rattle.geo_addr.specs.Ranges.{Ends}
use Rattle.geo_terms.proofs.NumberLemmas.{places_are_told_apart}
use Rattle.geo_terms.specs.Report.{same_ends}
use Rattle.geo_terms.specs.declared.place.Said.{Said}
use Rattle.geo_terms.specs.declared.place.Said.TheVariants.{Nothing, At}
use Rattle.csv_lines.specs.Repeats.{Rises, fate, fault_by, is_kept_by, kept, is_contradicted}
use Rattle.csv_lines.specs.Repeats.{is_repetition, repeat_faults, same_range, same_said}
use Rattle.std.specs.Ordering.{is_eq}
use Rattle.std.proofs.lemmas.Bool.Decides.{nat_tests}
use Rattle.csv_lines.specs.Doubled.{IsBelow, Shown, ends_cmp, fate_by, more, shown, with_row}
use Rattle.csv_lines.specs.declared.fate.Fate.{Fate}
use Rattle.csv_lines.specs.declared.fate.RepeatRules.{RepeatRules}
use Rattle.csv_lines.specs.declared.fate.Fate.TheVariants.{Kept, Repeats, Differs}

-- membership by recursion
abbrev pub Member : {X : Type 0} → List X → X → Type 0
Member [] x = ⊥
Member (y ∷ ys) x = (y ≡ x) ⊎ Member ys x

-- ---- the tests

pub ends_same : (x y : Ends) → same_ends x y ≡ true → x ≡ y
ends_same x y h =
    let (one, two) = and_parts (x.first == y.first) (x.last == y.last) h in
    let first = eqb-true x.first y.first one in
    let last = eqb-true x.last y.last two in
    λ i. record { first = first i; last = last i }

pub ends_itself : (x : Ends) → same_ends x x ≡ true
ends_itself x = rw (eq-eqb x.first x.first refl, eq-eqb x.last x.last refl) refl

-- two ranges are equal by their order where they are equal by their ends
pub ends_tie : (x y : Ends) → is_eq (ends_cmp x y) ≡ same_ends x y
ends_tie x y = grind (arith, nat_tests)

said_same : (x y : Said) → same_said x y ≡ true → x ≡ y
said_same Nothing Nothing h = refl
said_same Nothing (At q) h = absurd cc
said_same (At p) Nothing h = absurd cc
said_same (At p) (At q) h = ap At ((places_are_told_apart p q).0 h)

pub said_itself : (x : Said) → same_said x x ≡ true
said_itself Nothing = refl
said_itself (At p) = (places_are_told_apart p p).1 refl

-- two tests that tell each other are one
same_tests : (a b : Bool) → (a ≡ true → b ≡ true) → (b ≡ true → a ≡ true) → a ≡ b
same_tests true b f g = sym (f refl)
same_tests false true f g = g refl
same_tests false false f g = refl

-- ---- tests of a list that one member passes

any_step : {X : Type 0} (p : X → Bool) (x : X) (xs : List X) (b : Bool) → p x ≡ b
    → (list_any p xs ≡ true → (y : X) × Member xs y × (p y ≡ true)) → (b || list_any p xs) ≡ true
    → (y : X) × Member (x ∷ xs) y × (p y ≡ true)
any_step p x xs true e more k = (x, inl refl, e)
any_step p x xs false e more k = let (y, m, is) = more k in (y, inr m, is)

any_cases : {X : Type 0} (p : X → Bool) (xs : List X) → list_any p xs ≡ true
    → (x : X) × Member xs x × (p x ≡ true)
any_cases p [] h = absurd cc
any_cases p (x ∷ xs) h = any_step p x xs (p x) refl (any_cases p xs) h

pub any_from : {X : Type 0} (p : X → Bool) (xs : List X) (x : X) → Member xs x → p x ≡ true
    → list_any p xs ≡ true
any_from p [] x m e = absurd m
any_from p (y ∷ ys) x (inl is) e = let here : p y ≡ true = ap p is ∙ e in rw here refl
any_from p (y ∷ ys) x (inr m) e = or_right (p y) (list_any p ys) (any_from p ys x m e)

pub member_at : {X : Type 0} (xs : List X) (i : ℕ) (x : X) → i < length xs → x ≡ get_or xs i x
    → Member xs x
member_at [] i x l e = absurd (omega arith)
member_at (y ∷ ys) zero x l e = inl (sym e)
member_at (y ∷ ys) (suc i) x l e = inr (member_at ys i x (omega arith) e)

or_false : (d : Bool) → (d || false) ≡ d
or_false true = refl
or_false false = refl

or_assoc : (a b c : Bool) → ((a || b) || c) ≡ (a || (b || c))
or_assoc true b c = refl
or_assoc false b c = refl

pub both : (a b : Bool) → a ≡ true → b ≡ true → (a && b) ≡ true
both a b e f = rw (e, f) refl

apart_back : (x y : Said) → not (same_said y x) ≡ true → not (same_said x y) ≡ true
apart_back x y e = elim (cases_Bool (same_said x y)) [
  | inl same ↦ absurd (let f = said_same x y same in let g : not (same_said y y) ≡ true =
      subst (λ (s : Said). not (same_said y s) ≡ true) f e in let h = rw (said_itself y) at g in cc)
  | inr other ↦ rw other refl
]

pub get_or_same : {X : Type 0} (xs : List X) (i : ℕ) (d e : X) → i < length xs
    → get_or xs i d ≡ get_or xs i e
get_or_same [] i d e l = absurd (omega arith)
get_or_same (x ∷ xs) zero d e l = refl
get_or_same (x ∷ xs) (suc i) d e l = get_or_same xs i d e (omega arith)

filter_whole : {X : Type 0} (p : X → Bool) (xs : List X) → All (λ x. p x ≡ true) xs
    → filter p xs ≡ xs
filter_whole p [] all = refl
filter_whole p (x ∷ xs) all =
    rw (All-head (λ y. p y ≡ true) x xs all)
    (ap (λ t. x ∷ t) (filter_whole p xs (All-tail (λ y. p y ≡ true) x xs all)))

filter_map_none : {X Y : Type 0} (h : X → Option Y) (xs : List X) → All (λ x. h x ≡ None) xs
    → filter_map h xs ≡ []
filter_map_none h [] all = refl
filter_map_none h (x ∷ xs) all =
    rw (All-head (λ y. h y ≡ None) x xs all)
    (filter_map_none h xs (All-tail (λ y. h y ≡ None) x xs all))

module _ {X : Type 0} (line : X → ℕ) (range : X → Ends) (said : X → Said) where
  rises_all : (low : ℕ) (xs : List X) → Rises low (map line xs) → (y : X) → Member xs y
      → low ≤ line y
  rises_all low [] r y m = absurd m
  rises_all low (x ∷ xs) r y (inl is) = let e : line x ≡ line y = ap line is in omega (arith, r.0)
  rises_all low (x ∷ xs) r y (inr m) =
      let later = rises_all (line x + 1) xs r.1 y m in
      omega (arith, r.0)

  -- the first line that passes a test, and that no line that passes it is before it
  record FirstOf (p : X → Bool) (xs : List X) : Type 0 where
    first : X
    found : find p xs ≡ Some first
    member : Member xs first
    passes : p first ≡ true
    least : (y : X) → Member xs y → p y ≡ true → line first ≤ line y

  find_step : (p : X → Bool) (low : ℕ) (z : X) (zs : List X) → Rises low (map line (z ∷ zs))
      → (x : X) → Member (z ∷ zs) x → p x ≡ true → (b : Bool) → p z ≡ b
      → (Member zs x → FirstOf p zs) → FirstOf p (z ∷ zs)
  find_step p low z zs r x m e true is more = record {
    first = z;
    found = rw is refl;
    member = inl refl;
    passes = is;
    least = λ y n q. elim n [
      | inl same ↦ let at : line z ≡ line y = ap line same in omega arith
      | inr n ↦ let above = rises_all (line z + 1) zs r.1 y n in omega arith
    ];
  }
  find_step p low z zs r x (inl same) e false is more =
      absurd (let f : p z ≡ true = ap p same ∙ e in let g : true ≡ false = sym f ∙ is in cc)
  find_step p low z zs r x (inr m) e false is more =
      let rest = more m in
      record {
        first = rest.first;
        found = rw is rest.found;
        member = inr rest.member;
        passes = rest.passes;
        least = λ y n q. elim n [
          | inl same ↦ absurd (let f : p z ≡ true = ap p same ∙ q in
              let g : true ≡ false = sym f ∙ is in cc)
          | inr n ↦ rest.least y n q
        ];
      }

  find_first : (p : X → Bool) (low : ℕ) (xs : List X)
      → Rises low (map line xs) → (x : X) → Member xs x → p x ≡ true → FirstOf p xs
  find_first p low [] r x m e = absurd m
  find_first p low (z ∷ zs) r x m e =
      find_step p low z zs r x m e (p z) refl (λ n. find_first p (line z + 1) zs r.1 x n e)

  module _ (k : Ends) where
    abbrev of_range : X → Bool
    of_range y = same_ends (range y) k

    abbrev differs_from : Said → X → Bool
    differs_from s y = of_range y && not (same_said (said y) s)

    abbrev after : Option Shown → List X → Option Shown
    after s xs = fold (λ s x. with_row line range said s x k) s xs

    shown_some : (s : Shown) (xs : List X) → after (Some s) xs ≡ Some (record {
      line = s.line;
      said = s.said;
      differs = s.differs || list_any (differs_from s.said) xs;
    })
    shown_some s [] =
        ap Some (λ i. record { line = s.line; said = s.said; differs = sym (or_false s.differs) i })
    shown_some s (x ∷ xs) =
        some_step (of_range x) refl (shown_some s xs)
        (shown_some (more line range said (Some s) x) xs)
      where
        some_step : (b : Bool) → of_range x ≡ b
            → after (Some s) xs ≡ Some (record {
              line = s.line;
              said = s.said;
              differs = s.differs || list_any (differs_from s.said) xs;
            })
            → after (Some (more line range said (Some s) x)) xs ≡ Some (record {
              line = s.line;
              said = s.said;
              differs =
                  (s.differs || not (same_said (said x) s.said))
                  || list_any (differs_from s.said) xs;
            })
            → after (cond b (Some (more line range said (Some s) x)) (Some s)) xs ≡ Some (record {
              line = s.line;
              said = s.said;
              differs =
                  s.differs
                  || ((b && not (same_said (said x) s.said)) || list_any (differs_from s.said) xs);
            })
        some_step true e without with_it = with_it ∙ ap Some (λ i. record {
          line = s.line;
          said = s.said;
          differs =
              or_assoc s.differs (not (same_said (said x) s.said))
              (list_any (differs_from s.said) xs) i;
        })
        some_step false e without with_it = without

    abbrev summed : List X → X → Shown
    summed xs f =
        record { line = line f; said = said f; differs = list_any (differs_from (said f)) xs }

    shown_found : (xs : List X) (f : X) → find of_range xs ≡ Some f
        → after None xs ≡ Some (summed xs f)
    shown_found [] f e = absurd cc
    shown_found (x ∷ xs) f e =
        found_step (of_range x) refl (shown_some (more line range said None x) xs)
        (shown_found xs f) e
      where
        found_step : (b : Bool) → of_range x ≡ b
            → after (Some (more line range said None x)) xs ≡ Some
            (record { line = line x; said = said x; differs = list_any (differs_from (said x)) xs })
            → (find of_range xs ≡ Some f → after None xs ≡ Some (summed xs f))
            → cond b (Some x) (find of_range xs) ≡ Some f
            → after (cond b (Some (more line range said None x)) None) xs ≡ Some (record {
              line = line f;
              said = said f;
              differs =
                  (b && not (same_said (said x) (said f))) || list_any (differs_from (said f)) xs;
            })
        found_step true e first later is =
            let same : x ≡ f = cc in
            rw (← same) (first ∙ ap Some (λ i. record {
              line = line x;
              said = said x;
              differs =
                  (let t : false ≡ not (same_said (said x) (said x)) =
                  rw (said_itself (said x)) refl in
                  ap (λ b. b || list_any (differs_from (said x)) xs) t) i;
            }))
        found_step false e first later is = later is

  same_range_itself : (x : X) → same_range line range said x x ≡ true
  same_range_itself x = ends_itself (range x)

  not_true : (b : Bool) → not b ≡ true → b ≡ false
  not_true true e = absurd cc
  not_true false e = refl

  -- what the first line of the range and a later one that differs from
  -- it tell of any line of the range
  pub fate_told : (low : ℕ) (all : List X) → Rises low (map line all) → (x : X) → Member all x
      → fate_by (shown line range said all (range x)) (line x) ≡ fate line range said all x
  unfolding fate
  fate_told low all r x m =
      let k = range x in
      let f = find_first (of_range k) low all r x m (ends_itself (range x)) in
      let is = shown_found k all f.first f.found in
      let contradicted : list_any (differs_from k (said f.first)) all
      ≡ is_contradicted line range said all x = same_tests _ _
      (λ h.
      let (y, n, t) = any_cases (differs_from k (said f.first)) all h in
      let (own, apart) = and_parts (of_range k y) (not (same_said (said y) (said f.first))) t in
      elim (cases_Bool (same_said (said y) (said x))) [
        | inl same ↦
            let is_x = said_same (said y) (said x) same in
            any_from (differs_from k (said x)) all f.first f.member
            (both (of_range k f.first) (not (same_said (said f.first) (said x))) f.passes
            (apart_back (said f.first) (said x)
            (subst (λ (s : Said). not (same_said s (said f.first)) ≡ true) is_x apart)))
        | inr other ↦ any_from (differs_from k (said x)) all y n
            (both (of_range k y) (not (same_said (said y) (said x))) own (rw other refl))
      ])
      (λ h.
      let (y, n, t) = any_cases (differs_from k (said x)) all h in
      let (own, apart) = and_parts (of_range k y) (not (same_said (said y) (said x))) t in
      elim (cases_Bool (same_said (said y) (said f.first))) [
        | inl same ↦
            let is_f = said_same (said y) (said f.first) same in
            any_from (differs_from k (said f.first)) all x m
            (both (of_range k x) (not (same_said (said x) (said f.first))) (ends_itself (range x))
            (apart_back (said x) (said f.first)
            (subst (λ (s : Said). not (same_said s (said x)) ≡ true) is_f apart)))
        | inr other ↦ any_from (differs_from k (said f.first)) all y n
            (both (of_range k y) (not (same_said (said y) (said f.first))) own (rw other refl))
      ]) in
      let repeated : ltb (line f.first) (line x) ≡ is_repetition line range said all x =
      same_tests _ _
      (λ h. any_from (λ y. of_range k y && ltb (line y) (line x)) all f.first f.member
      (both (of_range k f.first) (ltb (line f.first) (line x)) f.passes h))
      (λ h.
      let (y, n, t) = any_cases (λ y. of_range k y && ltb (line y) (line x)) all h in
      let (own, lower) = and_parts (of_range k y) (ltb (line y) (line x)) t in
      let least = f.least y n own in
      let below = ltb-true (line y) (line x) lower in
      lt-ltb (line f.first) (line x) (omega arith)) in
      ap (λ s. fate_by s (line x)) is
      ∙ ap (λ b. cond b Differs (cond (ltb (line f.first) (line x)) Repeats Kept)) contradicted
      ∙ ap (λ b. cond (is_contradicted line range said all x) Differs (cond b Repeats Kept))
      repeated

  -- one more line in the map
  pub new_row : (old new : Ends → Option Shown) (x : X) (s : Shown) → old (range x) ≡ None
      → s ≡ more line range said None x
      → ((q : Ends) → new q ≡ cond (same_ends (range x) q) (Some s) (old q))
      → (k : Ends) → new k ≡ with_row line range said (old k) x k
  new_row old new x s none is updates k = updates k ∙ by (same_ends (range x) k) refl
    where
      by : (b : Bool) → same_ends (range x) k ≡ b
          → cond b (Some s) (old k) ≡ cond b (Some (more line range said (old k) x)) (old k)
      by true e =
          let at : old k ≡ None =
          subst (λ (q : Ends). old q ≡ None) (ends_same (range x) k e) none in
          rw at (ap Some is)
      by false e = refl

  -- one more line of a range that is in the map
  pub found_row : (old new : Ends → Option Shown) (x : X) (s t : Shown) → old (range x) ≡ Some s
      → t ≡ more line range said (Some s) x
      → ((q : Ends) → new q ≡ cond (same_ends (range x) q) (Some t) (old q))
      → (k : Ends) → new k ≡ with_row line range said (old k) x k
  found_row old new x s t found is updates k = updates k ∙ by (same_ends (range x) k) refl
    where
      by : (b : Bool) → same_ends (range x) k ≡ b
          → cond b (Some t) (old k) ≡ cond b (Some (more line range said (old k) x)) (old k)
      by true e =
          let at : old k ≡ Some s =
          subst (λ (q : Ends). old q ≡ Some s) (ends_same (range x) k e) found in
          rw at (ap Some is)
      by false e = refl

  -- what a line that differs leaves of its range
  pub differs_now : (s : Shown) (x : X) → same_said (said x) s.said ≡ false
      → record { line = s.line; said = s.said; differs = true } ≡ more line range said (Some s) x
  differs_now s x other = λ i. record {
    line = s.line;
    said = s.said;
    differs = sym (or_right s.differs (not (same_said (said x) s.said)) (rw other refl)) i;
  }

  pub shown_more : (xs : List X) (i : ℕ) (d : X) (k : Ends)
      → i < length xs → shown line range said (take (i + 1) xs) k
      ≡ with_row line range said (shown line range said (take i xs) k) (get_or xs i d) k
  shown_more xs i d k l =
      ap (λ t. shown line range said t k) (take_more xs i d l)
      ∙ fold_push (λ s x. with_row line range said s x k) None (take i xs) (get_or xs i d)

  -- ---- ranges that rise

  below_apart : (a b : Ends) → IsBelow a b → (same_ends a b ≡ false) × (same_ends b a ≡ false)
  below_apart a b below = (
    false_from_ne_true (same_ends a b) (λ h. let e = ends_same a b h in never a b below e),
    false_from_ne_true (same_ends b a) (λ h. let e = ends_same b a h in never a b below (sym e)),
  )
    where
      never : (a b : Ends) → IsBelow a b → a ≡ b → ⊥
      never a b (inl less) e = let f : a.first ≡ b.first = ap (λ r. r.first) e in omega arith
      never a b (inr less) e = let f : a.last ≡ b.last = ap (λ r. r.last) e in omega (arith, less.1)

  pub below_chain : (a b c : Ends) → IsBelow a b → IsBelow b c → IsBelow a c
  below_chain a b c (inl x) (inl y) = inl (omega arith)
  below_chain a b c (inl x) (inr y) = inl (omega (arith, y.0))
  below_chain a b c (inr x) (inl y) = inl (omega (arith, x.0))
  below_chain a b c (inr x) (inr y) = inr (x.0 ∙ y.0, omega (arith, x.1, y.1))

  -- no line has the range of another one
  abbrev pub Apart : List X → Type 0
  Apart all =
      AllPairs (λ x y. (same_ends (range x) (range y) ≡ false)
      × (same_ends (range y) (range x) ≡ false)) all

  abbrev Rising : List X → Type 0
  Rising all = AllPairs (λ x y. IsBelow (range x) (range y)) all

  rising_apart : (all : List X) → Rising all → Apart all
  rising_apart all up i j d less m =
      below_apart (range (get_or all i d)) (range (get_or all j d)) (up i j d less m)

  alone : (all : List X)
      → Apart all → (i : ℕ) (d : X) → i < length all → (q : X → Bool) → q (get_or all i d) ≡ false
      → list_any (λ y. same_range line range said y (get_or all i d) && q y) all ≡ false
  alone all apart i d l q fails = list_any_none _ all (λ j e m. elim (cases_order i j) [
    | inl same ↦ let at : get_or all j e ≡ get_or all i d = rw (← same) (get_or_same all i e d l) in
        rw at (and_right (same_range line range said (get_or all i d) (get_or all i d))
        (q (get_or all i d)) fails)
    | inr other ↦ elim other [
      | inl less ↦ and_left (same_range line range said (get_or all j e) (get_or all i d))
          (q (get_or all j e)) (rw (get_or_same all i d e l) ((apart i j e less m).1))
      | inr more ↦ and_left (same_range line range said (get_or all j e) (get_or all i d))
          (q (get_or all j e)) (rw (get_or_same all i d e l) ((apart j i e more l).0))
    ]
  ])

  each_kept : (all : List X) → Apart all → All (λ x. fate line range said all x ≡ Kept) all
  unfolding fate
  each_kept all apart i d l =
      let x = get_or all i d in
      let one = alone all apart i d l (λ y. not (same_said (said y) (said x)))
      (rw (said_itself (said x)) refl) in
      let two =
      alone all apart i d l (λ y. ltb (line y) (line x)) (le-ltb (line x) (line x) (omega arith)) in
      rw (one, two) refl

  pub apart_kept : (all : List X) → Apart all → kept line range said all ≡ all
  apart_kept all apart =
      filter_whole (λ x. is_kept_by (fate line range said all x)) all (All-weaker
      (λ x. fate line range said all x ≡ Kept) (λ x. is_kept_by (fate line range said all x) ≡ true)
      (λ x (e : fate line range said all x ≡ Kept). rw e refl) all (each_kept all apart))

  pub apart_silent : (rules : RepeatRules) (all : List X) → Apart all
      → repeat_faults line range said rules all ≡ []
  apart_silent rules all apart =
      filter_map_none (λ x. fault_by rules (line x) (fate line range said all x)) all
      (All-weaker (λ x. fate line range said all x ≡ Kept)
      (λ x. fault_by rules (line x) (fate line range said all x) ≡ None)
      (λ x (e : fate line range said all x ≡ Kept). rw e refl) all (each_kept all apart))

  pub all_kept : (all : List X) → Rising all → kept line range said all ≡ all
  all_kept all up = apart_kept all (rising_apart all up)

  pub none_repeats : (rules : RepeatRules) (all : List X) → Rising all
      → repeat_faults line range said rules all ≡ []
  none_repeats rules all up = apart_silent rules all (rising_apart all up)

  pub rising_more : (rows : List X) (i : ℕ) (x : X) (before : Option Ends) → i < length rows
      → x ≡ get_or rows i x → Rising (take i rows)
      → MatchOption before (i ≡ 0) (λ b. (0 < i) × ((d : X) → range (get_or rows (i - 1) d) ≡ b))
      → MatchOption before (Unit {0}) (λ b. IsBelow b (range x)) → Rising (take (i + 1) rows)
  rising_more rows i x None l is up none below =
      rw (take_more rows i x l)
      (all_pairs_push (λ y z. IsBelow (range y) (range z)) (take i rows) (get_or rows i x) up
      (λ k d m. absurd (let t = length-take-le i rows (omega arith) in omega arith)))
  rising_more rows i x (Some b) l is up (some, at) below =
      rw (take_more rows i x l)
      (all_pairs_push (λ y z. IsBelow (range y) (range z)) (take i rows) (get_or rows i x) up
      (λ k d m. reached k d (let t = length-take-le i rows (omega arith) in omega arith)))
    where
      reached : (k : ℕ) (d : X) → k < i
          → IsBelow (range (get_or (take i rows) k d)) (range (get_or rows i x))
      reached k d m =
          let own : IsBelow b (range (get_or rows i x)) =
          subst (λ (z : X). IsBelow b (range z)) is below in
          elim (cases_eq k (i - 1)) [
            | inl last ↦ rw (get_or-take i rows k d m) (rw last (rw (at d) own))
            | inr other ↦
                let long = length-take-le i rows (omega arith) in
                let climb = up k (i - 1) d (omega arith) (omega arith) in
                below_chain _ b _
                (subst (λ (r : Ends). IsBelow (range (get_or (take i rows) k d)) r)
                (ap range (get_or-take i rows (i - 1) d (omega arith)) ∙ at d) climb) own
          ]

  pub last_range : (rows : List X) (i : ℕ) (x : X) → i < length rows → x ≡ get_or rows i x
      → (d : X) → range (get_or rows (i + 1 - 1) d) ≡ range x
  last_range rows i x l is d =
      let e : i + 1 - 1 ≡ i = omega arith in
      rw e (ap range (get_or_same rows i d x l ∙ sym is))

  pub fates_more : (rows : List X) (i : ℕ) (x : X) (r : Fate)
      → i < length rows → x ≡ get_or rows i x → r ≡ fate line range said rows x
      → map (fate line range said rows) (take i rows) ++ (r ∷ [])
      ≡ map (fate line range said rows) (take (i + 1) rows)
  fates_more rows i x r l is told =
      rw (
        take_more rows i x l,
        map-append (fate line range said rows) (take i rows) (get_or rows i x ∷ []),
      ) (ap (λ t. map (fate line range said rows) (take i rows) ++ (t ∷ []))
      (told ∙ ap (fate line range said rows) is))

pub faults_more : {X : Type 0} (h : X → Option LineNote) (rows : List X) (i : ℕ) (x : X)
    (found : Option LineNote) → i < length rows → x ≡ get_or rows i x → found ≡ h x
    → filter_map h (take i rows) ++ option_to_list found ≡ filter_map h (take (i + 1) rows)
faults_more h rows i x found l is told =
    rw (take_more rows i x l, filter_map-append h (take i rows) (get_or rows i x ∷ [])) (ap
    (λ t. filter_map h (take i rows) ++ t) (one_kept (h (get_or rows i x)) found (told ∙ ap h is)))
  where
    one_kept : (o p : Option LineNote) → p ≡ o → option_to_list p ≡ cons_option o []
    one_kept None p e = ap option_to_list e
    one_kept (Some f) p e = ap option_to_list e

get_or-front : {X : Type 0} (xs : List X) (i : ℕ) (d : X) → get_or (drop i xs) 0 d ≡ get_or xs i d
get_or-front [] zero d = refl
get_or-front [] (suc i) d = refl
get_or-front (x ∷ xs) zero d = refl
get_or-front (x ∷ xs) (suc i) d = get_or-front xs i d

pub first_of_rest : {X : Type 0} (ys xs : List X) (i : ℕ) (d : X) → drop i ys ≡ drop i xs
    → get_or ys i d ≡ get_or xs i d
first_of_rest ys xs i d e =
    sym (get_or-front ys i d) ∙ ap (λ t. get_or t 0 d) e ∙ get_or-front xs i d

pub element_at : {X : Type 0} (xs : List X) (i : ℕ) → i < length xs → (x : X) × (x ≡ get_or xs i x)
element_at [] i l = absurd (omega arith)
element_at (x ∷ xs) zero l = (x, refl)
element_at (x ∷ xs) (suc i) l = element_at xs i (omega arith)
