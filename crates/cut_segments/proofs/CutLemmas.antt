-- Cut points that are gathered from several lists, and all cut points of a list of ranges.
use Rattle.std.proofs.Common.{◌≡◌, ℕ, zero, suc, ◌+◌, ◌-◌, ◌^◌, ◌<◌, ◌≤◌, ◌↔◌, ◌⊎◌, true, false}
use Rattle.std.proofs.Common.{cond, eqb, ltb, List, [], ◌∷◌, ◌++◌, Ordering, Contains, refl, sym}
use Rattle.std.proofs.Common.{subst, inl, inr, arith}
use Rattle.std.specs.List.{Any}
use Rattle.std.specs.List.Retain.{IsFiltered, DiffersFromLast}
use Rattle.std.specs.List.Sorted.{IsPermutation, IsStrictlyIncreasing}
use Rattle.std.specs.Ordering.{nat_cmp, match_ordering}
use Rattle.std.specs.Prelude.{nat_eq}
use Rattle.std.proofs.lemmas.Bool.Decides.{nat_tests}
use Rattle.std.proofs.lemmas.List.Elements.{Contains-append_left, Contains-append_right}
use Rattle.std.proofs.lemmas.List.Elements.{Contains-append_cases}
use Rattle.std.proofs.lemmas.List.Filters.{dedup_is}
use Rattle.std.proofs.lemmas.List.Kept.{Contains-dedup_nat, Contains-from_dedup}
use Rattle.std.proofs.lemmas.List.Sorted.{Contains-permutation, IsPermutation-sym}
use Rattle.geo_addr.specs.Ranges.{Ends, AreCuts, IsCut, IsEdge, IsRange, IsWithin, ground_first}
use Rattle.geo_terms.proofs.Members.{Among, among_from_contains, contains_from_among}
use Rattle.geo_terms.proofs.Ascending.{Up}
use Rattle.source_changes.specs.CutPoints.{AreCutsOf, whole}
use Rattle.cut_segments.specs.CutPoints.{AreCutsInside}

module _ {X : Type 0} (P : X → Type 0) where
  pub any_left : (xs ys : List X) → Any P xs → Any P (xs ++ ys)
  any_left xs ys (k, x, below, is, h) =
      let there = Contains-append_left xs ys x (k, below, is) in
      (there.0, x, there.1, there.2, h)

  pub any_right : (xs ys : List X) → Any P ys → Any P (xs ++ ys)
  any_right xs ys (k, x, below, is, h) =
      let there = Contains-append_right xs ys x (k, below, is) in
      (there.0, x, there.1, there.2, h)

  pub any_cases : (xs ys : List X) → Any P (xs ++ ys) → Any P xs ⊎ Any P ys
  any_cases xs ys (k, x, below, is, h) =
      elim (Contains-append_cases xs ys x (k, below, is)) [
        | inl there ↦ inl (there.0, x, there.1, there.2, h)
        | inr there ↦ inr (there.0, x, there.1, there.2, h)
      ]

  pub any_one : (x : X) → P x → Any P (x ∷ [])
  any_one x h = (0, x, omega arith, refl, h)

  pub one_any : (x : X) → Any P (x ∷ []) → P x
  one_any x (zero, y, below, is, h) = subst P (sym is) h
  one_any x (suc k, y, below, is, h) = absurd (omega (arith, below))

-- nothing is gathered so far
pub none_gathered : (bounds : List Ends) → AreCutsInside [] bounds []
none_gathered bounds c =
    (λ has. absurd (omega (arith, has.1)), λ cut. absurd (omega (arith, cut.0.0.2)))

-- the cut points of some more ranges are gathered
pub gathered : (ranges more bounds : List Ends) (points old new : List ℕ)
    → AreCutsInside ranges bounds old → AreCutsOf more points
    → ((c : ℕ)
    → Contains new c ↔ (Contains old c ⊎ (Contains points c × Any (λ r. IsWithin r c) bounds)))
    → AreCutsInside (ranges ++ more) bounds new
gathered ranges more bounds points old new before of step c = (
  λ has.
      elim ((step c).0 has) [
        | inl there ↦ let cut = (before c).0 there in
            ((any_left (IsEdge c) ranges more cut.0.0, cut.0.1), cut.1)
        | inr here ↦ let cut = (of.exact c).0 here.0 in
            ((any_right (IsEdge c) ranges more cut.0, cut.1), here.1)
      ],
  λ cut.
      elim (any_cases (IsEdge c) ranges more cut.0.0) [
        | inl there ↦ (step c).1 (inl ((before c).1 ((there, cut.0.1), cut.1)))
        | inr here ↦ (step c).1 (inr ((of.exact c).1 (here, cut.0.1), cut.1))
      ],
)

-- a sort, and dropping repeats, change no cut point
pub gathered_sorted : (ranges bounds : List Ends) (points sorted kept : List ℕ)
    → IsPermutation points sorted → IsFiltered (DiffersFromLast nat_eq) [] sorted kept
    → AreCutsInside ranges bounds points → AreCutsInside ranges bounds kept
gathered_sorted ranges bounds points sorted kept moved filtered cuts c =
    let is = dedup_is nat_eq sorted kept filtered in
    let P : List ℕ → Type 0 = λ xs. Contains xs c in (
      λ has.
          (cuts c).0 (Contains-permutation sorted points c (IsPermutation-sym points sorted moved)
          (Contains-from_dedup nat_eq sorted c (subst P is has))),
      λ cut. subst P (sym is) (Contains-dedup_nat sorted c
          (Contains-permutation points sorted c moved ((cuts c).1 cut))),
    )

-- those that lie inside one range
pub cuts_inside_one : (ranges : List Ends) (within : Ends) (points : List ℕ) → IsRange within
    → AreCutsInside ranges (within ∷ []) points → AreCuts ranges within points
cuts_inside_one ranges within points range cuts c = (
  λ has. let cut = (cuts c).0 has in (cut.0.0, one_any (λ r. IsWithin r c) within cut.1),
  λ cut.
      let last : within.last < 2 ^ 128 = range.within in
      let upto : c ≤ within.last = cut.1.1 in
      let space : IsWithin whole c = (omega arith, omega arith) in
      (cuts c).1 ((cut.0, space), any_one (λ r. IsWithin r c) within cut.1),
)

-- no ranges have no cut points
pub no_cuts : AreCutsOf [] []
no_cuts = record {
  exact = λ c. (λ has. absurd (omega (arith, has.1)), λ cut. absurd (omega (arith, cut.0.2)));
  ascending = λ k below. absurd (omega arith);
}

-- cases of an order of numbers
nat_cases : (k x : ℕ) (P : Ordering → Type 0) → (k < x → P Ordering.Less)
    → (k ≡ x → P Ordering.Equal) → (x < k → P Ordering.Greater) → P (nat_cmp k x)
nat_cases k x P less same more =
    elim (ltb k x) as (λ b. ltb k x ≡ b
    → P (cond b Ordering.Less (cond (eqb k x) Ordering.Equal Ordering.Greater))) [
      | true ↦ λ e. less (grind (arith, nat_tests))
      | false ↦
          λ e. elim (eqb k x) as (λ b. eqb k x ≡ b → P (cond b Ordering.Equal Ordering.Greater)) [
            | true ↦ λ f. same (grind (arith, nat_tests))
            | false ↦ λ f. more (grind (arith, nat_tests))
          ] refl
    ] refl

-- a point among ascending ones
put : ℕ → List ℕ → List ℕ
put c [] = c ∷ []
put c (x ∷ xs) = match_ordering (nat_cmp c x) (c ∷ x ∷ xs) (x ∷ xs) (x ∷ put c xs)

put_up : (low c : ℕ) (xs : List ℕ) → low ≤ c → Up low xs → Up low (put c xs)
unfolding put
put_up low c [] le up = (le, tt)
put_up low c (x ∷ xs) le up =
    nat_cases c x (λ o. Up low (match_ordering o (c ∷ x ∷ xs) (x ∷ xs) (x ∷ put c xs)))
    (λ lt. (le, (omega arith, up.1)))
    (λ same. up)
    (λ gt. (up.0, put_up (x + 1) c xs (omega arith) up.1))

put_here : (c : ℕ) (xs : List ℕ) → Among c (put c xs)
unfolding put
put_here c [] = inl refl
put_here c (x ∷ xs) =
    nat_cases c x (λ o. Among c (match_ordering o (c ∷ x ∷ xs) (x ∷ xs) (x ∷ put c xs)))
    (λ lt. inl refl) (λ same. inl (sym same)) (λ gt. inr (put_here c xs))

put_keeps : (c d : ℕ) (xs : List ℕ) → Among d xs → Among d (put c xs)
unfolding put
put_keeps c d [] is = absurd is
put_keeps c d (x ∷ xs) is =
    nat_cases c x (λ o. Among d (match_ordering o (c ∷ x ∷ xs) (x ∷ xs) (x ∷ put c xs)))
    (λ lt. inr is) (λ same. is) (λ gt. later (put_keeps c d xs) is)
  where
    later : (Among d xs → Among d (put c xs)) → Among d (x ∷ xs) → Among d (x ∷ put c xs)
    later rest (inl e) = inl e
    later rest (inr there) = inr (rest there)

put_cases : (c d : ℕ) (xs : List ℕ) → Among d (put c xs) → (c ≡ d) ⊎ Among d xs
unfolding put
put_cases c d [] (inl e) = inl e
put_cases c d [] (inr none) = absurd none
put_cases c d (x ∷ xs) is =
    nat_cases c x (λ o. Among d (match_ordering o (c ∷ x ∷ xs) (x ∷ xs) (x ∷ put c xs))
    → (c ≡ d) ⊎ Among d (x ∷ xs))
    (λ lt h. first h) (λ same h. inr h) (λ gt h. later (put_cases c d xs) h) is
  where
    first : Among d (c ∷ x ∷ xs) → (c ≡ d) ⊎ Among d (x ∷ xs)
    first (inl e) = inl e
    first (inr there) = inr there

    later : (Among d (put c xs) → (c ≡ d) ⊎ Among d xs)
        → Among d (x ∷ put c xs) → (c ≡ d) ⊎ Among d (x ∷ xs)
    later rest (inl e) = inr (inl e)
    later rest (inr there) =
        elim (rest there) [
          | inl e ↦ inl e
          | inr h ↦ inr (inr h)
        ]

put_within : ℕ → List ℕ → List ℕ
put_within c xs = cond (ltb c (2 ^ 128)) (put c xs) xs

-- all cut points of a list of ranges
pub all_cuts : List Ends → List ℕ
all_cuts [] = []
all_cuts (r ∷ rs) = put_within (ground_first r) (put_within (r.last + 1) (all_cuts rs))

within_up : (c : ℕ) (xs : List ℕ) → Up 0 xs → Up 0 (put_within c xs)
unfolding put_within
within_up c xs up = elim (ltb c (2 ^ 128)) as (λ b. Up 0 (cond b (put c xs) xs)) [
  | true ↦ put_up 0 c xs (omega arith) up
  | false ↦ up
]

within_here : (c : ℕ) (xs : List ℕ) → c < 2 ^ 128 → Among c (put_within c xs)
unfolding put_within
within_here c xs lt =
    let test : ltb c (2 ^ 128) ≡ true = grind (arith, nat_tests) in
    rw test (put_here c xs)

within_keeps : (c d : ℕ) (xs : List ℕ) → Among d xs → Among d (put_within c xs)
unfolding put_within
within_keeps c d xs is = elim (ltb c (2 ^ 128)) as (λ b. Among d (cond b (put c xs) xs)) [
  | true ↦ put_keeps c d xs is
  | false ↦ is
]

within_cases : (c d : ℕ) (xs : List ℕ)
    → Among d (put_within c xs) → ((c ≡ d) × (d < 2 ^ 128)) ⊎ Among d xs
unfolding put_within
within_cases c d xs is =
    (elim (ltb c (2 ^ 128)) as (λ b. ltb c (2 ^ 128) ≡ b → Among d (cond b (put c xs) xs)
    → ((c ≡ d) × (d < 2 ^ 128)) ⊎ Among d xs) [
      | true ↦ λ e h. (let lt : c < 2 ^ 128 = grind (arith, nat_tests) in
          elim (put_cases c d xs h) [
            | inl same ↦ inl (same, omega arith)
            | inr there ↦ inr there
          ])
      | false ↦ λ e h. inr h
    ]) refl is

all_up : (rs : List Ends) → Up 0 (all_cuts rs)
unfolding all_cuts
all_up [] = tt
all_up (r ∷ rs) =
    within_up (ground_first r) (put_within (r.last + 1) (all_cuts rs))
    (within_up (r.last + 1) (all_cuts rs) (all_up rs))

edge_is_there : (c : ℕ) (r : Ends) (xs : List ℕ) → c < 2 ^ 128 → IsEdge c r
    → Among c (put_within (ground_first r) (put_within (r.last + 1) xs))
edge_is_there c r xs lt (inl e) =
    subst (λ d. Among c (put_within d (put_within (r.last + 1) xs))) e
    (within_here c (put_within (r.last + 1) xs) lt)
edge_is_there c r xs lt (inr e) =
    within_keeps (ground_first r) c (put_within (r.last + 1) xs)
    (subst (λ d. Among c (put_within d xs)) e (within_here c xs lt))

all_there : (c : ℕ) (rs : List Ends) → c < 2 ^ 128 → IsCut rs c → Among c (all_cuts rs)
unfolding all_cuts
all_there c [] lt cut = absurd (omega (arith, cut.2))
all_there c (r ∷ rs) lt (zero, x, below, is, h) =
    edge_is_there c r (all_cuts rs) lt (subst (IsEdge c) (sym is) h)
all_there c (r ∷ rs) lt (suc k, x, below, is, h) =
    within_keeps (ground_first r) c (put_within (r.last + 1) (all_cuts rs))
    (within_keeps (r.last + 1) c (all_cuts rs) (all_there c rs lt (k, x, omega arith, is, h)))

all_cut : (c : ℕ) (rs : List Ends) → Among c (all_cuts rs) → IsCut rs c × (c < 2 ^ 128)
unfolding all_cuts
all_cut c [] is = absurd is
all_cut c (r ∷ rs) is =
    elim (within_cases (ground_first r) c (put_within (r.last + 1) (all_cuts rs)) is) [
      | inl here ↦ ((0, r, omega arith, refl, inl (sym here.0)), here.1)
      | inr there ↦
          elim (within_cases (r.last + 1) c (all_cuts rs) there) [
            | inl here ↦ ((0, r, omega arith, refl, inr (sym here.0)), here.1)
            | inr later ↦ let h = all_cut c rs later in
                ((suc h.0.0, h.0.1, omega (arith, h.0.2), h.0.3, h.0.4), h.1)
          ]
    ]

increasing : (low : ℕ) (xs : List ℕ) → Up low xs → IsStrictlyIncreasing xs
increasing low [] up k below = absurd (omega arith)
increasing low (x ∷ []) up k below = absurd (omega arith)
increasing low (x ∷ y ∷ ys) up zero below = omega (arith, up.1.0)
increasing low (x ∷ y ∷ ys) up (suc k) below =
    let later = increasing (x + 1) (y ∷ ys) up.1 k (omega arith) in
    let step : suc k + 1 ≡ suc (k + 1) = omega arith in
    rw step later

pub all_of_ranges : (rs : List Ends) → AreCutsOf rs (all_cuts rs)
all_of_ranges rs = record {
  exact = λ c. (
    λ has. let cut = all_cut c rs (among_from_contains c (all_cuts rs) has) in
        let lt : c < 2 ^ 128 = cut.1 in
        (cut.0, (omega arith, omega arith)),
    λ cut. contains_from_among c (all_cuts rs) (all_there c rs
        (let le : c ≤ 2 ^ 128 - 1 = cut.1.1 in omega arith) cut.0),
  );
  ascending = increasing 0 (all_cuts rs) (all_up rs);
}
