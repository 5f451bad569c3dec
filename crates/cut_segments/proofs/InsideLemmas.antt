-- Places inside ranges, found by halving.
use Rattle.std.proofs.Common.{◌≡◌, ℕ, zero, suc, ◌+◌, ◌<◌, ◌≤◌, ◌↔◌, ◌⊎◌, Bool, true, false, cond}
use Rattle.std.proofs.Common.{not, ◌&&◌, ◌||◌, ltb, leb, List, [], ◌∷◌, ◌++◌, length, get_or, take}
use Rattle.std.proofs.Common.{drop, Contains, refl, sym, ap, ◌∙◌, subst, inl, inr, arith}
use Rattle.std.proofs.Common.{append-nil}
use Rattle.std.specs.List.{All, AllByRecursion, AllAdjacentBelow, Any, filter, list_any}
use Rattle.std.specs.List.Sorted.{IsNonDecreasingBy, IsPartitionPoint, IsStrictlyIncreasing}
use Rattle.std.proofs.lemmas.Bool.{cases_lt}
use Rattle.std.proofs.lemmas.Bool.Decides.{nat_tests}
use Rattle.std.proofs.lemmas.List.{take_more}
use Rattle.std.proofs.lemmas.List.Elements.{Contains-append_left, Contains-append_right}
use Rattle.std.proofs.lemmas.List.Elements.{Contains-append_cases, Contains-push}
use Rattle.std.proofs.lemmas.List.Elements.{Contains-push_cases}
use Rattle.std.proofs.lemmas.List.Kept.{AllPairs-from_increasing, IsNonDecreasingBy-filter}
use Rattle.geo_addr.specs.Ranges.{Ends, IsRange, IsWithin}
use Rattle.geo_terms.proofs.Members.{Among, among_filter, among_from_contains, contains_from_among}
use Rattle.geo_terms.proofs.Members.{none_kept}
use Rattle.cut_segments.proofs.CutLemmas.{any_left, any_right, any_cases, any_one, one_any}

-- what a filter keeps passes
pub kept_from : {X : Type 0} (p : X → Bool) (c : X) (xs : List X)
    → Among c (filter p xs) → Among c xs × (p c ≡ true)
kept_from p c [] is = absurd is
kept_from p c (x ∷ xs) is =
    (elim (p x) as (λ b. p x ≡ b → Among c (cond b (x ∷ filter p xs) (filter p xs))
    → Among c (x ∷ xs) × (p c ≡ true)) [
      | true ↦ λ e h. here (kept_from p c xs) e h
      | false ↦ λ e h. let later = kept_from p c xs h in (inr later.0, later.1)
    ]) refl is
  where
    here : (Among c (filter p xs) → Among c xs × (p c ≡ true)) → p x ≡ true
        → Among c (x ∷ filter p xs) → Among c (x ∷ xs) × (p c ≡ true)
    here rest e (inl same) = (inl same, ap p (sym same) ∙ e)
    here rest e (inr there) = let later = rest there in (inr later.0, later.1)

module _ (p : ℕ → Bool) where
  all_fail : (xs : List ℕ) → ((k : ℕ) (d : ℕ) → k < length xs → p (get_or xs k d) ≡ false)
      → AllByRecursion (λ y. p y ≡ false) xs
  all_fail [] h = tt
  all_fail (x ∷ xs) h = (h 0 x (omega arith), all_fail xs (λ k d lt. h (suc k) d (omega arith)))

  -- up to a partition point stand those that pass
  passing : (xs : List ℕ) (i : ℕ) → i ≤ length xs
      → IsPartitionPoint (λ y. p y ≡ true) (λ y. p y ≡ false) xs i → take i xs ≡ filter p xs
  passing [] zero le at = refl
  passing [] (suc i) le at = refl
  passing (x ∷ xs) zero le at =
      sym (none_kept p (x ∷ xs) (all_fail (x ∷ xs) (λ k d lt. at.1 k d (omega arith) lt)))
  passing (x ∷ xs) (suc i) le at =
      let head : p x ≡ true = at.0 0 x (omega arith) (omega arith) in
      rw head (ap (λ zs. x ∷ zs) (passing xs i (omega arith) (
        λ k d low lt. at.0 (suc k) d (omega arith) (omega arith),
        λ k d low lt. at.1 (suc k) d (omega arith) (omega arith),
      )))

  all_stay : (xs : List ℕ) → AllByRecursion (λ y. p y ≡ false) xs → filter (λ y. not (p y)) xs ≡ xs
  all_stay [] h = refl
  all_stay (x ∷ xs) h = rw h.0 (ap (λ zs. x ∷ zs) (all_stay xs h.1))

  -- and from it on those that do not
  failing : (xs : List ℕ) (i : ℕ)
      → i ≤ length xs → IsPartitionPoint (λ y. p y ≡ true) (λ y. p y ≡ false) xs i
      → drop i xs ≡ filter (λ y. not (p y)) xs
  failing [] zero le at = refl
  failing [] (suc i) le at = refl
  failing (x ∷ xs) zero le at =
      sym (all_stay (x ∷ xs) (all_fail (x ∷ xs) (λ k d lt. at.1 k d (omega arith) lt)))
  failing (x ∷ xs) (suc i) le at =
      let head : p x ≡ true = at.0 0 x (omega arith) (omega arith) in
      rw head (failing xs i (omega arith) (
        λ k d low lt. at.0 (suc k) d (omega arith) (omega arith),
        λ k d low lt. at.1 (suc k) d (omega arith) (omega arith),
      ))

-- the part between two partition points has the points between the ends of a range
pub part_has : (points : List ℕ) (r : Ends) (i j : ℕ) → i ≤ length points
    → IsPartitionPoint (λ y. ltb y r.first ≡ true) (λ y. ltb y r.first ≡ false) points i
    → j ≤ length (drop i points)
    → IsPartitionPoint (λ y. leb y r.last ≡ true) (λ y. leb y r.last ≡ false) (drop i points) j
    → (c : ℕ) → Contains (take j (drop i points)) c ↔ (Contains points c × IsWithin r c)
part_has points r i j i_in i_at j_in j_at c =
    let from : drop i points ≡ filter (λ y. not (ltb y r.first)) points =
    failing (λ y. ltb y r.first) points i i_in i_at in
    let upto : take j (drop i points) ≡ filter (λ y. leb y r.last) (drop i points) =
    passing (λ y. leb y r.last) (drop i points) j j_in j_at in
    let P : List ℕ → Type 0 = λ xs. Contains xs c in (
      λ has.
          let low = kept_from (λ y. leb y r.last) c (drop i points)
          (among_from_contains c _ (subst P upto has)) in
          let high =
          kept_from (λ y. not (ltb y r.first)) c points (subst (λ xs. Among c xs) from low.0) in
          let test : leb c r.last ≡ true = low.1 in
          let test' : not (ltb c r.first) ≡ true = high.1 in (
            contains_from_among c points high.0,
            (grind (arith, nat_tests), grind (arith, nat_tests)),
          ),
      λ is.
          let first : r.first ≤ c = is.1.0 in
          let last : c ≤ r.last = is.1.1 in
          let low : Among c (drop i points) =
          subst (λ xs. Among c xs) (sym from) (among_filter (λ y. not (ltb y r.first)) c points
          (among_from_contains c points is.0) (grind (arith, nat_tests))) in
          subst P (sym upto) (contains_from_among c _
          (among_filter (λ y. leb y r.last) c (drop i points) low (grind (arith, nat_tests)))),
    )

abbrev pub is_between : ℕ → Ends → Bool
is_between point r = leb r.first point && leb point r.last

pub between_from : (r : Ends) (c : ℕ) → is_between c r ≡ true → IsWithin r c
between_from r c e = (grind (arith, nat_tests), grind (arith, nat_tests))

pub between_is : (r : Ends) (c : ℕ) → IsWithin r c → is_between c r ≡ true
between_is r c h =
    let first : r.first ≤ c = h.0 in let last : c ≤ r.last = h.1 in
    grind (arith, nat_tests)

-- ranges one after another ascend by their first addresses
abbrev pub AreApart : List Ends → Type 0
AreApart rs = AllAdjacentBelow (λ (r t : Ends). r.last < t.first) rs (length rs)

apart_tail : (r : Ends) (rs : List Ends) → AreApart (r ∷ rs) → AreApart rs
apart_tail r rs h k d lt =
    let step : suc k + 1 ≡ suc (k + 1) = omega arith in
    rw step at (h (suc k) d (omega arith))

ranges_tail : (r : Ends) (rs : List Ends) → All IsRange (r ∷ rs) → All IsRange rs
ranges_tail r rs h k d lt = h (suc k) d (omega arith)

behind : (r : Ends) (rs : List Ends) → All IsRange (r ∷ rs) → AreApart (r ∷ rs) → (j : ℕ) (d : Ends)
    → j < length rs → r.last < (get_or rs j d).first
behind r [] ranges h j d lt = absurd (omega arith)
behind r (t ∷ ts) ranges h zero d lt = h 0 d (omega arith)
behind r (t ∷ ts) ranges h (suc j) d lt =
    let next : r.last < t.first = h 0 d (omega arith) in
    let whole : t.first ≤ t.last = (ranges 1 d (omega arith)).ordered in
    let later : t.last < (get_or ts j d).first =
    behind t ts (ranges_tail r (t ∷ ts) ranges) (apart_tail r (t ∷ ts) h) j d (omega arith) in
    omega arith

pub firsts_rise : (rs : List Ends) → All IsRange rs → AreApart rs
    → IsNonDecreasingBy (λ (r : Ends). r.first) rs
firsts_rise [] ranges h i j d le lt = absurd (omega arith)
firsts_rise (r ∷ rs) ranges h zero zero d le lt = omega arith
firsts_rise (r ∷ rs) ranges h zero (suc j) d le lt =
    let whole : r.first ≤ r.last = (ranges 0 d (omega arith)).ordered in
    let later : r.last < (get_or rs j d).first = behind r rs ranges h j d (omega arith) in
    omega arith
firsts_rise (r ∷ rs) ranges h (suc i) zero d le lt = absurd (omega arith)
firsts_rise (r ∷ rs) ranges h (suc i) (suc j) d le lt =
    firsts_rise rs (ranges_tail r rs ranges) (apart_tail r rs h) i j d (omega arith) (omega arith)

none_between : (point : ℕ) (rs : List Ends)
    → ((k : ℕ) (d : Ends) → k < length rs → point < (get_or rs k d).first)
    → list_any (is_between point) rs ≡ false
none_between point [] h = refl
none_between point (r ∷ rs) h =
    let here : point < r.first = h 0 r (omega arith) in
    let later : list_any (is_between point) rs ≡ false =
    none_between point rs (λ k d lt. h (suc k) d (omega arith)) in
    grind (arith, nat_tests)

abbrev Begun : ℕ → List Ends → ℕ → Type 0
Begun point rs n =
    IsPartitionPoint (λ (r : Ends). leb r.first point ≡ true)
    (λ (r : Ends). leb r.first point ≡ false) rs n

not_begun : (point : ℕ) (rs : List Ends) → Begun point rs 0 → (k : ℕ) (d : Ends) → k < length rs
    → point < (get_or rs k d).first
not_begun point rs at k d lt =
    let test : leb (get_or rs k d).first point ≡ false = at.1 k d (omega arith) lt in
    grind (arith, nat_tests)

begun_tail : (point : ℕ) (r : Ends) (rs : List Ends) (n : ℕ)
    → Begun point (r ∷ rs) (suc n) → Begun point rs n
begun_tail point r rs n at = (
  λ k d low lt. at.0 (suc k) d (omega arith) (omega arith),
  λ k d low lt. at.1 (suc k) d (omega arith) (omega arith),
)

-- where no range has begun, none holds the point
pub none_inside : (point : ℕ) (rs : List Ends) → Begun point rs 0
    → list_any (is_between point) rs ≡ false
none_inside point rs at = none_between point rs (not_begun point rs at)

-- of those that have begun, the last one alone can hold it
pub last_inside : (point : ℕ) (rs : List Ends) (n : ℕ) (d : Ends) → All IsRange rs → AreApart rs
    → suc n ≤ length rs → Begun point rs (suc n)
    → list_any (is_between point) rs ≡ leb point (get_or rs n d).last
last_inside point [] n d ranges apart le at = absurd (omega arith)
last_inside point (r ∷ rs) zero d ranges apart le at =
    let begun : leb r.first point ≡ true = at.0 0 d (omega arith) (omega arith) in
    let later : list_any (is_between point) rs ≡ false =
    none_inside point rs (begun_tail point r rs 0 at) in
    grind (arith, nat_tests)
last_inside point (r ∷ rs) (suc n) d ranges apart le at =
    let next : r.last < (get_or rs 0 d).first = behind r rs ranges apart 0 d (omega arith) in
    let begun : leb (get_or rs 0 d).first point ≡ true = at.0 1 d (omega arith) (omega arith) in
    let past : leb point r.last ≡ false = grind (arith, nat_tests) in
    let later : list_any (is_between point) rs ≡ leb point (get_or rs n d).last =
    last_inside point rs n d (ranges_tail r rs ranges) (apart_tail r rs apart) (omega arith)
    (begun_tail point r rs (suc n) at) in
    rw past (drop_and (leb r.first point) _ ∙ later)
  where
    drop_and : (b c : Bool) → ((b && false) || c) ≡ c
    drop_and true c = refl
    drop_and false c = refl

any_between : (c : ℕ) (rs : List Ends) → list_any (is_between c) rs ≡ true
    → Any (λ r. IsWithin r c) rs
any_between c [] e = absurd (let f : false ≡ true = e in cc)
any_between c (r ∷ rs) e =
    elim (is_between c r) as (λ b. is_between c r ≡ b → (b || list_any (is_between c) rs) ≡ true
    → Any (λ t. IsWithin t c) (r ∷ rs)) [
      | true ↦ λ is h. (0, r, omega arith, refl, between_from r c is)
      | false ↦ λ is h. let later = any_between c rs h in
          (suc later.0, later.1, omega (arith, later.2), later.3, later.4)
    ] refl e

between_any : (c : ℕ) (rs : List Ends) → Any (λ r. IsWithin r c) rs
    → list_any (is_between c) rs ≡ true
between_any c [] h = absurd (omega (arith, h.2))
between_any c (r ∷ rs) (zero, x, below, is, h) =
    rw (between_is r c (subst (λ (t : Ends). IsWithin t c) (sym is) h)) refl
between_any c (r ∷ rs) (suc k, x, below, is, h) =
    rw (between_any c rs (k, x, omega arith, is, h)) (or_true (is_between c r))
  where
    or_true : (b : Bool) → (b || true) ≡ true
    or_true true = refl
    or_true false = refl

-- what is found so far, of these points inside these ranges
abbrev pub AreFound : List ℕ → List ℕ → List Ends → List ℕ → Type 0
AreFound start points ranges found =
    (c : ℕ)
    → Contains found c ↔ (Contains start c ⊎ (Contains points c × Any (λ r. IsWithin r c) ranges))

pub found_no_range : (start points : List ℕ) → AreFound start points [] start
found_no_range start points c = (
  λ has. inl has,
  λ either. elim either [ inl there ↦ there | inr here ↦ absurd (omega (arith, here.1.2)) ],
)

pub found_no_point : (start : List ℕ) (ranges : List Ends) → AreFound start [] ranges start
found_no_point start ranges c = (
  λ has. inl has,
  λ either. elim either [ inl there ↦ there | inr here ↦ absurd (omega (arith, here.0.1)) ],
)

-- the points inside one range more
pub found_range : (start points part found : List ℕ) (ranges : List Ends) (i : ℕ) (r : Ends)
    → i < length ranges → r ≡ get_or ranges i r
    → ((c : ℕ) → Contains part c ↔ (Contains points c × IsWithin r c))
    → AreFound start points (take i ranges) found
    → AreFound start points (take (i + 1) ranges) (found ++ part)
found_range start points part found ranges i r below is parts before c =
    let P : List Ends → Type 0 = λ rs. Any (λ t. IsWithin t c) rs in
    let more : take (i + 1) ranges ≡ take i ranges ++ r ∷ [] =
    take_more ranges i r below ∙ ap (λ (x : Ends). take i ranges ++ x ∷ []) (sym is) in (
      λ has.
          elim (Contains-append_cases found part c has) [
            | inl there ↦
                elim ((before c).0 there) [
                  | inl old ↦ inl old
                  | inr here ↦ inr (
                    here.0,
                    subst P (sym more)
                        (any_left (λ t. IsWithin t c) (take i ranges) (r ∷ []) here.1),
                  )
                ]
            | inr there ↦ let here = (parts c).0 there in
                inr (
                  here.0,
                  subst P (sym more) (any_right (λ t. IsWithin t c) (take i ranges) (r ∷ [])
                      (any_one (λ t. IsWithin t c) r here.1)),
                )
          ],
      λ either.
          elim either [
            | inl old ↦ Contains-append_left found part c ((before c).1 (inl old))
            | inr here ↦
                elim (any_cases (λ t. IsWithin t c) (take i ranges) (r ∷ [])
                (subst P more here.1)) [
                  | inl there ↦
                      Contains-append_left found part c ((before c).1 (inr (here.0, there)))
                  | inr there ↦ Contains-append_right found part c
                      ((parts c).1 (here.0, one_any (λ t. IsWithin t c) r there))
                ]
          ],
    )

-- one point more that lies inside a range
found_here : (start points found : List ℕ) (ranges : List Ends) (i p : ℕ)
    → take (i + 1) points ≡ take i points ++ p ∷ [] → list_any (is_between p) ranges ≡ true
    → AreFound start (take i points) ranges found
    → AreFound start (take (i + 1) points) ranges (found ++ p ∷ [])
found_here start points found ranges i p more inside before c =
    let P : List ℕ → Type 0 = λ xs. Contains xs c in (
      λ has.
          elim (Contains-push_cases found p c has) [
            | inl there ↦
                elim ((before c).0 there) [
                  | inl old ↦ inl old
                  | inr here ↦ inr (
                    subst P (sym more) (Contains-append_left (take i points) (p ∷ []) c here.0),
                    here.1,
                  )
                ]
            | inr same ↦ inr (
              subst (λ d. Contains (take (i + 1) points) d) same
                  (subst (λ xs. Contains xs p) (sym more) (Contains-push (take i points) p)),
              subst (λ d. Any (λ t. IsWithin t d) ranges) same (any_between p ranges inside),
            )
          ],
      λ either.
          elim either [
            | inl old ↦ Contains-append_left found (p ∷ []) c ((before c).1 (inl old))
            | inr here ↦
                elim (Contains-push_cases (take i points) p c (subst P more here.0)) [
                  | inl there ↦
                      Contains-append_left found (p ∷ []) c ((before c).1 (inr (there, here.1)))
                  | inr same ↦
                      subst (λ d. Contains (found ++ p ∷ []) d) same (Contains-push found p)
                ]
          ],
    )

-- one point more that does not
found_apart : (start points found : List ℕ) (ranges : List Ends) (i p : ℕ)
    → take (i + 1) points ≡ take i points ++ p ∷ [] → list_any (is_between p) ranges ≡ false
    → AreFound start (take i points) ranges found
    → AreFound start (take (i + 1) points) ranges found
found_apart start points found ranges i p more outside before c =
    let P : List ℕ → Type 0 = λ xs. Contains xs c in (
      λ has.
          elim ((before c).0 has) [
            | inl old ↦ inl old
            | inr here ↦ inr (
              subst P (sym more) (Contains-append_left (take i points) (p ∷ []) c here.0),
              here.1,
            )
          ],
      λ either.
          elim either [
            | inl old ↦ (before c).1 (inl old)
            | inr here ↦
                elim (Contains-push_cases (take i points) p c (subst P more here.0)) [
                  | inl there ↦ (before c).1 (inr (there, here.1))
                  | inr same ↦ absurd (let e : list_any (is_between c) ranges ≡ true =
                      between_any c ranges here.1 in
                      let f : list_any (is_between p) ranges ≡ list_any (is_between c) ranges =
                      ap (λ d. list_any (is_between d) ranges) same in cc)
                ]
          ],
    )

found_either : (start points found : List ℕ) (ranges : List Ends) (i p : ℕ) (b : Bool)
    → take (i + 1) points ≡ take i points ++ p ∷ [] → b ≡ list_any (is_between p) ranges
    → AreFound start (take i points) ranges found
    → AreFound start (take (i + 1) points) ranges (found ++ cond b (p ∷ []) [])
found_either start points found ranges i p true more test before =
    found_here start points found ranges i p more (sym test) before
found_either start points found ranges i p false more test before =
    subst (λ xs. AreFound start (take (i + 1) points) ranges xs) (sym (append-nil found))
    (found_apart start points found ranges i p more (sym test) before)

-- one point more, which is found where it lies inside a range
pub found_point : (start points found new : List ℕ) (ranges : List Ends) (i d : ℕ) (b : Bool)
    → i < length points → b ≡ list_any (is_between (get_or points i d)) ranges
    → new ≡ found ++ cond b (get_or points i d ∷ []) []
    → AreFound start (take i points) ranges found → AreFound start (take (i + 1) points) ranges new
found_point start points found new ranges i d b below test is before =
    subst (λ xs. AreFound start (take (i + 1) points) ranges xs) (sym is) (found_either start points
    found ranges i (get_or points i d) b (take_more points i d below) test before)

pub rises : (xs : List ℕ) → IsStrictlyIncreasing xs → IsNonDecreasingBy (λ (y : ℕ). y) xs
rises xs h i j d le below =
    elim (cases_lt i j) [
      | inl lt ↦ let less : get_or xs i d < get_or xs j d =
          AllPairs-from_increasing xs h i j d lt below in omega arith
      | inr ge ↦ let e : i ≡ j = omega arith in rw e (omega arith)
    ]

pub rest_rises : (p : ℕ → Bool) (xs : List ℕ) (i : ℕ)
    → i ≤ length xs → IsPartitionPoint (λ y. p y ≡ true) (λ y. p y ≡ false) xs i
    → IsNonDecreasingBy (λ (y : ℕ). y) xs → IsNonDecreasingBy (λ (y : ℕ). y) (drop i xs)
rest_rises p xs i le point rise =
    subst (λ (ys : List ℕ). IsNonDecreasingBy (λ (y : ℕ). y) ys) (sym (failing p xs i le point))
    (IsNonDecreasingBy-filter (λ (y : ℕ). y) (λ y. not (p y)) xs rise)

pub zero_if : (n : ℕ) → (1 ≤ n → ⊥) → n ≡ 0
zero_if zero h = refl
zero_if (suc n) h = absurd (h (omega arith))
