-- What one pass over sorted marks finds: the touched addresses, cut at the cut points.
use Rattle.std.proofs.Common.{◌≡◌, ℕ, zero, suc, ◌+◌, ◌-◌, ◌<◌, ◌≤◌, Bool, true, false, cond, ◌&&◌}
use Rattle.std.proofs.Common.{◌||◌, eqb, ltb, leb, min, max, List, [], ◌∷◌, ◌++◌, length, map}
use Rattle.std.proofs.Common.{Contains, count_by, refl, sym, subst, ap, ◌∙◌, append_assoc, arith}
use Rattle.std.specs.List.{All, Any, AllByRecursion, AllAdjacentBelow, list_any}
use Rattle.std.specs.List.Sorted.{IsNonDecreasing, IsNonDecreasingBy, IsPermutation}
use Rattle.std.proofs.lemmas.Bool.Decides.{nat_tests}
use Rattle.std.proofs.lemmas.List.Elements.{All-append, All-contains_itself, All-from_recursion}
use Rattle.std.proofs.lemmas.List.Elements.{All-weaker, Contains-append_left}
use Rattle.std.proofs.lemmas.List.Elements.{Contains-append_right, recursion_from_All}
use Rattle.std.proofs.lemmas.List.Folds.{list_any-append, list_any-from_Any, Any-from_list_any}
use Rattle.std.proofs.lemmas.List.Sorted.{All-permutation, Contains-permutation}
use Rattle.std.proofs.lemmas.List.Sorted.{IsPermutation-append_left}
use Rattle.std.proofs.lemmas.List.Sorted.{IsPermutation-cons, IsPermutation-map, IsPermutation-refl}
use Rattle.std.proofs.lemmas.List.Sorted.{IsPermutation-to_front, IsPermutation-trans}
use Rattle.std.proofs.lemmas.List.Sorted.{list_any-IsPermutation, sum_by-IsPermutation}
use Rattle.std.proofs.lemmas.List.Sums.{sum_by-append, sum_by-cons}
use Rattle.geo_addr.specs.Ranges.{Ends, IsRange, IsWithin, ground_first, holds}
use Rattle.cut_segments.specs.Marks.{ground_mark, cut_mark, from_ground, marks_of, merged, past_of}
use Rattle.cut_segments.specs.Marks.{stop_at, piece, next_at, sweep}
use Rattle.source_changes.specs.Touched.{is_touched}
use Rattle.cut_segments.specs.Segments.{AreSegments, starts_of}
use Rattle.cut_segments.specs.declared.segments.Mark.{Mark}

-- the marks ascend, from this point on
abbrev Rising : ℕ → List Mark → Type 0
Rising low [] = Unit {0}
Rising low (m ∷ ms) = (low ≤ m.at) × Rising m.at ms

rising_weaker : (low high : ℕ) (ms : List Mark) → low ≤ high → Rising high ms → Rising low ms
rising_weaker low high [] le h = tt
rising_weaker low high (m ∷ ms) le h = (omega (arith, h.0), h.1)

-- the marks that are left ascend from where a piece stops
rising_stop : (far low : ℕ) (ms : List Mark) → Rising low ms
    → Rising (stop_at far (next_at ms)) ms
rising_stop far low [] h = tt
rising_stop far low (m ∷ ms) h = (omega arith, h.1)

-- a piece is one range, or none
piece_cases : (f s : ℕ) (P : List Ends → Type 0)
    → (f < s → P (record { first = f; last = s - 1 } ∷ [])) → (s ≤ f → P []) → P (piece f s)
piece_cases f s P some none =
    elim (ltb f s) as (λ b. ltb f s ≡ b → P (cond b (record { first = f; last = s - 1 } ∷ []) [])) [
      | true ↦ λ e. some (grind (arith, nat_tests))
      | false ↦ λ e. none (grind (arith, nat_tests))
    ] refl

-- ranges that are not empty and ascend, from this point on
abbrev pub Ascending : ℕ → List Ends → Type 0
Ascending low [] = Unit {0}
Ascending low (r ∷ rs) = (low ≤ r.first) × (r.first ≤ r.last) × Ascending (r.last + 1) rs

ascends : (past low : ℕ) (ms : List Mark) → Rising low ms → Ascending low (sweep past ms)
ascends past low [] h = tt
ascends past low (m ∷ ms) h =
    let far : ℕ = max past (past_of m.reach) in
    let stop : ℕ = stop_at far (next_at ms) in
    piece_cases m.at stop (λ p. Ascending low (p ++ sweep far ms))
    (λ lt. (
      h.0,
      omega arith,
      ascends far (stop - 1 + 1) ms
          (rising_weaker (stop - 1 + 1) stop ms (omega arith) (rising_stop far m.at ms h.1)),
    ))
    (λ ge. ascends far low ms (rising_weaker low m.at ms h.0 h.1))

-- whether one of the ranges has the address
abbrev has : List Ends → ℕ → Bool
has out a = list_any (λ r. leb r.first a && leb a r.last) out

has_piece : (f s a : ℕ) → has (piece f s) a ≡ (leb f a && ltb a s)
has_piece f s a =
    piece_cases f s (λ p. has p a ≡ (leb f a && ltb a s)) (λ lt. grind (arith, nat_tests))
    (λ ge. grind (arith, nat_tests))

-- whether a mark says that the address is touched
abbrev marked : List Mark → ℕ → Bool
marked ms a = list_any (λ m. leb m.at a && ltb a (past_of m.reach)) ms

-- whether the first mark stands at or below the address
abbrev begins : List Mark → ℕ → Bool
begins [] a = false
begins (m ∷ ms) a = leb m.at a

unmarked_below : (low a : ℕ) (ms : List Mark) → Rising low ms → a < low → marked ms a ≡ false
unmarked_below low a [] h lt = refl
unmarked_below low a (m ∷ ms) h lt =
    let later : marked ms a ≡ false = unmarked_below m.at a ms h.1 (omega (arith, h.0)) in
    let below : a < m.at = omega (arith, h.0) in
    grind (arith, nat_tests)

last_step : (at past reach a : ℕ) → ((leb at a && ltb a (max past reach)) || false)
    ≡ (leb at a && (ltb a past || ((leb at a && ltb a reach) || false)))
last_step at past reach a = grind (arith, nat_tests)

next_step : (at next past reach a : ℕ) (k : Bool) → at ≤ next → (a < next → k ≡ false)
    → ((leb at a && ltb a (min (max past reach) next))
    || (leb next a && (ltb a (max past reach) || k)))
    ≡ (leb at a && (ltb a past || ((leb at a && ltb a reach) || k)))
next_step at next past reach a k le none = grind (arith, nat_tests)

-- the pieces have the addresses that are touched before the first mark, from there on,
-- and those that a mark says
has_sweep : (past low a : ℕ) (ms : List Mark) → Rising low ms
    → has (sweep past ms) a ≡ (begins ms a && (ltb a past || marked ms a))
has_sweep past low a [] h = refl
has_sweep past low a (m ∷ []) h =
    let far : ℕ = max past (past_of m.reach) in
    list_any-append (λ r. leb r.first a && leb a r.last) (piece m.at far) []
    ∙ ap (λ b. b || false) (has_piece m.at far a)
    ∙ last_step m.at past (past_of m.reach) a
has_sweep past low a (m ∷ n ∷ ms) h =
    let far : ℕ = max past (past_of m.reach) in
    list_any-append (λ r. leb r.first a && leb a r.last) (piece m.at (min far n.at))
    (sweep far (n ∷ ms))
    ∙ ap (λ b. b || has (sweep far (n ∷ ms)) a) (has_piece m.at (min far n.at) a)
    ∙ ap (λ b. (leb m.at a && ltb a (min far n.at)) || b) (has_sweep far m.at a (n ∷ ms) h.1)
    ∙ next_step m.at n.at past (past_of m.reach) a (marked (n ∷ ms) a) h.1.0
    (λ lt. unmarked_below n.at a (n ∷ ms) (omega arith, h.1.1) lt)

or_false : (b : Bool) → (b || false) ≡ b
or_false true = refl
or_false false = refl

begins_where_marked : (low a : ℕ) (ms : List Mark) → Rising low ms
    → (begins ms a && (false || marked ms a)) ≡ marked ms a
begins_where_marked low a [] h = refl
begins_where_marked low a (m ∷ ms) h =
    let none : a < m.at → marked (m ∷ ms) a ≡ false =
    unmarked_below m.at a (m ∷ ms) (omega arith, h.1) in
    only_from (marked (m ∷ ms) a) m.at a none
  where
    only_from : (k : Bool) (at a : ℕ) → (a < at → k ≡ false) → (leb at a && (false || k)) ≡ k
    only_from k at a none = grind (arith, nat_tests)

-- what the marks of grounds and cut points say is what the grounds hold
marked_cuts : (cuts : List ℕ) (a : ℕ) → marked (map cut_mark cuts) a ≡ false
marked_cuts [] a = refl
marked_cuts (c ∷ cs) a =
    let later : marked (map cut_mark cs) a ≡ false = marked_cuts cs a in
    grind (arith, nat_tests)

marked_grounds : (touched : List Ends) (a : ℕ)
    → marked (map ground_mark touched) a ≡ is_touched touched a
unfolding holds
marked_grounds [] a = refl
marked_grounds (r ∷ rs) a =
    let here : ltb a (r.last + 1) ≡ leb a r.last = grind (arith, nat_tests) in
    rw (here, marked_grounds rs a) refl

marked_all : (touched : List Ends) (cuts : List ℕ) (a : ℕ)
    → marked (marks_of touched cuts) a ≡ is_touched touched a
marked_all touched cuts a =
    list_any-append (λ m. leb m.at a && ltb a (past_of m.reach)) (map ground_mark touched)
    (map cut_mark cuts)
    ∙ ap (λ b. marked (map ground_mark touched) a || b) (marked_cuts cuts a)
    ∙ or_false (marked (map ground_mark touched) a)
    ∙ marked_grounds touched a

-- the pieces of all marks, in order, have the touched addresses
has_all : (touched : List Ends) (cuts : List ℕ) (ms : List Mark) (a : ℕ)
    → IsPermutation (marks_of touched cuts) ms → Rising 0 ms
    → has (sweep 0 ms) a ≡ is_touched touched a
has_all touched cuts ms a same up =
    has_sweep 0 0 a ms up
    ∙ none_yet
    ∙ begins_where_marked 0 a ms up
    ∙ sym (list_any-IsPermutation (λ m. leb m.at a && ltb a (past_of m.reach))
    (marks_of touched cuts) ms same)
    ∙ marked_all touched cuts a
  where
    no_less : ltb a 0 ≡ false
    no_less = grind (arith, nat_tests)

    none_yet : (begins ms a && (ltb a 0 || marked ms a)) ≡ (begins ms a && (false || marked ms a))
    none_yet = ap (λ b. begins ms a && (b || marked ms a)) no_less

-- whether a mark stands at this point
abbrev stands : List Mark → ℕ → Bool
stands ms c = list_any (λ m. eqb m.at c) ms

stands_above : (low c : ℕ) (ms : List Mark) → Rising low ms → stands ms c ≡ true → low ≤ c
stands_above low c [] h e = absurd (false_is_not_true e)
  where
    false_is_not_true : false ≡ true → ⊥
    false_is_not_true e = cc
stands_above low c (m ∷ ms) h e =
    let later : stands ms c ≡ true → m.at ≤ c = stands_above m.at c ms h.1 in
    grind (arith, nat_tests, h.0)

-- a piece stops at a point where a later mark stands, or before
stop_before : (far low c : ℕ) (ms : List Mark) → Rising low ms → stands ms c ≡ true
    → stop_at far (next_at ms) ≤ c
stop_before far low c [] h e = absurd (let f : false ≡ true = e in cc)
stop_before far low c (m ∷ ms) h e =
    let le : m.at ≤ c = stands_above m.at c (m ∷ ms) (omega arith, h.1) e in omega arith

uncut_above : (low c : ℕ) (rs : List Ends) → Ascending low rs → c ≤ low
    → AllByRecursion (λ r. r.first < c → r.last < c) rs
uncut_above low c [] h le = tt
uncut_above low c (r ∷ rs) h le = (
  (λ below. absurd (omega (arith, h.0))),
  uncut_above (r.last + 1) c rs h.2 (omega (arith, h.0, h.1)),
)

uncut_sweep : (past low c : ℕ) (ms : List Mark) → Rising low ms → stands ms c ≡ true
    → AllByRecursion (λ r. r.first < c → r.last < c) (sweep past ms)
uncut_sweep past low c [] h e = tt
uncut_sweep past low c (m ∷ ms) h e =
    let far : ℕ = max past (past_of m.reach) in
    let stop : ℕ = stop_at far (next_at ms) in
    let later : AllByRecursion (λ r. r.first < c → r.last < c) (sweep far ms) =
    elim (stands ms c)
    as (λ b. stands ms c ≡ b → AllByRecursion (λ r. r.first < c → r.last < c) (sweep far ms)) [
      | true ↦ λ t. uncut_sweep far m.at c ms h.1 t
      | false ↦ λ f. uncut_above m.at c (sweep far ms) (ascends far m.at ms h.1)
          (at_here m.at (stands ms c) e f)
    ] refl in
    piece_cases m.at stop (λ p. AllByRecursion (λ r. r.first < c → r.last < c) (p ++ sweep far ms))
    (λ lt. (
      (λ below. ends_before m.at stop (stands ms c) e lt below
          (λ t. stop_before far m.at c ms h.1 t)),
      later,
    ))
    (λ ge. later)
  where
    at_here : (at : ℕ) (b : Bool) → (eqb at c || b) ≡ true → b ≡ false → c ≤ at
    at_here at b e f = grind (arith, nat_tests)

    ends_before : (at stop : ℕ) (b : Bool) → (eqb at c || b) ≡ true → at < stop → at < c
        → (b ≡ true → stop ≤ c) → stop - 1 < c
    ends_before at stop b e lt below s = grind (arith, nat_tests)

stands_at_cut : (touched : List Ends) (cuts : List ℕ) (c : ℕ) → Contains cuts c
    → stands (marks_of touched cuts) c ≡ true
stands_at_cut (r ∷ rs) cuts c is =
    or_right (eqb (ground_first r) c) (stands (marks_of rs cuts) c) (stands_at_cut rs cuts c is)
  where
    or_right : (x y : Bool) → y ≡ true → (x || y) ≡ true
    or_right true y e = refl
    or_right false y e = e
stands_at_cut [] cuts c is = among cuts is
  where
    same : eqb c c ≡ true
    same = grind (arith, nat_tests)

    among : (cs : List ℕ) → Contains cs c → stands (map cut_mark cs) c ≡ true
    among [] is = absurd (omega (arith, is.1))
    among (d ∷ cs) (zero, below, e) = let s : eqb d c ≡ true = grind (arith, nat_tests) in rw s refl
    among (d ∷ cs) (suc k, below, e) =
        let later : stands (map cut_mark cs) c ≡ true = among cs (k, omega arith, e) in
        grind (arith, nat_tests)

-- each mark begins at most one piece, and only where its point is touched
few_sweep : (p : ℕ → Bool) (past : ℕ) (ms : List Mark)
    → AllByRecursion (λ r. p r.first ≡ true) (sweep past ms)
    → length (sweep past ms) ≤ count_by (λ m. p m.at) ms
few_sweep p past [] h = omega arith
few_sweep p past (m ∷ ms) h =
    let far : ℕ = max past (past_of m.reach) in
    piece_cases m.at
    (stop_at far (next_at ms)) (λ q. AllByRecursion (λ r. p r.first ≡ true) (q ++ sweep far ms)
    → length (q ++ sweep far ms) ≤ count_by (λ m. p m.at) (m ∷ ms))
    (λ lt h. rw (sum_by-cons (λ (x : Mark). cond (p x.at) 1 0) m ms, h.0)
    (omega (arith, few_sweep p far ms h.1)))
    (λ ge h. rw (sum_by-cons (λ (x : Mark). cond (p x.at) 1 0) m ms)
    (omega (arith, few_sweep p far ms h))) h

count_cuts : (p : ℕ → Bool) (cuts : List ℕ)
    → count_by (λ m. p m.at) (map cut_mark cuts) ≡ count_by p cuts
count_cuts p [] = refl
count_cuts p (c ∷ cs) =
    sum_by-cons (λ (m : Mark). cond (p m.at) 1 0) (cut_mark c) (map cut_mark cs)
    ∙ ap (λ n. cond (p c) 1 0 + n) (count_cuts p cs)
    ∙ sym (sum_by-cons (λ x. cond (p x) 1 0) c cs)

count_grounds : (p : ℕ → Bool) (touched : List Ends)
    → count_by (λ m. p m.at) (map ground_mark touched) ≤ length touched
count_grounds p [] = omega arith
count_grounds p (r ∷ rs) =
    let one : cond (p (ground_first r)) 1 0 ≤ 1 =
    elim (p (ground_first r)) as (λ b. cond b 1 0 ≤ 1) [
      | true ↦ omega arith
      | false ↦ omega arith
    ] in
    rw (sum_by-cons (λ (m : Mark). cond (p m.at) 1 0) (ground_mark r) (map ground_mark rs))
    (omega (arith, count_grounds p rs))

apart_from : (r : Ends) (rs : List Ends) → Ascending (r.last + 1) rs
    → AllAdjacentBelow (λ r s. r.last < s.first) (r ∷ rs) (length (r ∷ rs))
apart_from r [] h k d below = absurd (omega arith)
apart_from r (s ∷ rs) h zero d below = omega (arith, h.0)
apart_from r (s ∷ rs) h (suc k) d below =
    let e : suc k + 1 ≡ suc (k + 1) = omega arith in
    rw e (apart_from s rs h.2 k d (omega arith))

pub apart : (low : ℕ) (rs : List Ends) → Ascending low rs
    → AllAdjacentBelow (λ r s. r.last < s.first) rs (length rs)
apart low [] h k d below = absurd (omega arith)
apart low (r ∷ rs) h k d below = apart_from r rs h.2 k d below

firsts_in : (low : ℕ) (p : ℕ → Bool) (rs : List Ends) → Ascending low rs
    → ((a : ℕ) → has rs a ≡ true → p a ≡ true) → AllByRecursion (λ r. p r.first ≡ true) rs
firsts_in low p [] h inside = tt
firsts_in low p (r ∷ rs) h inside = (
  inside r.first (own r.first r.last (has rs r.first) h.1),
  firsts_in (r.last + 1) p rs h.2
      (λ a e. inside a (or_right (leb r.first a && leb a r.last) (has rs a) e)),
)
  where
    own : (f l : ℕ) (b : Bool) → f ≤ l → ((leb f f && leb f l) || b) ≡ true
    own f l b le = grind (arith, nat_tests)

    or_right : (x y : Bool) → y ≡ true → (x || y) ≡ true
    or_right true y e = refl
    or_right false y e = e

within_from_test : (r : Ends) (a : ℕ) → (leb r.first a && leb a r.last) ≡ true → IsWithin r a
within_from_test r a e = (grind (arith, nat_tests), grind (arith, nat_tests))

test_from_within : (r : Ends) (a : ℕ) → IsWithin r a → (leb r.first a && leb a r.last) ≡ true
test_from_within r a h =
    let low : r.first ≤ a = h.0 in let high : a ≤ r.last = h.1 in
    grind (arith, nat_tests)

-- what a pass over the sorted marks of grounds and cut points finds
are_segments : (touched : List Ends) (cuts : List ℕ) (ms : List Mark)
    → IsPermutation (marks_of touched cuts) ms → Rising 0 ms
    → All IsRange (sweep 0 ms) → AreSegments touched cuts (sweep 0 ms)
are_segments touched cuts ms same up ranges = record {
  ranges = ranges;
  apart = apart 0 (sweep 0 ms) order;
  inside = λ a h.
      inside a (list_any-from_Any (λ r. leb r.first a && leb a r.last) (sweep 0 ms) (tested a h));
  covered =
      λ a h. found a (Any-from_list_any (λ r. leb r.first a && leb a r.last) (sweep 0 ms)
      (has_all touched cuts ms a same up ∙ h));
  uncut =
      λ c is. All-from_recursion (λ r. r.first < c → r.last < c) (sweep 0 ms)
      (uncut_sweep 0 0 c ms up (standing c is));
  few = omega (arith, fewer, counted, count_grounds (is_touched touched) touched);
}
  where
    order : Ascending 0 (sweep 0 ms)
    order = ascends 0 0 ms up

    inside : (a : ℕ) → has (sweep 0 ms) a ≡ true → is_touched touched a ≡ true
    inside a e = sym (has_all touched cuts ms a same up) ∙ e

    tested : (a : ℕ) → Any (λ r. IsWithin r a) (sweep 0 ms)
        → Any (λ r. (leb r.first a && leb a r.last) ≡ true) (sweep 0 ms)
    tested a (k, r, below, is, h) = (k, r, below, is, test_from_within r a h)

    found : (a : ℕ) → Any (λ r. (leb r.first a && leb a r.last) ≡ true) (sweep 0 ms)
        → Any (λ r. IsWithin r a) (sweep 0 ms)
    found a (k, r, below, is, h) = (k, r, below, is, within_from_test r a h)

    standing : (c : ℕ) → Contains cuts c → stands ms c ≡ true
    standing c is =
        sym (list_any-IsPermutation (λ m. eqb m.at c) (marks_of touched cuts) ms same)
        ∙ stands_at_cut touched cuts c is

    fewer : length (sweep 0 ms) ≤ count_by (λ m. is_touched touched m.at) ms
    fewer =
        few_sweep (is_touched touched) 0 ms
        (firsts_in 0 (is_touched touched) (sweep 0 ms) order inside)

    counted : count_by (λ m. is_touched touched m.at) ms ≡ count_by (λ m. is_touched touched m.at)
        (map ground_mark touched) + count_by (is_touched touched) cuts
    counted =
        sum_by-IsPermutation (λ m. cond (is_touched touched m.at) 1 0)
        (marks_of touched cuts) ms same
        ∙ sum_by-append (λ m. cond (is_touched touched m.at) 1 0) (map ground_mark touched)
        (map cut_mark cuts)
        ∙ ap (λ n. count_by (λ m. is_touched touched m.at) (map ground_mark touched) + n)
        (count_cuts (is_touched touched) cuts)

-- the grounds ascend, from this point on
abbrev GroundsRise : ℕ → List Ends → Type 0
GroundsRise low [] = Unit {0}
GroundsRise low (r ∷ rs) = (low ≤ ground_first r) × GroundsRise (ground_first r) rs

grounds_from : (r : Ends) (rs : List Ends)
    → IsNonDecreasingBy (λ (x : Ends). ground_first x) (r ∷ rs) → GroundsRise (ground_first r) rs
grounds_from r [] h = tt
grounds_from r (s ∷ rs) h = (
  h 0 1 r (omega arith) (omega arith),
  grounds_from s rs (λ i j d le below. h (suc i) (suc j) d (omega arith) (omega arith)),
)

grounds_rise : (rs : List Ends) → IsNonDecreasingBy (λ (x : Ends). ground_first x) rs
    → GroundsRise 0 rs
grounds_rise [] h = tt
grounds_rise (r ∷ rs) h = (omega arith, grounds_from r rs h)

-- the cut points ascend, from this point on
abbrev PointsRise : ℕ → List ℕ → Type 0
PointsRise low [] = Unit {0}
PointsRise low (c ∷ cs) = (low ≤ c) × PointsRise c cs

points_from : (c : ℕ) (cs : List ℕ) → IsNonDecreasing (c ∷ cs) → PointsRise c cs
points_from c [] h = tt
points_from c (d ∷ cs) h = (
  h 0 1 c (omega arith) (omega arith),
  points_from d cs (λ i j e le below. h (suc i) (suc j) e (omega arith) (omega arith)),
)

points_rise : (cs : List ℕ) → IsNonDecreasing cs → PointsRise 0 cs
points_rise [] h = tt
points_rise (c ∷ cs) h = (omega arith, points_from c cs h)

-- cases of which of two marks is the first
le_cases : (a b : ℕ) (P : List Mark → Type 0) (x y : List Mark)
    → (a ≤ b → P x) → (b < a → P y) → P (cond (leb a b) x y)
le_cases a b P x y some none =
    elim (leb a b) as (λ t. leb a b ≡ t → P (cond t x y)) [
      | true ↦ λ e. some (grind (arith, nat_tests))
      | false ↦ λ e. none (grind (arith, nat_tests))
    ] refl

rising_cuts : (low : ℕ) (cs : List ℕ) → PointsRise low cs → Rising low (map cut_mark cs)
rising_cuts low [] up = tt
rising_cuts low (c ∷ cs) up = (up.0, rising_cuts c cs up.1)

rising_from_ground : (r : Ends) (rest : List ℕ → List Mark)
    → ((cs : List ℕ) → PointsRise (ground_first r) cs → Rising (ground_first r) (rest cs))
    → (low : ℕ) (cs : List ℕ) → low ≤ ground_first r → PointsRise low cs
    → Rising low (from_ground r rest cs)
rising_from_ground r rest later low [] le up = (le, later [] tt)
rising_from_ground r rest later low (c ∷ cs) le up =
    le_cases (ground_first r) c (Rising low) (ground_mark r ∷ rest (c ∷ cs))
    (cut_mark c ∷ from_ground r rest cs)
    (λ first. (le, later (c ∷ cs) (first, up.1)))
    (λ second. (up.0, rising_from_ground r rest later c cs (omega (arith, second)) up.1))

-- marks that are merged ascend
rising_merged : (low : ℕ) (rs : List Ends) (cs : List ℕ) → GroundsRise low rs → PointsRise low cs
    → Rising low (merged rs cs)
rising_merged low [] cs h up = rising_cuts low cs up
rising_merged low (r ∷ rs) cs h up =
    rising_from_ground r (merged rs)
    (λ ds more. rising_merged (ground_first r) rs ds h.1 more) low cs h.0 up

to_front : (xs : List Mark) (y : Mark) (ys : List Mark)
    → IsPermutation (xs ++ y ∷ ys) (y ∷ (xs ++ ys))
to_front xs y ys =
    subst (λ (zs : List Mark). IsPermutation zs (y ∷ (xs ++ ys))) (append_assoc xs (y ∷ []) ys)
    (IsPermutation-append_left ys (xs ++ y ∷ []) (y ∷ xs) (IsPermutation-to_front xs y))

same_from_ground : (r : Ends) (rs : List Ends) (rest : List ℕ → List Mark)
    → ((cs : List ℕ) → IsPermutation (marks_of rs cs) (rest cs))
    → (cs : List ℕ) → IsPermutation (marks_of (r ∷ rs) cs) (from_ground r rest cs)
same_from_ground r rs rest later [] =
    IsPermutation-cons (ground_mark r) (marks_of rs []) (rest []) (later [])
same_from_ground r rs rest later (c ∷ cs) =
    le_cases (ground_first r) c (IsPermutation (marks_of (r ∷ rs) (c ∷ cs)))
    (ground_mark r ∷ rest (c ∷ cs)) (cut_mark c ∷ from_ground r rest cs)
    (λ first. IsPermutation-cons (ground_mark r) (marks_of rs (c ∷ cs)) (rest (c ∷ cs))
    (later (c ∷ cs)))
    (λ second.
    IsPermutation-trans (marks_of (r ∷ rs) (c ∷ cs)) (cut_mark c ∷ marks_of (r ∷ rs) cs)
    (cut_mark c ∷ from_ground r rest cs)
    (to_front (map ground_mark (r ∷ rs)) (cut_mark c) (map cut_mark cs))
    (IsPermutation-cons (cut_mark c) (marks_of (r ∷ rs) cs) (from_ground r rest cs)
    (same_from_ground r rs rest later cs)))

-- merging leaves no mark out and adds none
same_merged : (rs : List Ends) (cs : List ℕ) → IsPermutation (marks_of rs cs) (merged rs cs)
same_merged [] cs = IsPermutation-refl (map cut_mark cs)
same_merged (r ∷ rs) cs = same_from_ground r rs (merged rs) (same_merged rs) cs

-- what a pass over sorted grounds and cut points finds
pub segments_of_sorted : (touched grounds : List Ends) (points : List ℕ)
    → IsPermutation touched grounds
    → IsNonDecreasingBy (λ (r : Ends). ground_first r) grounds → IsNonDecreasing points
    → All IsRange (sweep 0 (merged grounds points))
    → AreSegments touched points (sweep 0 (merged grounds points))
segments_of_sorted touched grounds points same up ups ranges =
    are_segments touched points (merged grounds points)
    (IsPermutation-trans (marks_of touched points) (marks_of grounds points) (merged grounds points)
    (IsPermutation-append_left (map cut_mark points) (map ground_mark touched)
    (map ground_mark grounds) (IsPermutation-map ground_mark touched grounds same))
    (same_merged grounds points))
    (rising_merged 0 grounds points (grounds_rise grounds up) (points_rise points ups)) ranges

-- the order of the cut points does not matter
pub segments_of_any : (touched out : List Ends) (cuts points : List ℕ) → IsPermutation cuts points
    → AreSegments touched points out → AreSegments touched cuts out
segments_of_any touched out cuts points same h = record {
  ranges = h.ranges;
  apart = h.apart;
  inside = h.inside;
  covered = h.covered;
  uncut = λ c is. h.uncut c (Contains-permutation cuts points c same is);
  few =
      subst (λ (n : ℕ). length out ≤ length touched + n)
      (sum_by-IsPermutation (λ x. cond (is_touched touched x) 1 0) cuts points same) h.few;
}

-- each piece begins at a mark
begun_sweep : (P : ℕ → Type 0) (past : ℕ) (ms : List Mark) → AllByRecursion (λ m. P m.at) ms
    → AllByRecursion (λ r. P r.first) (sweep past ms)
begun_sweep P past [] h = tt
begun_sweep P past (m ∷ ms) h =
    let far : ℕ = max past (past_of m.reach) in
    let later : AllByRecursion (λ r. P r.first) (sweep far ms) = begun_sweep P far ms h.1 in
    piece_cases m.at (stop_at far (next_at ms))
    (λ q. AllByRecursion (λ r. P r.first) (q ++ sweep far ms))
    (λ lt. (h.0, later)) (λ ge. later)

begin_grounds : (P : ℕ → Type 0) (rs : List Ends) → AllByRecursion (λ r. P (ground_first r)) rs
    → AllByRecursion (λ m. P m.at) (map ground_mark rs)
begin_grounds P [] h = tt
begin_grounds P (r ∷ rs) h = (h.0, begin_grounds P rs h.1)

stand_cuts : (P : ℕ → Type 0) (cs : List ℕ) → AllByRecursion P cs
    → AllByRecursion (λ m. P m.at) (map cut_mark cs)
stand_cuts P [] h = tt
stand_cuts P (c ∷ cs) h = (h.0, stand_cuts P cs h.1)

-- what a pass over sorted grounds and cut points finds begins where a ground does, or at a point
pub begun_of_sorted : (grounds : List Ends) (points : List ℕ)
    → All (λ r. Contains (starts_of grounds points) r.first) (sweep 0 (merged grounds points))
begun_of_sorted grounds points =
    All-from_recursion (λ (r : Ends). P r.first) (sweep 0 (merged grounds points))
    (begun_sweep P 0 (merged grounds points)
    (recursion_from_All (λ (m : Mark). P m.at) (merged grounds points)
    (All-permutation (λ (m : Mark). P m.at) (marks_of grounds points) (merged grounds points)
    (same_merged grounds points)
    (All-append (λ (m : Mark). P m.at) (map ground_mark grounds) (map cut_mark points)
    (All-from_recursion (λ (m : Mark). P m.at) (map ground_mark grounds)
    (begin_grounds P grounds (ground_starts grounds
    (λ c is. Contains-append_left (map (λ r. ground_first r) grounds) points c is))))
    (All-from_recursion (λ (m : Mark). P m.at) (map cut_mark points)
    (stand_cuts P points (recursion_from_All P points (point_starts points))))))))
  where
    P : ℕ → Type 0
    P c = Contains (starts_of grounds points) c

    ground_starts : (rs : List Ends) → ((c : ℕ) → Contains (map (λ r. ground_first r) rs) c → P c)
        → AllByRecursion (λ r. P (ground_first r)) rs
    ground_starts [] all = tt
    ground_starts (r ∷ rs) all = (
      all (ground_first r) (0, omega arith, refl),
      ground_starts rs (λ c is. all c (Contains-append_right (ground_first r ∷ [])
          (map (λ r. ground_first r) rs) c is)),
    )

    point_starts : (cs : List ℕ) → All P points
    point_starts cs =
        All-weaker (Contains points) P
        (λ c is. Contains-append_right (map (λ r. ground_first r) grounds) points c is) points
        (All-contains_itself points)
