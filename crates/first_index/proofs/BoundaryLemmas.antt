-- What one pass over sorted edges tells of an address: the first range that holds it.
use Rattle.std.proofs.Common.{◌≡◌, ℕ, zero, suc, ◌+◌, ◌-◌, ◌^◌, ◌<◌, ◌≤◌, ◌⊎◌, Bool, true, false}
use Rattle.std.proofs.Common.{cond, not, ◌&&◌, ◌||◌, eqb, ltb, leb, max, List, [], ◌∷◌, ◌++◌}
use Rattle.std.proofs.Common.{length, get_or, Option, None, slice_get, refl, sym, ap, ◌∙◌, subst}
use Rattle.std.proofs.Common.{inl, inr, arith}
use Rattle.std.specs.List.{All, AllByRecursion, list_any, position}
use Rattle.std.specs.List.Sorted.{IsPermutation, IsNonDecreasingBy, IsPartitionPoint}
use Rattle.std.proofs.lemmas.Bool.Decides.{nat_tests}
use Rattle.std.proofs.lemmas.List.Elements.{All-from_recursion, recursion_from_All}
use Rattle.std.proofs.lemmas.List.Folds.{list_any-append}
use Rattle.std.proofs.lemmas.List.Sorted.{list_any-IsPermutation, All-permutation}
use Rattle.geo_addr.specs.Ranges.{Ends, IsRange, ground_first, holds}
use Rattle.first_index.specs.Boundaries.{told, AreBoundaries}
use Rattle.first_index.specs.Edges.{edges_of, edges_from, after_edge, sweep}
use Rattle.first_index.specs.Nested.{StandAtEdges, is_edge, stands_at}
use Rattle.first_index.specs.declared.boundaries.Boundary.{Boundary}
use Rattle.first_index.specs.declared.boundaries.Edge.{Edge}
use Rattle.first_index.proofs.RankLemmas.{after_all, flag, up_all, in_all, head_is_position}

-- the edges at or below an address
abbrev upto : ℕ → List Edge → List Edge
upto a [] = []
upto a (e ∷ es) = cond (leb e.at a) (e ∷ upto a es) []

told_sweep : (a : ℕ) (ks : List ℕ) (es : List Edge)
    → told (slice_get ks 0) (sweep ks es) a ≡ slice_get (after_all ks (upto a es)) 0
told_sweep a ks [] = refl
told_sweep a ks (e ∷ es) =
    elim (leb e.at a) as (λ b.
    cond b (told (slice_get (after_edge ks e) 0) (sweep (after_edge ks e) es) a) (slice_get ks 0)
    ≡ slice_get (after_all ks (cond b (e ∷ upto a es) [])) 0) [
      | true ↦ told_sweep a (after_edge ks e) es
      | false ↦ refl
    ]

-- the edges ascend, from this point on
abbrev Rising : ℕ → List Edge → Type 0
Rising low [] = Unit {0}
Rising low (e ∷ es) = (low ≤ e.at) × Rising e.at es

rising_from : (e : Edge) (es : List Edge)
    → IsNonDecreasingBy (λ (x : Edge). x.at) (e ∷ es) → Rising e.at es
rising_from e [] h = tt
rising_from e (f ∷ es) h = (
  h 0 1 e (omega arith) (omega arith),
  rising_from f es (λ i j d le below. h (suc i) (suc j) d (omega arith) (omega arith)),
)

rising : (es : List Edge) → IsNonDecreasingBy (λ (x : Edge). x.at) es → Rising 0 es
rising [] h = tt
rising (e ∷ es) h = (omega arith, rising_from e es h)

-- an edge of this rank begins a ground at s or ends it at t
record Fits (r s t : ℕ) (e : Edge) : Type 0 where
  opening : eqb e.rank r ≡ true → e.opens ≡ true → e.at ≡ s
  closing : eqb e.rank r ≡ true → e.opens ≡ false → e.at ≡ t

-- whether an edge of this rank is among them that opens, or closes
abbrev some_edge : List Edge → ℕ → Bool → Bool
some_edge es r b = list_any (λ e. eqb e.rank r && (cond b e.opens (not e.opens))) es

-- no edge of this rank
unmoved : (v : Bool) (a r : ℕ) (es : List Edge) → AllByRecursion (λ e. eqb e.rank r ≡ false) es
    → flag v (upto a es) r ≡ v
unmoved v a r [] h = refl
unmoved v a r (e ∷ es) h =
    elim (leb e.at a) as (λ b. flag v (cond b (e ∷ upto a es) []) r ≡ v) [
      | true ↦
          subst (λ b. flag (cond b e.opens v) (upto a es) r ≡ v) (sym h.0) (unmoved v a r es h.1)
      | false ↦ refl
    ]

-- the address lies before the ground
before_ground : (v : Bool) (a r s t : ℕ) (es : List Edge) → AllByRecursion (Fits r s t) es → a < s
    → a < t → flag v (upto a es) r ≡ v
before_ground v a r s t [] h low high = refl
before_ground v a r s t (e ∷ es) h low high =
    elim (leb e.at a) as (λ b. leb e.at a ≡ b → flag v (cond b (e ∷ upto a es) []) r ≡ v) [
      | true ↦ λ le. subst (λ b. flag (cond b e.opens v) (upto a es) r ≡ v) (sym (other le))
          (before_ground v a r s t es h.1 low high)
      | false ↦ λ le. refl
    ] refl
  where
    other : leb e.at a ≡ true → eqb e.rank r ≡ false
    other le =
        let below : e.at ≤ a = grind (arith, nat_tests) in
        elim (eqb e.rank r) as (λ b. eqb e.rank r ≡ b → b ≡ false) [
          | true ↦ λ is. absurd (elim e.opens as (λ b. e.opens ≡ b → ⊥) [
            | true ↦ λ o. let at : e.at ≡ s = h.0.opening is o in omega arith
            | false ↦ λ o. let at : e.at ≡ t = h.0.closing is o in omega arith
          ] refl)
          | false ↦ λ is. refl
        ] refl

stays_open : (a r s t : ℕ) (es : List Edge) → AllByRecursion (Fits r s t) es → a < t
    → flag true (upto a es) r ≡ true
stays_open a r s t [] h high = refl
stays_open a r s t (e ∷ es) h high =
    elim (leb e.at a) as (λ b. leb e.at a ≡ b → flag true (cond b (e ∷ upto a es) []) r ≡ true) [
      | true ↦ λ le.
          subst (λ w. flag w (upto a es) r ≡ true) (sym (kept le)) (stays_open a r s t es h.1 high)
      | false ↦ λ le. refl
    ] refl
  where
    kept : leb e.at a ≡ true → cond (eqb e.rank r) e.opens true ≡ true
    kept le =
        let below : e.at ≤ a = grind (arith, nat_tests) in
        elim (eqb e.rank r) as (λ b. eqb e.rank r ≡ b → cond b e.opens true ≡ true) [
          | true ↦ λ is. elim e.opens as (λ b. e.opens ≡ b → b ≡ true) [
            | true ↦ λ o. refl
            | false ↦ λ o. absurd (let at : e.at ≡ t = h.0.closing is o in omega arith)
          ] refl
          | false ↦ λ is. refl
        ] refl

stays_shut : (low a r s t : ℕ) (es : List Edge) → Rising low es → AllByRecursion (Fits r s t) es
    → s < low → flag false (upto a es) r ≡ false
stays_shut low a r s t [] up h lt = refl
stays_shut low a r s t (e ∷ es) up h lt =
    elim (leb e.at a) as (λ b. flag false (cond b (e ∷ upto a es) []) r ≡ false) [
      | true ↦ subst (λ w. flag w (upto a es) r ≡ false) (sym kept)
          (stays_shut e.at a r s t es up.1 h.1 (omega (arith, up.0)))
      | false ↦ refl
    ]
  where
    kept : cond (eqb e.rank r) e.opens false ≡ false
    kept =
        elim (eqb e.rank r) as (λ b. eqb e.rank r ≡ b → cond b e.opens false ≡ false) [
          | true ↦ λ is. elim e.opens as (λ b. e.opens ≡ b → b ≡ false) [
            | true ↦ λ o. absurd (let at : e.at ≡ s = h.0.opening is o in omega (arith, up.0))
            | false ↦ λ o. refl
          ] refl
          | false ↦ λ is. refl
        ] refl

-- an edge of this rank that opens stands at s, and one that closes at t
own_at : (r s t : ℕ) (b : Bool) (e : Edge) → Fits r s t e
    → (eqb e.rank r && (cond b e.opens (not e.opens))) ≡ true → e.at ≡ cond b s t
own_at r s t true e h is = h.opening (grind (arith, nat_tests)) (grind (arith, nat_tests))
own_at r s t false e h is = h.closing (grind (arith, nat_tests)) (grind (arith, nat_tests))

some_at : (low r s t : ℕ) (b : Bool) (es : List Edge) → Rising low es
    → AllByRecursion (Fits r s t) es → some_edge es r b ≡ true → low ≤ cond b s t
some_at low r s t b [] up h is = absurd (let f : false ≡ true = is in cc)
some_at low r s t b (e ∷ es) up h is =
    elim (eqb e.rank r && (cond b e.opens (not e.opens)))
    as (λ k. (eqb e.rank r && (cond b e.opens (not e.opens))) ≡ k → (k || some_edge es r b) ≡ true
    → low ≤ cond b s t) [
      | true ↦ λ own _. let at : e.at ≡ cond b s t = own_at r s t b e h.0 own in
          omega (arith, up.0)
      | false ↦ λ _ later. let le : e.at ≤ cond b s t = some_at e.at r s t b es up.1 h.1 later in
          omega (arith, up.0)
    ] refl is

-- the address lies in the ground
in_ground : (v : Bool) (low a r s t : ℕ) (es : List Edge)
    → Rising low es → AllByRecursion (Fits r s t) es → some_edge es r true ≡ true → s ≤ a → a < t
    → flag v (upto a es) r ≡ true
in_ground v low a r s t [] up h is begun inside = absurd (let f : false ≡ true = is in cc)
in_ground v low a r s t (e ∷ es) up h is begun inside =
    elim (leb e.at a) as (λ b. leb e.at a ≡ b → flag v (cond b (e ∷ upto a es) []) r ≡ true) [
      | true ↦ λ le. elim (eqb e.rank r && e.opens)
          as (λ k. (eqb e.rank r && e.opens) ≡ k → (k || some_edge es r true) ≡ true
          → flag (cond (eqb e.rank r) e.opens v) (upto a es) r ≡ true) [
            | true ↦ λ own _. subst (λ w. flag w (upto a es) r ≡ true)
                (sym (opened (eqb e.rank r) e.opens own)) (stays_open a r s t es h.1 inside)
            | false ↦ λ _ later.
                in_ground (cond (eqb e.rank r) e.opens v) e.at a r s t es up.1 h.1 later
                begun inside
          ] refl is
      | false ↦ λ gt. absurd (let at : e.at ≤ s =
          some_at e.at r s t true (e ∷ es) (omega arith, up.1) h is in grind (arith, nat_tests))
    ] refl
  where
    opened : (x o : Bool) → (x && o) ≡ true → cond x o v ≡ true
    opened true o own = own
    opened false o own = absurd (let f : false ≡ true = own in cc)

-- the address lies behind the ground
past_ground : (v : Bool) (low a r s t : ℕ) (es : List Edge)
    → Rising low es → AllByRecursion (Fits r s t) es → some_edge es r false ≡ true → t ≤ a → s < t
    → flag v (upto a es) r ≡ false
past_ground v low a r s t [] up h is ended lt = absurd (let f : false ≡ true = is in cc)
past_ground v low a r s t (e ∷ es) up h is ended lt =
    elim (leb e.at a) as (λ b. leb e.at a ≡ b → flag v (cond b (e ∷ upto a es) []) r ≡ false) [
      | true ↦ λ le. elim (eqb e.rank r && not e.opens)
          as (λ k. (eqb e.rank r && not e.opens) ≡ k → (k || some_edge es r false) ≡ true
          → flag (cond (eqb e.rank r) e.opens v) (upto a es) r ≡ false) [
            | true ↦ λ own _. let at : e.at ≡ t = own_at r s t false e h.0 own in
                subst (λ w. flag w (upto a es) r ≡ false) (sym (shut (eqb e.rank r) e.opens own))
                (stays_shut e.at a r s t es up.1 h.1 (omega arith))
            | false ↦ λ _ later.
                past_ground (cond (eqb e.rank r) e.opens v) e.at a r s t es up.1 h.1 later ended lt
          ] refl is
      | false ↦ λ gt. absurd (let at : e.at ≤ t =
          some_at e.at r s t false (e ∷ es) (omega arith, up.1) h is in grind (arith, nat_tests))
    ] refl
  where
    shut : (x o : Bool) → (x && not o) ≡ true → cond x o v ≡ false
    shut true true own = absurd (let f : false ≡ true = own in cc)
    shut true false own = refl
    shut false o own = absurd (let f : false ≡ true = own in cc)

-- the edges of one range
edges_cases : (n : ℕ) (r : Ends) (P : List Edge → Type 0)
    → (r.last < 2 ^ 128 - 1 → P (record { at = ground_first r; rank = n; opens = true }
    ∷ record { at = r.last + 1; rank = n; opens = false } ∷ []))
    → (2 ^ 128 - 1 ≤ r.last → P (record { at = ground_first r; rank = n; opens = true } ∷ []))
    → P (edges_of n r)
edges_cases n r P ends never =
    elim (ltb r.last (2 ^ 128 - 1)) as (λ b. ltb r.last (2 ^ 128 - 1) ≡ b → P (record {
      at = ground_first r;
      rank = n;
      opens = true;
    } ∷ cond b (record { at = r.last + 1; rank = n; opens = false } ∷ []) [])) [
      | true ↦ λ e. ends (grind (arith, nat_tests))
      | false ↦ λ e. never (grind (arith, nat_tests))
    ] refl

each_append : (P : Edge → Type 0) (xs ys : List Edge) → AllByRecursion P xs → AllByRecursion P ys
    → AllByRecursion P (xs ++ ys)
each_append P [] ys h k = k
each_append P (x ∷ xs) ys h k = (h.0, each_append P xs ys h.1 k)

each_weaker : (P Q : Edge → Type 0)
    → ((e : Edge) → P e → Q e) → (xs : List Edge) → AllByRecursion P xs → AllByRecursion Q xs
each_weaker P Q f [] h = tt
each_weaker P Q f (x ∷ xs) h = (f x h.0, each_weaker P Q f xs h.1)

ranks_from : (n : ℕ) (rs : List Ends)
    → AllByRecursion (λ e. (n ≤ e.rank) × (e.rank < n + length rs)) (edges_from n rs)
ranks_from n [] = tt
ranks_from n (r ∷ rs) =
    each_append (λ e. (n ≤ e.rank) × (e.rank < n + length (r ∷ rs))) (edges_of n r)
    (edges_from (n + 1) rs)
    (edges_cases n r (λ es. AllByRecursion (λ e. (n ≤ e.rank) × (e.rank < n + length (r ∷ rs))) es)
    (λ ends. ((omega arith, omega arith), ((omega arith, omega arith), tt)))
    (λ never. ((omega arith, omega arith), tt)))
    (each_weaker (λ e. (n + 1 ≤ e.rank) × (e.rank < n + 1 + length rs)) (λ e. (n ≤ e.rank)
    × (e.rank < n + length (r ∷ rs))) (λ e h. (omega (arith, h.0), omega (arith, h.1)))
    (edges_from (n + 1) rs) (ranks_from (n + 1) rs))

-- an edge of another rank fits
fits_other : (r s t : ℕ) (e : Edge) → e.rank < r ⊎ r < e.rank → Fits r s t e
fits_other r s t e ne = record {
  opening = λ is _. absurd (apart is);
  closing = λ is _. absurd (apart is);
}
  where
    apart : eqb e.rank r ≡ true → ⊥
    apart is =
        let same : e.rank ≡ r = grind (arith, nat_tests) in
        elim ne [ inl lt ↦ omega arith | inr gt ↦ omega arith ]

fits_own : (r s t : ℕ) → Fits r s t (record { at = s; rank = r; opens = true })
fits_own r s t = record { opening = λ _ _. refl; closing = λ _ o. absurd cc }

fits_end : (r s t : ℕ) → Fits r s t (record { at = t; rank = r; opens = false })
fits_end r s t = record { opening = λ _ o. absurd cc; closing = λ _ _. refl }

fits_from : (d : Ends) (n k : ℕ) (rs : List Ends) → k < length rs → AllByRecursion
    (Fits (n + k) (ground_first (get_or rs k d)) ((get_or rs k d).last + 1)) (edges_from n rs)
fits_from d n k [] below = absurd (omega arith)
fits_from d n zero (r ∷ rs) below =
    let e : n + 0 ≡ n = omega arith in
    subst (λ i. AllByRecursion (Fits i (ground_first r) (r.last + 1)) (edges_from n (r ∷ rs)))
    (sym e)
    (each_append (Fits n (ground_first r) (r.last + 1)) (edges_of n r) (edges_from (n + 1) rs)
    (edges_cases n r (λ es. AllByRecursion (Fits n (ground_first r) (r.last + 1)) es)
    (λ ends.
    (fits_own n (ground_first r) (r.last + 1), (fits_end n (ground_first r) (r.last + 1), tt)))
    (λ never. (fits_own n (ground_first r) (r.last + 1), tt)))
    (each_weaker (λ e. (n + 1 ≤ e.rank) × (e.rank < n + 1 + length rs)) (Fits n (ground_first r)
    (r.last + 1)) (λ e h. fits_other n (ground_first r) (r.last + 1) e (inr (omega (arith, h.0))))
    (edges_from (n + 1) rs) (ranks_from (n + 1) rs)))
fits_from d n (suc k) (r ∷ rs) below =
    let e : n + 1 + k ≡ n + suc k = omega arith in
    let x : Ends = get_or rs k d in
    subst (λ i. AllByRecursion (Fits i (ground_first x) (x.last + 1)) (edges_from n (r ∷ rs))) e
    (each_append (Fits (n + 1 + k) (ground_first x) (x.last + 1)) (edges_of n r)
    (edges_from (n + 1) rs)
    (edges_cases n r (λ es. AllByRecursion (Fits (n + 1 + k) (ground_first x) (x.last + 1)) es)
    (λ ends. (
      fits_other (n + 1 + k) (ground_first x) (x.last + 1) (record {
        at = ground_first r;
        rank = n;
        opens = true;
      }) (inl (omega arith)),
      (
        fits_other (n + 1 + k) (ground_first x) (x.last + 1) (record {
          at = r.last + 1;
          rank = n;
          opens = false;
        }) (inl (omega arith)),
        tt,
      ),
    ))
    (λ never. (
      fits_other (n + 1 + k) (ground_first x) (x.last + 1) (record {
        at = ground_first r;
        rank = n;
        opens = true;
      }) (inl (omega arith)),
      tt,
    )))
    (fits_from d (n + 1) k rs (omega arith)))

or_right : (x y : Bool) → y ≡ true → (x || y) ≡ true
or_right true y e = refl
or_right false y e = e

some_from : (d : Ends) (b : Bool) (n k : ℕ) (rs : List Ends)
    → k < length rs → (b ≡ false → (get_or rs k d).last < 2 ^ 128 - 1)
    → some_edge (edges_from n rs) (n + k) b ≡ true
some_from d b n k [] below ends = absurd (omega arith)
some_from d b n zero (r ∷ rs) below ends =
    let e : n + 0 ≡ n = omega arith in
    let same : eqb n n ≡ true = grind (arith, nat_tests) in
    subst (λ i. some_edge (edges_from n (r ∷ rs)) i b ≡ true) (sym e)
    (edges_cases n r (λ es. some_edge (es ++ edges_from (n + 1) rs) n b ≡ true)
    (λ _. elim b as (λ c. ((eqb n n && cond c true false)
    || ((eqb n n && cond c false true) || some_edge (edges_from (n + 1) rs) n c)) ≡ true) [
      | true ↦ rw same refl
      | false ↦ rw same refl
    ])
    (λ never. elim b as (λ c. (c ≡ false → r.last < 2 ^ 128 - 1)
    → ((eqb n n && cond c true false) || some_edge (edges_from (n + 1) rs) n c) ≡ true) [
      | true ↦ λ _. rw same refl
      | false ↦ λ f. absurd (let lt : r.last < 2 ^ 128 - 1 = f refl in omega arith)
    ] ends))
some_from d b n (suc k) (r ∷ rs) below ends =
    let e : n + 1 + k ≡ n + suc k = omega arith in
    subst (λ i. some_edge (edges_from n (r ∷ rs)) i b ≡ true) e
    (list_any-append (λ x. eqb x.rank (n + 1 + k) && (cond b x.opens (not x.opens))) (edges_of n r)
    (edges_from (n + 1) rs)
    ∙ or_right (some_edge (edges_of n r) (n + 1 + k) b) (some_edge (edges_from (n + 1) rs)
    (n + 1 + k) b) (some_from d b (n + 1) k rs (omega arith) ends))

-- the ground of a range is not empty
pub ground_before : (x : Ends) → IsRange x → ground_first x < x.last + 1
unfolding ground_first
ground_before x h =
    let order : x.first ≤ x.last = h.ordered in
    elim (ltb x.last (2 ^ 32))
    as (λ b. ltb x.last (2 ^ 32) ≡ b → cond b x.first (max x.first (2 ^ 32)) < x.last + 1) [
      | true ↦ λ e. omega arith
      | false ↦ λ e. let high : 2 ^ 32 ≤ x.last = grind (arith, nat_tests) in omega arith
    ] refl

pub held : (x : Ends) (a : ℕ) → holds x a ≡ (leb (ground_first x) a && ltb a (x.last + 1))
unfolding holds
held x a = let s : leb a x.last ≡ ltb a (x.last + 1) = grind (arith, nat_tests) in rw s refl

module _
    (ranges : List Ends) (d : Ends) (es : List Edge) (same : IsPermutation (edges_from 0 ranges) es)
    (sorted : IsNonDecreasingBy (λ (e : Edge). e.at) es) (all : All IsRange ranges) where
  up : Rising 0 es
  up = rising es sorted

  -- a rank that no range has
  past_ranks : (a r : ℕ) → length ranges ≤ r → flag false (upto a es) r ≡ false
  past_ranks a r le =
      unmoved false a r es
      (recursion_from_All (λ e. eqb e.rank r ≡ false) es
      (All-permutation (λ e. eqb e.rank r ≡ false) (edges_from 0 ranges) es same
      (All-from_recursion (λ e. eqb e.rank r ≡ false) (edges_from 0 ranges)
      (each_weaker (λ e. (0 ≤ e.rank) × (e.rank < 0 + length ranges)) (λ e. eqb e.rank r ≡ false)
      (λ e h. let lt : e.rank < 0 + length ranges = h.1 in grind (arith, nat_tests))
      (edges_from 0 ranges) (ranks_from 0 ranges)))))

  fits : (r : ℕ) → r < length ranges
      → AllByRecursion (Fits r (ground_first (get_or ranges r d)) ((get_or ranges r d).last + 1)) es
  fits r below =
      let x : Ends = get_or ranges r d in
      let e : 0 + r ≡ r = omega arith in
      recursion_from_All (Fits r (ground_first x) (x.last + 1)) es
      (All-permutation (Fits r (ground_first x) (x.last + 1)) (edges_from 0 ranges) es same
      (All-from_recursion (Fits r (ground_first x) (x.last + 1)) (edges_from 0 ranges)
      (subst (λ i. AllByRecursion (Fits i (ground_first x) (x.last + 1)) (edges_from 0 ranges)) e
      (fits_from d 0 r ranges below))))

  among : (r : ℕ) (b : Bool) → r < length ranges
      → (b ≡ false → (get_or ranges r d).last < 2 ^ 128 - 1) → some_edge es r b ≡ true
  among r b below ends =
      let e : 0 + r ≡ r = omega arith in
      sym (list_any-IsPermutation (λ e. eqb e.rank r && (cond b e.opens (not e.opens)))
      (edges_from 0 ranges) es same)
      ∙ subst (λ i. some_edge (edges_from 0 ranges) i b ≡ true) e
      (some_from d b 0 r ranges below ends)

  -- a rank is in force at an address where its range holds it
  flag_is_held : (a : ℕ) → a < 2 ^ 128 → (r : ℕ) → r < length ranges → flag false (upto a es) r
      ≡ (leb (ground_first (get_or ranges r d)) a && ltb a ((get_or ranges r d).last + 1))
  flag_is_held a within r below =
      let x : Ends = get_or ranges r d in
      let s : ℕ = ground_first x in
      let t : ℕ = x.last + 1 in
      let order : s < t = ground_before x (all r d below) in
      elim (leb s a) as (λ b. leb s a ≡ b → flag false (upto a es) r ≡ (b && ltb a t)) [
        | true ↦ λ begun. elim (ltb a t) as (λ b. ltb a t ≡ b → flag false (upto a es) r ≡ b) [
          | true ↦ λ inside. in_ground false 0 a r s t es up (fits r below) (among r true below
              (λ f. absurd cc)) (grind (arith, nat_tests)) (grind (arith, nat_tests))
          | false ↦ λ past. let ended : t ≤ a = grind (arith, nat_tests) in
              past_ground false 0 a r s t es up (fits r below)
              (among r false below (λ f. omega arith)) ended order
        ] refl
        | false ↦ λ before. let low : a < s = grind (arith, nat_tests) in
            before_ground false a r s t es (fits r below) low (omega arith)
      ] refl

  in_force : (a : ℕ) → a < 2 ^ 128
      → (r : ℕ) → flag false (upto a es) r ≡ (ltb r (length ranges) && holds (get_or ranges r d) a)
  in_force a within r =
      elim (ltb r (length ranges)) as (λ b. ltb r (length ranges) ≡ b
      → flag false (upto a es) r ≡ (b && holds (get_or ranges r d) a)) [
        | true ↦ λ e. flag_is_held a within r (grind (arith, nat_tests))
            ∙ sym (held (get_or ranges r d) a)
        | false ↦ λ e. past_ranks a r (grind (arith, nat_tests))
      ] refl

  tell : (a : ℕ) → a < 2 ^ 128 → told None (sweep [] es) a ≡ position (λ r. holds r a) ranges
  tell a within =
      told_sweep a [] es
      ∙ head_is_position (λ r. holds r a) ranges d (after_all [] (upto a es))
      (up_all [] (upto a es) tt) (λ r. in_all [] (upto a es) r tt ∙ in_force a within r)

length-sweep : (ks : List ℕ) (es : List Edge) → length (sweep ks es) ≡ length es
length-sweep ks [] = refl
length-sweep ks (e ∷ es) = ap suc (length-sweep (after_edge ks e) es)

at-sweep : (ks : List ℕ) (es : List Edge) (k : ℕ) (d : Boundary) (c : Edge) → k < length es
    → (get_or (sweep ks es) k d).at ≡ (get_or es k c).at
at-sweep ks [] k d c below = absurd (omega arith)
at-sweep ks (e ∷ es) zero d c below = refl
at-sweep ks (e ∷ es) (suc k) d c below = at-sweep (after_edge ks e) es k d c (omega arith)

-- what a pass over the sorted edges of ranges finds
pub are_boundaries : (ranges : List Ends) (es : List Edge) → IsPermutation (edges_from 0 ranges) es
    → IsNonDecreasingBy (λ (e : Edge). e.at) es → All IsRange ranges
    → AreBoundaries ranges (sweep [] es)
are_boundaries ranges es same sorted all = record {
  ordered = λ i j d le below.
      let c : Edge = record { at = 0; rank = 0; opens = false } in
      let n : length (sweep [] es) ≡ length es = length-sweep [] es in
      let x : (get_or (sweep [] es) i d).at ≡ (get_or es i c).at =
      at-sweep [] es i d c (omega arith) in
      let y : (get_or (sweep [] es) j d).at ≡ (get_or es j c).at =
      at-sweep [] es j d c (omega arith) in
      omega (arith, sorted i j c le (omega arith));
  tell = tell ranges (record { first = 0; last = 0 }) es same sorted all;
}

-- what is told is what the last boundary at or below the address tells
pub told_at : (before : Option ℕ) (d : Boundary) (bs : List Boundary) (i a : ℕ) → i ≤ length bs
    → ((k : ℕ) → k < i → (get_or bs k d).at ≤ a) → (i < length bs → a < (get_or bs i d).at)
    → told before bs a ≡ cond (eqb i 0) before (get_or bs (i - 1) d).first
told_at before d [] i a le low high = let e : i ≡ 0 = omega arith in rw e refl
told_at before d (b ∷ bs) zero a le low high =
    let gt : leb b.at a ≡ false =
    (let lt : a < b.at = high (omega arith) in grind (arith, nat_tests)) in rw gt refl
told_at before d (b ∷ bs) (suc i) a le low high =
    let here : leb b.at a ≡ true =
    (let first : b.at ≤ a = low 0 (omega arith) in grind (arith, nat_tests)) in
    let later : told b.first bs a ≡ cond (eqb i 0) b.first (get_or bs (i - 1) d).first =
    told_at b.first d bs i a (omega arith) (λ k lt. low (suc k) (omega arith))
    (λ lt. high (omega arith)) in
    rw here (later ∙ last i)
  where
    last : (i : ℕ) → cond (eqb i 0) b.first (get_or bs (i - 1) d).first
        ≡ cond (eqb (suc i) 0) before (get_or (b ∷ bs) (suc i - 1) d).first
    last zero = refl
    last (suc j) =
        let f : eqb (suc j) 0 ≡ false = grind (arith, nat_tests) in
        let g : eqb (suc (suc j)) 0 ≡ false = grind (arith, nat_tests) in
        let m : suc j - 1 ≡ j = omega arith in
        let n : suc (suc j) - 1 ≡ suc j = omega arith in
        rw (f, g, m, n) refl

-- the same, from what a search by halving found
pub told_found : (bs : List Boundary) (i a : ℕ) → i ≤ length bs
    → IsPartitionPoint (λ (b : Boundary). leb b.at a ≡ true) (λ b. leb b.at a ≡ false) bs i
    → told None bs a
    ≡ cond (eqb i 0) None (get_or bs (i - 1) (record { at = 0; first = None })).first
told_found bs i a le found =
    told_at None (record { at = 0; first = None }) bs i a le
    (λ k lt. let e : leb (get_or bs k (record { at = 0; first = None })).at a ≡ true =
    found.0 k (record { at = 0; first = None }) (omega arith) lt in grind (arith, nat_tests))
    (λ lt. let e : leb (get_or bs i (record { at = 0; first = None })).at a ≡ false =
    found.1 i (record { at = 0; first = None }) (omega arith) lt in grind (arith, nat_tests))

-- where the boundaries of a pass stand
stands_sweep : (ks : List ℕ) (es : List Edge) (c : ℕ) → stands_at (sweep ks es) c
    ≡ list_any (λ (e : Edge). eqb e.at c) es
stands_sweep ks [] c = refl
stands_sweep ks (e ∷ es) c = ap (λ v. eqb e.at c || v) (stands_sweep (after_edge ks e) es c)

stand_both : (g t k w : Bool) → (g ≡ true → w ≡ true) → (t ≡ true → w ≡ true)
    → ((g || (t || false)) || (k && w)) ≡ (((g || t) || k) && w)
stand_both true t k w f h = sym (f refl)
stand_both false true k w f h = sym (h refl)
stand_both false false k w f h = refl

stand_begin : (g t k w : Bool) → (g ≡ true → w ≡ true) → (t ≡ true → w ≡ false)
    → ((g || false) || (k && w)) ≡ (((g || t) || k) && w)
stand_begin true t k w f h = sym (f refl)
stand_begin false true k w f h = ap (λ v. k && v) (h refl) ∙ none k ∙ sym (h refl)
  where
    none : (v : Bool) → (v && false) ≡ false
    none true = refl
    none false = refl
stand_begin false false k w f h = refl

edges_stand : (n : ℕ) (rs : List Ends) (c : ℕ) → AllByRecursion IsRange rs
    → list_any (λ (e : Edge). eqb e.at c) (edges_from n rs) ≡ (is_edge rs c && ltb c (2 ^ 128))
edges_stand n [] c all = refl
edges_stand n (r ∷ rs) c all =
    let p : Edge → Bool = λ e. eqb e.at c in
    let g : ℕ = ground_first r in
    let order : g < r.last + 1 = ground_before r all.0 in
    let within : r.last < 2 ^ 128 = all.0.within in
    list_any-append p (edges_of n r) (edges_from (n + 1) rs)
    ∙ ap (λ v. list_any p (edges_of n r) || v) (edges_stand (n + 1) rs c all.1)
    ∙ edges_cases n r (λ es. (list_any p es || (is_edge rs c && ltb c (2 ^ 128)))
    ≡ (((eqb g c || eqb (r.last + 1) c) || is_edge rs c) && ltb c (2 ^ 128)))
    (λ ends. stand_both (eqb g c) (eqb (r.last + 1) c) (is_edge rs c) (ltb c (2 ^ 128))
    (λ is. grind (arith, nat_tests)) (λ is. grind (arith, nat_tests)))
    (λ never. stand_begin (eqb g c) (eqb (r.last + 1) c) (is_edge rs c) (ltb c (2 ^ 128))
    (λ is. grind (arith, nat_tests)) (λ is. grind (arith, nat_tests)))

pub are_standing : (ranges : List Ends) (es : List Edge) → IsPermutation (edges_from 0 ranges) es
    → All IsRange ranges → StandAtEdges ranges (sweep [] es)
are_standing ranges es same all c =
    stands_sweep [] es c
    ∙ sym (list_any-IsPermutation (λ (e : Edge). eqb e.at c) (edges_from 0 ranges) es same)
    ∙ edges_stand 0 ranges c (recursion_from_All IsRange ranges all)
