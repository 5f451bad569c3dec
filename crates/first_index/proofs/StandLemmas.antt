-- What one pass tells of statements that are seen through borrows, and where its boundaries stand.
use Rattle.std.proofs.Common.{◌≡◌, ℕ, ◌+◌, ◌-◌, ◌^◌, ◌<◌, ◌≤◌, Bool, true, false, cond}
use Rattle.std.proofs.Common.{◌&&◌, ◌||◌, eqb, ltb, inl, inr, List, [], ◌∷◌, map}
use Rattle.std.proofs.Common.{fold, Option, Some, None, slice_get, Ordering, refl, sym, ap}
use Rattle.std.proofs.Common.{◌∙◌, subst, arith}
use Rattle.std.specs.Cmp.{IsTotalOrder}
use Rattle.std.specs.List.{enumerate_from, filter}
use Rattle.std.specs.List.Sorted.{IsPermutation}
use Rattle.std.specs.Option.{option_and_then, option_map}
use Rattle.std.specs.Ordering.{is_lt}
use Rattle.std.proofs.lemmas.Bool.Decides.{nat_tests}
use Rattle.std.proofs.lemmas.List.Folds.{Any-from_list_any, list_any-from_Any}
use Rattle.std.proofs.lemmas.List.Sorted.{IsPermutation-map, list_any-IsPermutation}
use Rattle.geo_addr.specs.Ranges.{AreCuts, Ends, IsEdge, ground_first, holds}
use Rattle.geo_terms.specs.First.{better}
use Rattle.first_index.specs.FirstIndex.{StandAtCuts, TellsFirst, index_cmp}
use Rattle.first_index.specs.Nested.{AreBoundariesOf, StandAtEdges, best_index, is_edge, stands_at}
use Rattle.first_index.specs.declared.boundaries.Boundary.{Boundary}
use Rattle.first_index.proofs.IndexLemmas.{best_first}
use Rattle.geo_terms.proofs.SeenLemmas.{map_map}
use Rattle.geo_terms.proofs.Members.{Among, among_from_contains, contains_from_among}

-- boundaries stand where points do
abbrev place : Boundary → ℕ
place b = b.at

among_stands : (bs : List Boundary) (c : ℕ) → Among c (map place bs) → stands_at bs c ≡ true
among_stands [] c is = absurd is
among_stands (b ∷ bs) c (inl e) =
    let here : eqb b.at c ≡ true = grind (arith, nat_tests) in rw here refl
among_stands (b ∷ bs) c (inr later) =
    let there : stands_at bs c ≡ true = among_stands bs c later in
    rw there (either (eqb b.at c))
  where
    either : (v : Bool) → (v || true) ≡ true
    either true = refl
    either false = refl

stands_among : (bs : List Boundary) (c : ℕ) → stands_at bs c ≡ true → Among c (map place bs)
stands_among [] c is = absurd (let f : false ≡ true = is in cc)
stands_among (b ∷ bs) c is =
    elim (eqb b.at c) as (λ v. eqb b.at c ≡ v → (v || stands_at bs c) ≡ true
    → Among c (map place (b ∷ bs))) [
      | true ↦ λ e here. inl (grind (arith, nat_tests))
      | false ↦ λ e later. inr (stands_among bs c later)
    ] refl is

both : (x y : Bool) → (x && y) ≡ true → (x ≡ true) × (y ≡ true)
both true y is = (refl, is)
both false y is = absurd (let f : false ≡ true = is in cc)

edge_is : (r : Ends) (c : ℕ) → (eqb (ground_first r) c || eqb (r.last + 1) c) ≡ true → IsEdge c r
edge_is r c is =
    elim (eqb (ground_first r) c) as (λ v. eqb (ground_first r) c ≡ v
    → (v || eqb (r.last + 1) c) ≡ true → IsEdge c r) [
      | true ↦ λ e here. inl (grind (arith, nat_tests))
      | false ↦ λ e later. inr (grind (arith, nat_tests))
    ] refl is

edge_here : (r : Ends) (c : ℕ) → IsEdge c r
    → (eqb (ground_first r) c || eqb (r.last + 1) c) ≡ true
edge_here r c (inl e) = let here : eqb (ground_first r) c ≡ true = grind (arith, nat_tests) in
    rw here refl
edge_here r c (inr e) = let here : eqb (r.last + 1) c ≡ true = grind (arith, nat_tests) in
    rw here (either (eqb (ground_first r) c))
  where
    either : (v : Bool) → (v || true) ≡ true
    either true = refl
    either false = refl

-- boundaries that stand at the edges of grounds stand at their cut points
stand_cuts : (rs : List Ends) (bs : List Boundary) → StandAtEdges rs bs
    → AreCuts rs (record { first = 0; last = 2 ^ 128 - 1 }) (map place bs)
stand_cuts rs bs stand c = (
  λ has.
      let at : stands_at bs c ≡ true =
      among_stands bs c (among_from_contains c (map place bs) has) in
      let parts = both (is_edge rs c) (ltb c (2 ^ 128)) (sym (stand c) ∙ at) in
      let inside : c < 2 ^ 128 = (let e : ltb c (2 ^ 128) ≡ true = parts.1 in
      grind (arith, nat_tests)) in
      let (k, r, below, is, edge) = Any-from_list_any
      (λ (r : Ends). eqb (ground_first r) c || eqb (r.last + 1) c) rs parts.0 in
      ((k, r, below, is, edge_is r c edge), (omega arith, omega arith)),
  λ cut.
      let (k, r, below, is, edge) = cut.0 in
      let some : is_edge rs c ≡ true = list_any-from_Any
      (λ (r : Ends). eqb (ground_first r) c || eqb (r.last + 1) c) rs
      (k, r, below, is, edge_here r c edge) in
      let last : c ≤ 2 ^ 128 - 1 = cut.1.1 in
      let inside : ltb c (2 ^ 128) ≡ true = grind (arith, nat_tests) in
      let at : stands_at bs c ≡ true = stand c ∙ rw (some, inside) refl in
      contains_from_among c (map place bs) (stands_among bs c at),
)

module _ {X Y : Type 0} (see : Y → X) (order : X → X → Ordering) (range_of : X → Ends) where
  abbrev seen : ℕ × Y → ℕ × X
  seen y = (y.0, see y.1)

  abbrev lt : ℕ × X → ℕ × X → Bool
  lt x y = is_lt (index_cmp order x y)

  abbrev seen_order : Y → Y → Ordering
  seen_order x y = order (see x) (see y)

  abbrev seen_range : Y → Ends
  seen_range y = range_of (see y)

  abbrev seen_lt : ℕ × Y → ℕ × Y → Bool
  seen_lt x y = is_lt (index_cmp seen_order x y)

  -- the first in the order is seen as the first in the order
  fold_seen : (a : ℕ) (ys : List (ℕ × Y)) (acc : Option (ℕ × Y))
      → fold (better lt) (option_map seen acc) (filter (λ c. holds (range_of c.1) a) (map seen ys))
      ≡ option_map seen (fold (better seen_lt) acc (filter (λ c. holds (seen_range c.1) a) ys))
  fold_seen a [] acc = refl
  fold_seen a (y ∷ ys) acc =
      let p : ℕ × X → Bool = λ c. holds (range_of c.1) a in
      let q : ℕ × Y → Bool = λ c. holds (seen_range c.1) a in
      elim (holds (seen_range y.1) a) as (λ v. fold (better lt) (option_map seen acc)
      (cond v (seen y ∷ filter p (map seen ys)) (filter p (map seen ys)))
      ≡ option_map seen (fold (better seen_lt) acc (cond v (y ∷ filter q ys) (filter q ys)))) [
        | true ↦ ap (λ o. fold (better lt) o (filter p (map seen ys))) (step acc)
            ∙ fold_seen a ys (better seen_lt acc y)
        | false ↦ fold_seen a ys acc
      ]
    where
      step : (o : Option (ℕ × Y)) → better lt (option_map seen o) (seen y)
          ≡ option_map seen (better seen_lt o y)
      step None = refl
      step (Some w) = elim (seen_lt y w) as (λ v. Some (cond v (seen y) (seen w))
          ≡ Some (seen (cond v y w))) [ true ↦ refl | false ↦ refl ]

  index_seen : (ys : List (ℕ × Y)) (a : ℕ)
      → best_index order range_of (map seen ys) a ≡ best_index seen_order seen_range ys a
  index_seen ys a =
      ap (option_map (λ (c : ℕ × X). c.0)) (fold_seen a ys None)
      ∙ same (fold (better seen_lt) None (filter (λ c. holds (seen_range c.1) a) ys))
    where
      same : (o : Option (ℕ × Y)) → option_map (λ (c : ℕ × X). c.0) (option_map seen o)
          ≡ option_map (λ (c : ℕ × Y). c.0) o
      same None = refl
      same (Some y) = refl

  ranges_in : (n : ℕ) (xs : List X) → map (λ (c : ℕ × X). range_of c.1) (enumerate_from n xs)
      ≡ map range_of xs
  ranges_in n [] = refl
  ranges_in n (x ∷ xs) = ap (λ rs. range_of x ∷ rs) (ranges_in (n + 1) xs)

  module _ (xs : List X) (ys : List (ℕ × Y)) (bs : List Boundary)
      (moved : IsPermutation (enumerate_from 0 xs) (map seen ys)) where
    pub tells_seen : IsTotalOrder order → AreBoundariesOf seen_order seen_range ys bs
        → TellsFirst order range_of xs bs
    tells_seen total h a within =
        ap (option_and_then (slice_get xs)) (h.tell a within ∙ sym (index_seen ys a))
        ∙ best_first order total range_of xs (map seen ys) moved a

    pub cuts_seen : StandAtEdges (map (λ (y : ℕ × Y). range_of (see y.1)) ys) bs
        → StandAtCuts range_of xs bs
    cuts_seen h = stand_cuts (map range_of xs) bs
        (λ c. h c ∙ ap (λ v. v && ltb c (2 ^ 128)) (sym (edges c)))
      where
        ranges : IsPermutation (map range_of xs) (map (λ (y : ℕ × Y). range_of (see y.1)) ys)
        ranges =
            subst (λ (rs : List Ends). IsPermutation rs (map (λ y. range_of (see y.1)) ys))
            (ranges_in 0 xs)
            (subst (λ (rs : List Ends). IsPermutation
            (map (λ (c : ℕ × X). range_of c.1) (enumerate_from 0 xs)) rs)
            (map_map seen (λ (c : ℕ × X). range_of c.1) ys)
            (IsPermutation-map (λ (c : ℕ × X). range_of c.1) (enumerate_from 0 xs) (map seen ys)
            moved))

        edges : (c : ℕ) → is_edge (map range_of xs) c
            ≡ is_edge (map (λ (y : ℕ × Y). range_of (see y.1)) ys) c
        edges c = list_any-IsPermutation
            (λ (r : Ends). eqb (ground_first r) c || eqb (r.last + 1) c) (map range_of xs)
            (map (λ (y : ℕ × Y). range_of (see y.1)) ys) ranges
