-- Ranks in force, as an ascending list: which ranks are in it behind several edges.
use Rattle.std.proofs.Common.{◌≡◌, ℕ, ◌+◌, ◌<◌, ◌≤◌, Bool, true, false, cond, not, ◌&&◌, ◌||◌}
use Rattle.std.proofs.Common.{eqb, ltb, List, [], ◌∷◌, length, get_or, slice_get, Ordering, refl}
use Rattle.std.proofs.Common.{sym, ap, ◌∙◌, subst, arith}
use Rattle.std.specs.List.{list_any, position, position_or_len}
use Rattle.std.specs.Ordering.{nat_cmp, match_ordering, is_eq}
use Rattle.std.specs.BTreeMap.{is_at}
use Rattle.std.specs.BTreeSet.{insert_key}
use Rattle.std.specs.Set.{remove_key}
use Rattle.std.proofs.lemmas.Bool.Decides.{nat_tests}
use Rattle.std.proofs.lemmas.List.Sums.{position_or_len_is}
use Rattle.first_index.specs.Edges.{after_edge}
use Rattle.first_index.specs.declared.boundaries.Edge.{Edge}
use Rattle.geo_terms.proofs.Ascending.{Up, up_weaker}

-- whether a number is in the list
abbrev pub is_in : List ℕ → ℕ → Bool
is_in ks r = list_any (λ k. eqb k r) ks

none_below : (low r : ℕ) (ks : List ℕ) → Up low ks → r < low → is_in ks r ≡ false
none_below low r [] up lt = refl
none_below low r (k ∷ ks) up lt =
    let later : is_in ks r ≡ false = none_below (k + 1) r ks up.1 (omega (arith, up.0)) in
    let below : r < k = omega (arith, up.0) in
    grind (arith, nat_tests)

-- cases of an order of numbers
pub nat_cases : (k x : ℕ) (P : Ordering → Type 0) → (k < x → P Ordering.Less)
    → (k ≡ x → P Ordering.Equal) → (x < k → P Ordering.Greater) → P (nat_cmp k x)
nat_cases k x P less same more =
    elim (ltb k x) as (λ b. ltb k x ≡ b
    → P (cond b Ordering.Less (cond (eqb k x) Ordering.Equal Ordering.Greater))) [
      | true ↦ λ e. less (grind (arith, nat_tests))
      | false ↦
          λ e. elim (eqb k x) as (λ b. eqb k x ≡ b → P (cond b Ordering.Equal Ordering.Greater)) [
            | true ↦ λ f. same (grind (arith, nat_tests))
            | false ↦ λ f. more (grind (arith, nat_tests))
          ] refl
    ] refl

up_insert : (low k : ℕ) (ks : List ℕ) → Up low ks → low ≤ k → Up low (insert_key nat_cmp ks k)
up_insert low k [] up le = (le, tt)
up_insert low k (x ∷ xs) up le =
    nat_cases k x
    (λ o. Up low (match_ordering o (k ∷ x ∷ xs) (x ∷ xs) (x ∷ insert_key nat_cmp xs k)))
    (λ lt. (le, (omega arith, up.1)))
    (λ same. up)
    (λ gt. (up.0, up_insert (x + 1) k xs up.1 (omega arith)))

in_insert : (k r : ℕ) (ks : List ℕ) → is_in (insert_key nat_cmp ks k) r ≡ (eqb k r || is_in ks r)
in_insert k r [] = refl
in_insert k r (x ∷ xs) =
    nat_cases k x (λ o. is_in (match_ordering o (k ∷ x ∷ xs) (x ∷ xs) (x ∷ insert_key nat_cmp xs k))
    r ≡ (eqb k r || (eqb x r || is_in xs r)))
    (λ lt. refl)
    (λ same. grind (arith, nat_tests))
    (λ gt. let later : is_in (insert_key nat_cmp xs k) r ≡ (eqb k r || is_in xs r) =
    in_insert k r xs in grind (arith, nat_tests))

up_remove : (low k : ℕ) (ks : List ℕ) → Up low ks → Up low (remove_key (is_at (nat_cmp k)) ks)
up_remove low k [] up = tt
up_remove low k (x ∷ xs) up =
    nat_cases k x (λ o. Up low (cond (is_eq o) xs (x ∷ remove_key (is_at (nat_cmp k)) xs)))
    (λ lt. (up.0, up_remove (x + 1) k xs up.1))
    (λ same. up_weaker low (x + 1) xs (omega (arith, up.0)) up.1)
    (λ gt. (up.0, up_remove (x + 1) k xs up.1))

in_remove : (low k r : ℕ) (ks : List ℕ) → Up low ks
    → is_in (remove_key (is_at (nat_cmp k)) ks) r ≡ (not (eqb k r) && is_in ks r)
in_remove low k r [] up = none (eqb k r)
  where
    none : (b : Bool) → false ≡ (not b && false)
    none true = refl
    none false = refl
in_remove low k r (x ∷ xs) up =
    let later : is_in (remove_key (is_at (nat_cmp k)) xs) r ≡ (not (eqb k r) && is_in xs r) =
    in_remove (x + 1) k r xs up.1 in
    let gone : r < x + 1 → is_in xs r ≡ false = none_below (x + 1) r xs up.1 in
    nat_cases k x (λ o. is_in (cond (is_eq o) xs (x ∷ remove_key (is_at (nat_cmp k)) xs)) r
    ≡ (not (eqb k r) && (eqb x r || is_in xs r)))
    (λ lt. grind (arith, nat_tests))
    (λ same. grind (arith, nat_tests))
    (λ gt. grind (arith, nat_tests))

up_edge : (ks : List ℕ) (e : Edge) → Up 0 ks → Up 0 (after_edge ks e)
up_edge ks e up =
    elim e.opens as (λ b. Up 0
    (cond b (insert_key nat_cmp ks e.rank) (remove_key (is_at (nat_cmp e.rank)) ks))) [
      | true ↦ up_insert 0 e.rank ks up (omega arith)
      | false ↦ up_remove 0 e.rank ks up
    ]

in_edge : (ks : List ℕ) (e : Edge) (r : ℕ) → Up 0 ks
    → is_in (after_edge ks e) r ≡ cond (eqb e.rank r) e.opens (is_in ks r)
in_edge ks e r up =
    elim e.opens as (λ b. is_in (cond b (insert_key nat_cmp ks e.rank)
    (remove_key (is_at (nat_cmp e.rank)) ks)) r ≡ cond (eqb e.rank r) b (is_in ks r)) [
      | true ↦ in_insert e.rank r ks ∙ opened (eqb e.rank r) (is_in ks r)
      | false ↦ in_remove 0 e.rank r ks up ∙ closed (eqb e.rank r) (is_in ks r)
    ]
  where
    opened : (b k : Bool) → (b || k) ≡ cond b true k
    opened true k = refl
    opened false k = refl

    closed : (b k : Bool) → (not b && k) ≡ cond b false k
    closed true k = refl
    closed false k = refl

-- the ranks in force behind several edges
abbrev pub after_all : List ℕ → List Edge → List ℕ
after_all ks [] = ks
after_all ks (e ∷ es) = after_all (after_edge ks e) es

-- whether a rank is in force behind several edges: what its last edge says
abbrev pub flag : Bool → List Edge → ℕ → Bool
flag b [] r = b
flag b (e ∷ es) r = flag (cond (eqb e.rank r) e.opens b) es r

pub up_all : (ks : List ℕ) (es : List Edge) → Up 0 ks → Up 0 (after_all ks es)
up_all ks [] up = up
up_all ks (e ∷ es) up = up_all (after_edge ks e) es (up_edge ks e up)

pub in_all : (ks : List ℕ) (es : List Edge) (r : ℕ) → Up 0 ks
    → is_in (after_all ks es) r ≡ flag (is_in ks r) es r
in_all ks [] r up = refl
in_all ks (e ∷ es) r up =
    in_all (after_edge ks e) es r (up_edge ks e up) ∙ ap (λ b. flag b es r) (in_edge ks e r up)

-- where the numbers in a list are the indexes of the members that pass a test,
-- the least is the index of the first one
pub head_is_position : {X : Type 0} (p : X → Bool) (xs : List X) (d : X) (ks : List ℕ)
    → Up 0 ks → ((r : ℕ) → is_in ks r ≡ (ltb r (length xs) && p (get_or xs r d)))
    → slice_get ks 0 ≡ position p xs
head_is_position p xs d [] up h =
    let none : position_or_len p xs ≡ length xs =
    position_or_len_is p xs (length xs) d
    (omega arith) (λ k below. let e : false ≡ (ltb k (length xs) && p (get_or xs k d)) = h k in
    grind (arith, nat_tests)) (λ within. absurd (omega arith)) in
    rw none (grind (arith, nat_tests))
head_is_position p xs d (k ∷ ks) up h =
    let own : (true || is_in ks k) ≡ (ltb k (length xs) && p (get_or xs k d)) =
    subst (λ b. (b || is_in ks k) ≡ (ltb k (length xs) && p (get_or xs k d))) same (h k) in
    let below : k < length xs = grind (arith, nat_tests) in
    let passes : p (get_or xs k d) ≡ true = grind (arith, nat_tests) in
    let at : position_or_len p xs ≡ k =
    position_or_len_is p xs k d (omega arith) (λ j lt. earlier j lt) (λ within. passes) in
    rw at (grind (arith, nat_tests))
  where
    same : eqb k k ≡ true
    same = grind (arith, nat_tests)

    earlier : (j : ℕ) → j < k → p (get_or xs j d) ≡ false
    earlier j lt =
        let out : is_in (k ∷ ks) j ≡ false = none_below k j (k ∷ ks) (omega arith, up.1) lt in
        let e : (ltb j (length xs) && p (get_or xs j d)) ≡ false = sym (h j) ∙ out in
        let own : (true || is_in ks k) ≡ (ltb k (length xs) && p (get_or xs k d)) =
        subst (λ b. (b || is_in ks k) ≡ (ltb k (length xs) && p (get_or xs k d))) same (h k) in
        let below : k < length xs = grind (arith, nat_tests) in
        let within : j < length xs = omega arith in
        grind (arith, nat_tests)
