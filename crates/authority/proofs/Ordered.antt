-- Of the lists with the same members one ascends, where members that tie are equal:
-- the list in order.
use Rattle.std.proofs.Common.{◌≡◌, ℕ, suc, ◌+◌, ◌<◌, ◌≤◌, Bool, true, false, cond, List, [], ◌∷◌}
use Rattle.std.proofs.Common.{◌++◌, length, get_or, map, Ordering, refl, sym, ap, ◌∙◌, arith}
use Rattle.std.specs.Cmp.{IsStrictWeakOrder, IsTotalOrder}
use Rattle.std.specs.List.{AllByRecursion, filter, sum_by}
use Rattle.std.specs.List.Sorted.{IsPermutation, IsSortedBy}
use Rattle.std.specs.Ordering.{is_le, is_lt, ordering_reverse}
use Rattle.std.proofs.lemmas.Cmp.{tied_itself}
use Rattle.std.proofs.lemmas.List.Sorted.{ranks_by, sorted_far, sum_by-IsPermutation}
use Rattle.std.proofs.lemmas.List.Sums.{sum_by-cons}
use Rattle.geo_terms.specs.Report.{in_order, put_in}
use Rattle.authority.specs.Members.{HaveAlike, weight}

weight_is : {X : Type 0} (f : X → ℕ) (xs : List X) → weight f xs ≡ sum_by f xs
weight_is f [] = refl
weight_is f (x ∷ xs) = ap (λ n. f x + n) (weight_is f xs) ∙ sym (sum_by-cons f x xs)

pub alike_from_permutation : {X : Type 0} (xs ys : List X) → IsPermutation xs ys → HaveAlike xs ys
alike_from_permutation xs ys same f =
    weight_is f ys ∙ sum_by-IsPermutation f xs ys same ∙ sym (weight_is f xs)

weight_append : {X : Type 0} (f : X → ℕ) (xs ys : List X)
    → weight f (xs ++ ys) ≡ weight f xs + weight f ys
weight_append f [] ys = omega arith
weight_append f (x ∷ xs) ys = omega (arith, weight_append f xs ys)

pub alike_append : {X : Type 0} (xs ys us vs : List X) → HaveAlike xs ys → HaveAlike us vs
    → HaveAlike (xs ++ us) (ys ++ vs)
alike_append xs ys us vs h k f =
    weight_append f ys vs ∙ omega (arith, h f, k f) ∙ sym (weight_append f xs us)

weight_kept : {X Y : Type 0} (g : X → Y) (p : X → Bool) (f : Y → ℕ) (xs : List X)
    → weight f (map g (filter p xs)) ≡ weight (λ x. cond (p x) (f (g x)) 0) xs
weight_kept g p f [] = refl
weight_kept g p f (x ∷ xs) =
    elim (p x) as (λ b. weight f (map g (cond b (x ∷ filter p xs) (filter p xs)))
    ≡ cond b (f (g x)) 0 + weight (λ x. cond (p x) (f (g x)) 0) xs) [
      | true ↦ ap (λ n. f (g x) + n) (weight_kept g p f xs)
      | false ↦ omega (arith, weight_kept g p f xs)
    ]

-- what is made of those that pass has the same members
pub alike_kept : {X Y : Type 0} (g : X → Y) (p : X → Bool) (xs ys : List X) → HaveAlike xs ys
    → HaveAlike (map g (filter p xs)) (map g (filter p ys))
alike_kept g p xs ys h f =
    weight_kept g p f ys ∙ h (λ x. cond (p x) (f (g x)) 0) ∙ sym (weight_kept g p f xs)

module _ {X : Type 0} (cmp : X → X → Ordering) where
  -- no member goes before an earlier one
  abbrev pub Ascends : List X → Type 0
  Ascends [] = Unit {0}
  Ascends (x ∷ xs) = AllByRecursion (λ y. is_lt (cmp y x) ≡ false) xs × Ascends xs

  ascends_head : (x : X) (xs : List X)
      → ((j : ℕ) (d : X) → j < length xs → is_lt (cmp (get_or xs j d) x) ≡ false)
      → AllByRecursion (λ y. is_lt (cmp y x) ≡ false) xs
  ascends_head x [] h = tt
  ascends_head x (y ∷ ys) h =
      (h 0 y (omega arith), ascends_head x ys (λ j d below. h (suc j) d (omega arith)))

  ascends_far : (xs : List X) → ((i j : ℕ) (d : X) → i ≤ j → j < length xs
      → is_lt (cmp (get_or xs j d) (get_or xs i d)) ≡ false) → Ascends xs
  ascends_far [] far = tt
  ascends_far (x ∷ xs) far = (
    ascends_head x xs (λ j d below. far 0 (suc j) d (omega arith) (omega arith)),
    ascends_far xs (λ i j d le below. far (suc i) (suc j) d (omega arith) (omega arith)),
  )

  pub ascends_from_sorted : IsTotalOrder cmp
      → (xs : List X) → IsSortedBy (λ x y. is_lt (cmp x y)) xs → Ascends xs
  ascends_from_sorted total xs sorted =
      ascends_far xs
      (sorted_far (λ (x y : X). is_lt (cmp x y)) (ranks_by total (λ (x : X). x)) xs sorted)

not_less : (o : Ordering) → is_le o ≡ true → is_lt (ordering_reverse o) ≡ false
not_less Ordering.Less e = refl
not_less Ordering.Equal e = refl
not_less Ordering.Greater e = absurd (let f : false ≡ true = e in cc)

not_more : (o : Ordering) → is_le o ≡ false → is_lt o ≡ false
not_more Ordering.Less e = absurd (let f : true ≡ false = e in cc)
not_more Ordering.Equal e = refl
not_more Ordering.Greater e = refl

neither : (a b : Ordering) → a ≡ ordering_reverse b → is_lt a ≡ false → is_lt b ≡ false
    → a ≡ Ordering.Equal
neither Ordering.Less b e la lb = absurd (let f : true ≡ false = la in cc)
neither Ordering.Equal b e la lb = refl
neither Ordering.Greater Ordering.Less e la lb = absurd (let f : true ≡ false = lb in cc)
neither Ordering.Greater Ordering.Equal e la lb = absurd cc
neither Ordering.Greater Ordering.Greater e la lb = absurd cc

one_or_none : (b : Bool) (n : ℕ) → cond b 1 0 + n ≡ 0 → b ≡ false
one_or_none true n e = absurd (omega (arith, e))
one_or_none false n e = refl

module _ {X : Type 0} (cmp : X → X → Ordering) (total : IsTotalOrder cmp) where
  weak : IsStrictWeakOrder (λ x y. is_lt (cmp x y))
  weak = ranks_by total (λ (x : X). x)

  put_weight : (f : X → ℕ) (x : X) (ys : List X) → weight f (put_in cmp x ys) ≡ f x + weight f ys
  put_weight f x [] = refl
  put_weight f x (y ∷ ys) =
      elim (is_le (cmp x y))
      as (λ b. weight f (cond b (x ∷ y ∷ ys) (y ∷ put_in cmp x ys)) ≡ f x + (f y + weight f ys)) [
        | true ↦ refl
        | false ↦ omega (arith, put_weight f x ys)
      ]

  order_weight : (f : X → ℕ) (xs : List X) → weight f (in_order cmp xs) ≡ weight f xs
  order_weight f [] = refl
  order_weight f (x ∷ xs) = put_weight f x (in_order cmp xs) ∙ ap (λ n. f x + n) (order_weight f xs)

  put_all : (P : X → Type 0) (x : X) (ys : List X) → P x → AllByRecursion P ys
      → AllByRecursion P (put_in cmp x ys)
  put_all P x [] p h = (p, tt)
  put_all P x (y ∷ ys) p h =
      elim (is_le (cmp x y))
      as (λ b. AllByRecursion P (cond b (x ∷ y ∷ ys) (y ∷ put_in cmp x ys))) [
        | true ↦ (p, h)
        | false ↦ (h.0, put_all P x ys p h.1)
      ]

  behind_too : (x y : X) (zs : List X)
      → is_lt (cmp y x) ≡ false → AllByRecursion (λ z. is_lt (cmp z y) ≡ false) zs
      → AllByRecursion (λ z. is_lt (cmp z x) ≡ false) zs
  behind_too x y [] e h = tt
  behind_too x y (z ∷ zs) e h = (weak.chain z y x h.0 e, behind_too x y zs e h.1)

  put_ascends : (x : X) (ys : List X) → Ascends cmp ys → Ascends cmp (put_in cmp x ys)
  put_ascends x [] h = (tt, tt)
  put_ascends x (y ∷ ys) h =
      elim (is_le (cmp x y))
      as (λ b. is_le (cmp x y) ≡ b → Ascends cmp (cond b (x ∷ y ∷ ys) (y ∷ put_in cmp x ys))) [
        | true ↦ λ e. let low : is_lt (cmp y x) ≡ false =
            ap is_lt (total.antisymm y x) ∙ not_less (cmp x y) e in
            ((low, behind_too x y ys low h.0), h)
        | false ↦ λ e. (
          put_all (λ z. is_lt (cmp z y) ≡ false) x ys (not_more (cmp x y) e) h.0,
          put_ascends x ys h.1,
        )
      ] refl

  order_ascends : (xs : List X) → Ascends cmp (in_order cmp xs)
  order_ascends [] = tt
  order_ascends (x ∷ xs) = put_ascends x (in_order cmp xs) (order_ascends xs)

  none_before : (y : X) (zs : List X) → AllByRecursion (λ z. is_lt (cmp z y) ≡ false) zs
      → weight (λ z. cond (is_lt (cmp z y)) 1 0) zs ≡ 0
  none_before y [] h = refl
  none_before y (z ∷ zs) h = rw h.0 (omega (arith, none_before y zs h.1))

  not_itself : (y : X) → is_lt (cmp y y) ≡ false
  not_itself y = ap is_lt (tied_itself total y)

  -- the head of one does not go before the head of the other
  heads : (x y : X) (xs ys : List X)
      → Ascends cmp (y ∷ ys) → HaveAlike (x ∷ xs) (y ∷ ys) → is_lt (cmp x y) ≡ false
  heads x y xs ys up same =
      one_or_none (is_lt (cmp x y)) (weight (λ z. cond (is_lt (cmp z y)) 1 0) xs)
      (sym (same (λ z. cond (is_lt (cmp z y)) 1 0)) ∙ none_before y (y ∷ ys) (not_itself y, up.0))

  module _ (exact : (x y : X) → cmp x y ≡ Ordering.Equal → x ≡ y) where
    unique : (xs ys : List X) → Ascends cmp xs → Ascends cmp ys → HaveAlike xs ys → ys ≡ xs
    unique [] [] up_x up_y same = refl
    unique [] (y ∷ ys) up_x up_y same = absurd (omega (arith, same (λ z. 1)))
    unique (x ∷ xs) [] up_x up_y same = absurd (omega (arith, same (λ z. 1)))
    unique (x ∷ xs) (y ∷ ys) up_x up_y same =
        let low = heads x y xs ys up_y same in
        let high = heads y x ys xs up_x (λ f. sym (same f)) in
        let e : x ≡ y = exact x y (neither (cmp x y) (cmp y x) (total.antisymm x y) low high) in
        let later : ys ≡ xs = unique xs ys up_x.1 up_y.1 (λ f. omega (arith, same f, ap f e)) in
        rw (e, later) refl

    -- an ascending list with the members of another is that one in order
    pub alike_in_order : (xs ys : List X) → HaveAlike xs ys → Ascends cmp ys → ys ≡ in_order cmp xs
    alike_in_order xs ys same up =
        unique (in_order cmp xs) ys (order_ascends xs) up (λ f. same f ∙ sym (order_weight f xs))

    -- what a sort makes of a list is the list in order
    pub sorted_in_order : (xs ys : List X) → IsPermutation xs ys
        → IsSortedBy (λ x y. is_lt (cmp x y)) ys → ys ≡ in_order cmp xs
    sorted_in_order xs ys same sorted =
        alike_in_order xs ys (alike_from_permutation xs ys same)
        (ascends_from_sorted cmp total ys sorted)

    -- lists with the same members are one list in order
    pub order_alike : (xs ys : List X) → HaveAlike xs ys → in_order cmp ys ≡ in_order cmp xs
    order_alike xs ys same =
        alike_in_order xs (in_order cmp ys) (λ f. order_weight f ys ∙ same f) (order_ascends ys)
