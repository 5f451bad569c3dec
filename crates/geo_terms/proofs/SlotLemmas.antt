-- A source that is put among others in the order of names: by what a search by halving found.
use Rattle.std.proofs.Common.{◌≡◌, ℕ, zero, suc, ◌+◌, ◌<◌, ◌≤◌, true, false, cond, not, Less, Equal}
use Rattle.std.proofs.Common.{Greater, List, [], ◌∷◌, length, get_or, set, Some, None, Ordering, Ok}
use Rattle.std.proofs.Common.{Err, slice_get, refl, sym, ap, ◌∙◌, arith}
use Rattle.std.specs.List.{AllByRecursion, filter, find, insert, remove}
use Rattle.std.specs.List.Sorted.{IsSortedBy, IsBinarySearchResult, IsPartitionPoint}
use Rattle.std.specs.Cmp.Lexicographic.{texts_ties}
use Rattle.std.specs.Ordering.{is_lt, is_eq, match_ordering, ordering_reverse}
use Rattle.std.proofs.lemmas.Cmp.{nat_list_cmp_total, tied_back}
use Rattle.std.proofs.lemmas.List.Elements.{All-from_recursion}
use Rattle.std.proofs.lemmas.List.Sorted.{searchable_from_sorted}
use Rattle.geo_terms.specs.PlaceForm.{same_text}
use Rattle.geo_terms.specs.Precedence.{text_cmp}
use Rattle.geo_terms.specs.SlotOrder.{AreInOrder, placed, removed}

module _ {X : Type 0} (name : X → List ℕ) where
  order : X → X → Ordering
  order x y = text_cmp (name x) (name y)

  greater_back : (x y : X) → text_cmp (name x) (name y) ≡ Ordering.Less
      → text_cmp (name y) (name x) ≡ Ordering.Greater
  greater_back x y e = nat_list_cmp_total.antisymm (name y) (name x) ∙ ap ordering_reverse e

  less_back : (x y : X) → text_cmp (name x) (name y) ≡ Ordering.Greater
      → text_cmp (name y) (name x) ≡ Ordering.Less
  less_back x y e = nat_list_cmp_total.antisymm (name y) (name x) ∙ ap ordering_reverse e

  -- the names ascend, by recursion
  abbrev pub Ascend : List X → Type 0
  Ascend [] = Unit {0}
  Ascend (x ∷ xs) = AllByRecursion (λ y. text_cmp (name x) (name y) ≡ Ordering.Less) xs × Ascend xs

  ascend_head : (x : X) (xs : List X)
      → ((j : ℕ) (d : X) → j < length xs → text_cmp (name x) (name (get_or xs j d)) ≡ Ordering.Less)
      → AllByRecursion (λ y. text_cmp (name x) (name y) ≡ Ordering.Less) xs
  ascend_head x [] h = tt
  ascend_head x (y ∷ ys) h =
      (h 0 y (omega arith), ascend_head x ys (λ j d below. h (suc j) d (omega arith)))

  pub ascend : (xs : List X) → AreInOrder name xs → Ascend xs
  ascend [] h = tt
  ascend (x ∷ xs) h = (
    ascend_head x xs (λ j d below. h 0 (suc j) d (omega arith) (omega arith)),
    ascend xs (λ i j d lt below. h (suc i) (suc j) d (omega arith) (omega arith)),
  )

  in_order : (xs : List X) → Ascend xs → AreInOrder name xs
  in_order [] h i j d lt below = absurd (omega arith)
  in_order (x ∷ xs) h zero zero d lt below = absurd (omega arith)
  in_order (x ∷ xs) h zero (suc j) d lt below =
      All-from_recursion (λ y. text_cmp (name x) (name y) ≡ Ordering.Less) xs h.0 j d (omega arith)
  in_order (x ∷ xs) h (suc i) zero d lt below = absurd (omega arith)
  in_order (x ∷ xs) h (suc i) (suc j) d lt below = in_order xs h.1 i j d (omega arith) (omega arith)

  all_placed : (P : X → Type 0) (x : X) (ys : List X) → P x → AllByRecursion P ys
      → AllByRecursion P (placed name x ys)
  all_placed P x [] p h = (p, tt)
  all_placed P x (y ∷ ys) p h =
      elim (text_cmp (name x) (name y))
      as (λ o. AllByRecursion P (match_ordering o (x ∷ y ∷ ys) (x ∷ ys) (y ∷ placed name x ys))) [
        | Less ↦ (p, h)
        | Equal ↦ (p, h.1)
        | Greater ↦ (h.0, all_placed P x ys p h.1)
      ]

  each_weaker : (P Q : X → Type 0) → ((z : X) → P z → Q z) → (xs : List X) → AllByRecursion P xs
      → AllByRecursion Q xs
  each_weaker P Q f [] h = tt
  each_weaker P Q f (x ∷ xs) h = (f x h.0, each_weaker P Q f xs h.1)

  ascend_placed : (x : X) (ys : List X) → Ascend ys → Ascend (placed name x ys)
  ascend_placed x [] h = (tt, tt)
  ascend_placed x (y ∷ ys) h =
      elim (text_cmp (name x) (name y)) as (λ o. text_cmp (name x) (name y) ≡ o
      → Ascend (match_ordering o (x ∷ y ∷ ys) (x ∷ ys) (y ∷ placed name x ys))) [
        | Less ↦ λ e. (
          (
            e,
            each_weaker (λ z. text_cmp (name y) (name z) ≡ Ordering.Less)
                (λ z. text_cmp (name x) (name z) ≡ Ordering.Less)
                (λ z l. nat_list_cmp_total.trans (name x) (name y) (name z) e l) ys h.0,
          ),
          h,
        )
        | Equal ↦ λ e. (
          each_weaker (λ z. text_cmp (name y) (name z) ≡ Ordering.Less)
              (λ z. text_cmp (name x) (name z) ≡ Ordering.Less)
              (λ z l. nat_list_cmp_total.congr (name x) (name y) (name z) e ∙ l) ys h.0,
          h.1,
        )
        | Greater ↦ λ e. (
          all_placed (λ z. text_cmp (name y) (name z) ≡ Ordering.Less) x ys (less_back x y e) h.0,
          ascend_placed x ys h.1,
        )
      ] refl

  pub placed_in_order : (x : X) (ys : List X) → AreInOrder name ys
      → AreInOrder name (placed name x ys)
  placed_in_order x ys h = in_order (placed name x ys) (ascend_placed x ys (ascend ys h))

  -- what stands before a member with an equal name is less
  less_before : (x y : X) (ys : List X) (i : ℕ) (d : X)
      → AllByRecursion (λ z. text_cmp (name y) (name z) ≡ Ordering.Less) ys
      → i < length ys → text_cmp (name (get_or ys i d)) (name x) ≡ Ordering.Equal
      → text_cmp (name y) (name x) ≡ Ordering.Less
  less_before x y ys i d h below e =
      let l : text_cmp (name y) (name (get_or ys i d)) ≡ Ordering.Less =
      All-from_recursion (λ z. text_cmp (name y) (name z) ≡ Ordering.Less) ys h i d below in
      let g : text_cmp (name (get_or ys i d)) (name y) ≡ Ordering.Greater =
      greater_back y (get_or ys i d) l in
      less_back x y (sym (nat_list_cmp_total.congr (name (get_or ys i d)) (name x) (name y) e) ∙ g)

  -- a write over the member with the same name
  set_is_placed : (x : X) (ys : List X) (i : ℕ) (d : X) → Ascend ys → i < length ys
      → text_cmp (name (get_or ys i d)) (name x) ≡ Ordering.Equal → set ys i x ≡ placed name x ys
  set_is_placed x [] i d h below e = absurd (omega arith)
  set_is_placed x (y ∷ ys) zero d h below e =
      let f : text_cmp (name x) (name y) ≡ Ordering.Equal =
      tied_back nat_list_cmp_total (name y) (name x) e in rw f refl
  set_is_placed x (y ∷ ys) (suc i) d h below e =
      let f : text_cmp (name x) (name y) ≡ Ordering.Greater =
      greater_back y x (less_before x y ys i d h.0 (omega arith) e) in
      rw f (ap (λ zs. y ∷ zs) (set_is_placed x ys i d h.1 (omega arith) e))

  -- an insert between the members with lesser names and those with greater ones
  insert_is_placed : (x : X) (ys : List X) (i : ℕ) (d : X) → i ≤ length ys
      → ((k : ℕ) → k < i → text_cmp (name (get_or ys k d)) (name x) ≡ Ordering.Less)
      → (i < length ys → text_cmp (name (get_or ys i d)) (name x) ≡ Ordering.Greater)
      → insert ys i x ≡ placed name x ys
  insert_is_placed x [] zero d le low high = refl
  insert_is_placed x [] (suc i) d le low high = absurd (omega arith)
  insert_is_placed x (y ∷ ys) zero d le low high =
      let f : text_cmp (name x) (name y) ≡ Ordering.Less = less_back y x (high (omega arith)) in
      rw f refl
  insert_is_placed x (y ∷ ys) (suc i) d le low high =
      let f : text_cmp (name x) (name y) ≡ Ordering.Greater =
      greater_back y x (low 0 (omega arith)) in
      rw f (ap (λ zs. y ∷ zs) (insert_is_placed x ys i d (omega arith)
      (λ k lt. low (suc k) (omega arith)) (λ lt. high (omega arith))))

  test_of : (y x : X) (o : Ordering) → text_cmp (name y) (name x) ≡ o
      → same_text (name y) (name x) ≡ is_eq o
  test_of y x o e = texts_ties (name y) (name x) ∙ ap is_eq e

  find_same : (x : X) (ys : List X) (i : ℕ) (d : X) → Ascend ys → i < length ys
      → text_cmp (name (get_or ys i d)) (name x) ≡ Ordering.Equal
      → find (λ y. same_text (name y) (name x)) ys ≡ Some (get_or ys i d)
  find_same x [] i d h below e = absurd (omega arith)
  find_same x (y ∷ ys) zero d h below e =
      let f : same_text (name y) (name x) ≡ true = test_of y x Ordering.Equal e in rw f refl
  find_same x (y ∷ ys) (suc i) d h below e =
      let f : same_text (name y) (name x) ≡ false =
      test_of y x Ordering.Less (less_before x y ys i d h.0 (omega arith) e) in
      rw f (find_same x ys i d h.1 (omega arith) e)

  find_none : (x : X) (ys : List X) → AllByRecursion (λ y. same_text (name y) (name x) ≡ false) ys
      → find (λ y. same_text (name y) (name x)) ys ≡ None
  find_none x [] h = refl
  find_none x (y ∷ ys) h = rw h.0 (find_none x ys h.1)

  all_apart : (x : X) (ys : List X) (i : ℕ) → ((k : ℕ) (d : X) → k < i → k < length ys
      → text_cmp (name (get_or ys k d)) (name x) ≡ Ordering.Less)
      → ((k : ℕ) (d : X) → i ≤ k
      → k < length ys → text_cmp (name (get_or ys k d)) (name x) ≡ Ordering.Greater)
      → AllByRecursion (λ y. same_text (name y) (name x) ≡ false) ys
  all_apart x [] i low high = tt
  all_apart x (y ∷ ys) zero low high = (
    test_of y x Ordering.Greater (high 0 y (omega arith) (omega arith)),
    all_apart x ys zero (λ k d lt below. absurd (omega arith))
        (λ k d le below. high (suc k) d (omega arith) (omega arith)),
  )
  all_apart x (y ∷ ys) (suc i) low high = (
    test_of y x Ordering.Less (low 0 y (omega arith) (omega arith)),
    all_apart x ys i (λ k d lt below. low (suc k) d (omega arith) (omega arith))
        (λ k d le below. high (suc k) d (omega arith) (omega arith)),
  )

  adjacent : (ys : List X) → AreInOrder name ys
      → IsSortedBy (λ a b. is_lt (text_cmp (name a) (name b))) ys
  adjacent ys h k d low below =
      ap is_lt (greater_back (get_or ys k d) (get_or ys (k + 1) d)
      (h k (k + 1) d (omega arith) (omega arith)))

  searched : (x : X) (ys : List X) (i : ℕ) → AreInOrder name ys
      → IsBinarySearchResult (λ y. text_cmp (name y) (name x)) ys (Err i)
      → IsPartitionPoint (λ y. text_cmp (name y) (name x) ≡ Ordering.Less)
      (λ y. text_cmp (name y) (name x) ≡ Ordering.Greater) ys i
  searched x ys i h found =
      found (searchable_from_sorted nat_list_cmp_total name ys (name x) (adjacent ys h))

  pub put_over : (x : X) (ys : List X) (i : ℕ) → AreInOrder name ys → i < length ys
      → IsBinarySearchResult (λ y. text_cmp (name y) (name x)) ys (Ok i)
      → set ys i x ≡ placed name x ys
  put_over x ys i h below found = set_is_placed x ys i x (ascend ys h) below (found x)

  pub found_by_search : (x old : X) (ys : List X) (i : ℕ) → AreInOrder name ys → i < length ys
      → IsBinarySearchResult (λ y. text_cmp (name y) (name x)) ys (Ok i) → slice_get ys i ≡ Some old
      → Some old ≡ find (λ y. same_text (name y) (name x)) ys
  found_by_search x old ys i h below found is =
      sym is ∙ at ys i below ∙ sym (find_same x ys i x (ascend ys h) below (found x))
    where
      at : (ys : List X) (i : ℕ) → i < length ys → slice_get ys i ≡ Some (get_or ys i x)
      at [] i lt = absurd (omega arith)
      at (z ∷ zs) zero lt = refl
      at (z ∷ zs) (suc j) lt = at zs j (omega arith)

  pub put_between : (x : X) (ys : List X) (i : ℕ) → AreInOrder name ys
      → i ≤ length ys → IsBinarySearchResult (λ y. text_cmp (name y) (name x)) ys (Err i)
      → insert ys i x ≡ placed name x ys
  put_between x ys i h le found =
      let at = searched x ys i h found in
      insert_is_placed x ys i x le (λ k lt. at.0 k x (omega arith) lt)
      (λ lt. at.1 i x (omega arith) lt)

  pub none_by_search : (x : X) (ys : List X) (i : ℕ)
      → AreInOrder name ys → IsBinarySearchResult (λ y. text_cmp (name y) (name x)) ys (Err i)
      → None ≡ find (λ y. same_text (name y) (name x)) ys
  none_by_search x ys i h found =
      let at = searched x ys i h found in
      sym (find_none x ys (all_apart x ys i (λ k d lt below. at.0 k d (omega arith) lt)
      (λ k d le below. at.1 k d le below)))

  found_here : (ys : List X) (i : ℕ) (d : X) → i < length ys → slice_get ys i ≡ Some (get_or ys i d)
  found_here [] i d lt = absurd (omega arith)
  found_here (z ∷ zs) zero d lt = refl
  found_here (z ∷ zs) (suc j) d lt = found_here zs j d (omega arith)

  -- the search for a name, without a source of that name at hand
  module _ (n : List ℕ) where
    differ : (y : X) (o : Ordering) → text_cmp (name y) n ≡ o → same_text (name y) n ≡ is_eq o
    differ y o e = texts_ties (name y) n ∙ ap is_eq e

    stays_all : (ys : List X) → AllByRecursion (λ y. same_text (name y) n ≡ false) ys
        → filter (λ y. not (same_text (name y) n)) ys ≡ ys
    stays_all [] h = refl
    stays_all (y ∷ ys) h = rw h.0 (ap (λ zs. y ∷ zs) (stays_all ys h.1))

    none_named : (ys : List X) → AllByRecursion (λ y. same_text (name y) n ≡ false) ys
        → find (λ y. same_text (name y) n) ys ≡ None
    none_named [] h = refl
    none_named (y ∷ ys) h = rw h.0 (none_named ys h.1)

    -- those behind a member of the name have other names
    others_behind : (y : X) (ys : List X) → text_cmp (name y) n ≡ Ordering.Equal
        → AllByRecursion (λ z. text_cmp (name y) (name z) ≡ Ordering.Less) ys
        → AllByRecursion (λ z. same_text (name z) n ≡ false) ys
    others_behind y [] e h = tt
    others_behind y (z ∷ zs) e h =
        let f : text_cmp n (name z) ≡ Ordering.Less =
        sym (nat_list_cmp_total.congr (name y) n (name z) e) ∙ h.0 in
        let g : text_cmp (name z) n ≡ Ordering.Greater =
        nat_list_cmp_total.antisymm (name z) n ∙ ap ordering_reverse f in
        (differ z Ordering.Greater g, others_behind y zs e h.1)

    less_named : (y : X) (ys : List X) (i : ℕ) (d : X)
        → AllByRecursion (λ z. text_cmp (name y) (name z) ≡ Ordering.Less) ys → i < length ys
        → text_cmp (name (get_or ys i d)) n ≡ Ordering.Equal → text_cmp (name y) n ≡ Ordering.Less
    less_named y ys i d h below e =
        let l : text_cmp (name y) (name (get_or ys i d)) ≡ Ordering.Less =
        All-from_recursion (λ z. text_cmp (name y) (name z) ≡ Ordering.Less) ys h i d below in
        let g : text_cmp (name (get_or ys i d)) (name y) ≡ Ordering.Greater =
        greater_back y (get_or ys i d) l in
        let k : text_cmp n (name y) ≡ Ordering.Greater =
        sym (nat_list_cmp_total.congr (name (get_or ys i d)) n (name y) e) ∙ g in
        nat_list_cmp_total.antisymm (name y) n ∙ ap ordering_reverse k

    take_out : (ys : List X) (i : ℕ) (d : X) → Ascend ys → i < length ys
        → text_cmp (name (get_or ys i d)) n ≡ Ordering.Equal → (remove ys i ≡ removed name n ys)
        × (find (λ y. same_text (name y) n) ys ≡ Some (get_or ys i d))
    take_out [] i d h below e = absurd (omega arith)
    take_out (y ∷ ys) zero d h below e =
        let f : same_text (name y) n ≡ true = differ y Ordering.Equal e in
        (rw f (sym (stays_all ys (others_behind y ys e h.0))), rw f refl)
    take_out (y ∷ ys) (suc i) d h below e =
        let f : same_text (name y) n ≡ false =
        differ y Ordering.Less (less_named y ys i d h.0 (omega arith) e) in
        let later = take_out ys i d h.1 (omega arith) e in
        (rw f (ap (λ zs. y ∷ zs) later.0), rw f later.1)

    -- the source at an index that a search by halving found is the one of the name,
    -- and the others are what is left
    pub taken_out : (ys : List X) (i : ℕ) (d : X) → AreInOrder name ys
        → i < length ys → IsBinarySearchResult (λ y. text_cmp (name y) n) ys (Ok i) → (remove ys i
        ≡ removed name n ys) × (find (λ y. same_text (name y) n) ys ≡ Some (get_or ys i d))
    taken_out ys i d h below found = take_out ys i d (ascend ys h) below (found d)

    all_other : (ys : List X) (i : ℕ) → ((k : ℕ) (d : X) → k < i → k < length ys
        → text_cmp (name (get_or ys k d)) n ≡ Ordering.Less)
        → ((k : ℕ) (d : X)
        → i ≤ k → k < length ys → text_cmp (name (get_or ys k d)) n ≡ Ordering.Greater)
        → AllByRecursion (λ y. same_text (name y) n ≡ false) ys
    all_other [] i low high = tt
    all_other (y ∷ ys) zero low high = (
      differ y Ordering.Greater (high 0 y (omega arith) (omega arith)),
      all_other ys zero (λ k d lt below. absurd (omega arith))
          (λ k d le below. high (suc k) d (omega arith) (omega arith)),
    )
    all_other (y ∷ ys) (suc i) low high = (
      differ y Ordering.Less (low 0 y (omega arith) (omega arith)),
      all_other ys i (λ k d lt below. low (suc k) d (omega arith) (omega arith))
          (λ k d le below. high (suc k) d (omega arith) (omega arith)),
    )

    -- where a search by halving found none, none has the name
    pub not_there : (ys : List X) (i : ℕ)
        → AreInOrder name ys → IsBinarySearchResult (λ y. text_cmp (name y) n) ys (Err i)
        → find (λ y. same_text (name y) n) ys ≡ None
    not_there ys i h found =
        let at : IsPartitionPoint (λ y. text_cmp (name y) n ≡ Ordering.Less)
        (λ y. text_cmp (name y) n ≡ Ordering.Greater) ys i =
        found (searchable_from_sorted nat_list_cmp_total name ys n (adjacent ys h)) in
        none_named ys (all_other ys i (λ k d lt below. at.0 k d (omega arith) lt)
        (λ k d le below. at.1 k d le below))

    each_kept : (P : X → Type 0) (ys : List X) → AllByRecursion P ys
        → AllByRecursion P (removed name n ys)
    each_kept P [] h = tt
    each_kept P (y ∷ ys) h =
        elim (same_text (name y) n)
        as (λ b. AllByRecursion P (cond (not b) (y ∷ removed name n ys) (removed name n ys))) [
          | true ↦ each_kept P ys h.1
          | false ↦ (h.0, each_kept P ys h.1)
        ]

    ascend_removed : (ys : List X) → Ascend ys → Ascend (removed name n ys)
    ascend_removed [] h = tt
    ascend_removed (y ∷ ys) h =
        elim (same_text (name y) n)
        as (λ b. Ascend (cond (not b) (y ∷ removed name n ys) (removed name n ys))) [
          | true ↦ ascend_removed ys h.1
          | false ↦ (
            each_kept (λ z. text_cmp (name y) (name z) ≡ Ordering.Less) ys h.0,
            ascend_removed ys h.1,
          )
        ]

    pub removed_in_order : (ys : List X) → AreInOrder name ys → AreInOrder name (removed name n ys)
    removed_in_order ys h = in_order (removed name n ys) (ascend_removed ys (ascend ys h))
