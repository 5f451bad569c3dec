-- The slots and the others lead to each place, also once a new one was put.
use Rattle.std.proofs.Common.{◌≡◌, ◌≢◌, ◌⊎◌, inl, inr, ℕ, zero, suc, ◌+◌, ◌<◌, Bool, true, false}
use Rattle.std.proofs.Common.{◌-◌, cond, ◌||◌}
use Rattle.std.proofs.Common.{List, [], ◌∷◌, ◌++◌, length, get_or, slice_get, set, take}
use Rattle.std.proofs.Common.{replicate, Option, Some, None, refl, sym, ap, subst, ◌∙◌, arith}
use Rattle.std.proofs.Common.{length-append}
use Rattle.std.proofs.lemmas.Bool.Decides.{nat_tests}
use Rattle.std.proofs.lemmas.Grind.{get_or_default_zero}
use Rattle.std.proofs.lemmas.Option.{slice_get_read}
use Rattle.std.specs.BTreeMap.{BTreeMap, get}
use Rattle.std.specs.List.{IsDistinct, list_any, position_or_len}
use Rattle.std.specs.Map.{lookup}
use Rattle.std.specs.Ordering.{is_eq}
use Rattle.geo_terms.specs.Numbers.{number_of, same_place}
use Rattle.geo_terms.specs.PlaceEquality.{same_parts}
use Rattle.geo_terms.specs.PlaceForm.{PlaceParts}
use Rattle.geo_terms.specs.PlaceOrder.{place_cmp, place_ties}
use Rattle.geo_terms.specs.PlaceTable.{first_slot, slots_of, said_or, said, look, IsTable, IsOther}
use Rattle.geo_terms.specs.PlaceTable.{IsPut}
use Rattle.geo_terms.proofs.NumberLemmas.{absent_any, fails_at, number_push, place_is_itself}
use Rattle.geo_terms.proofs.NumberLemmas.{position_stays, told_apart_back}

-- ---- lists

set_here : (xs : List ℕ) (n y : ℕ) → n < length xs → get_or (set xs n y) n 0 ≡ y
set_here [] n y within = absurd (omega arith)
set_here (x ∷ xs) zero y within = refl
set_here (x ∷ xs) (suc n) y within = set_here xs n y (omega arith)

set_other : (xs : List ℕ) (n m y : ℕ) → m ≢ n → get_or (set xs n y) m 0 ≡ get_or xs m 0
set_other [] n m y other = refl
set_other (x ∷ xs) zero zero y other = absurd (other refl)
set_other (x ∷ xs) zero (suc m) y other = refl
set_other (x ∷ xs) (suc n) zero y other = refl
set_other (x ∷ xs) (suc n) (suc m) y other = set_other xs n m y (λ same. other (ap suc same))

pub length-set : (xs : List ℕ) (n y : ℕ) → length (set xs n y) ≡ length xs
length-set [] n y = refl
length-set (x ∷ xs) zero y = refl
length-set (x ∷ xs) (suc n) y = ap suc (length-set xs n y)

same_or_not : (m n : ℕ) → (m ≡ n) ⊎ (m ≢ n)
same_or_not zero zero = inl refl
same_or_not zero (suc n) = inr (λ e. absurd (omega (arith, e)))
same_or_not (suc m) zero = inr (λ e. absurd (omega (arith, e)))
same_or_not (suc m) (suc n) = elim (same_or_not m n) [
  | inl e ↦ inl (ap suc e)
  | inr d ↦ inr (λ e. d (let f : m ≡ n = omega (arith, e) in f))
]

zeros : (m p : ℕ) → ◌≡◌ {A = ℕ} (get_or (replicate m 0) p 0) 0
zeros zero p = refl
zeros (suc m) zero = refl
zeros (suc m) (suc p) = zeros m p

slice_get-push : (xs : List PlaceParts) (y : PlaceParts) (k : ℕ) (x : PlaceParts)
    → slice_get xs k ≡ Some x → slice_get (xs ++ y ∷ []) k ≡ Some x
slice_get-push [] y k x at = absurd (cc)
slice_get-push (z ∷ xs) y zero x at = at
slice_get-push (z ∷ xs) y (suc k) x at = slice_get-push xs y k x at

slice_get-last : (xs : List PlaceParts) (y : PlaceParts)
    → slice_get (xs ++ y ∷ []) (length xs) ≡ Some y
slice_get-last [] y = refl
slice_get-last (x ∷ xs) y = slice_get-last xs y

read_within : (xs : List PlaceParts) (k : ℕ) → k < length xs
    → (x : PlaceParts) × (slice_get xs k ≡ Some x)
read_within [] k within = absurd (omega arith)
read_within (x ∷ xs) zero within = (x, refl)
read_within (x ∷ xs) (suc k) within = read_within xs k (omega arith)

-- ---- look-ups

or_parts : (a b : Bool) → (a || b) ≡ false → (a ≡ false) × (b ≡ false)
or_parts true b h = absurd (let e : true ≡ false = h in cc)
or_parts false b h = (refl, h)

-- what stands in the list is found
some_found : (test : PlaceParts → Bool) (xs : List PlaceParts) (k : ℕ) (q : PlaceParts)
    → slice_get xs k ≡ Some q → test q ≡ true → list_any test xs ≡ false → ⊥
some_found test [] k q at holds none = absurd (let e : None ≡ Some q = at in cc)
some_found test (x ∷ xs) zero q at holds none =
    let is : x ≡ q = (let e : Some x ≡ Some q = at in cc) in
    let e : true ≡ false =
    sym (ap test is ∙ holds) ∙ (or_parts (test x) (list_any test xs) none).0 in
    absurd (cc)
some_found test (x ∷ xs) (suc k) q at holds none =
    some_found test xs k q at holds (or_parts (test x) (list_any test xs) none).1

place_found : (places : List PlaceParts) (x : PlaceParts) (k : ℕ) (q : PlaceParts)
    → slice_get places k ≡ Some q → same_place x q ≡ true → number_of places x ≡ None → ⊥
place_found places x k q at same none =
    some_found (same_place x) places k q at same (absent_any places x none)

module _ (places : List PlaceParts) (slots : List ℕ) where
  -- nothing is found of a place that is not there
  look_none : (other : Option ℕ) (x : PlaceParts) (ss : List ℕ) → number_of places x ≡ None
      → other ≡ None → look places slots other x ss ≡ None
  look_none other x [] none rest = rest
  look_none other x (s ∷ ss) none rest =
      by_slot (get_or slots s 0) (look places slots other x ss) (look_none other x ss none rest)
    where
      by_place : (k : ℕ) (found : Option PlaceParts) (r : Option ℕ)
          → slice_get places k ≡ found → r ≡ None → said_or x (suc k) found r ≡ None
      by_place k None r at is = is
      by_place k (Some q) r at is = by_test (same_place x q) refl
        where
          by_test : (b : Bool) → same_place x q ≡ b → cond b (Some (suc k)) r ≡ None
          by_test true same = absurd (place_found places x k q at same none)
          by_test false differs = is

      by_slot : (v : ℕ) (r : Option ℕ) → r ≡ None → said places x v r ≡ None
      by_slot zero r is = refl
      by_slot (suc k) r is = by_place k (slice_get places k) r refl is

not_true : (b : Bool) → (b ≡ true → ⊥) → b ≡ false
not_true true h = absurd (h refl)
not_true false h = refl

none_of : (r : Option ℕ) → ((a : ℕ) → r ≡ Some a → ⊥) → r ≡ None
none_of None h = refl
none_of (Some a) h = absurd (h a refl)

said_place : (places : List PlaceParts) (x : PlaceParts) (k : ℕ) (q : PlaceParts)
    → slice_get places k ≡ Some q → (r : Option ℕ)
    → said places x (suc k) r ≡ cond (same_place x q) (Some (suc k)) r
said_place places x k q at r = ap (λ (f : Option PlaceParts). said_or x (suc k) f r) at

-- ---- one more

module _ (places : List PlaceParts) (slots : List ℕ) (others : BTreeMap PlaceParts ℕ)
    (x : PlaceParts) (new : number_of places x ≡ None)
    (slots' : List ℕ) (others' : BTreeMap PlaceParts ℕ) where
  abbrev more : List PlaceParts
  more = places ++ x ∷ []

  abbrev last : ℕ
  last = suc (length places)

  abbrev Put : List ℕ → Type 0
  Put ss = IsPut slots slots' others others' last x ss

  -- a slot that was taken stays
  taken_stays : (ss : List ℕ) → Put ss → (p k : ℕ) → get_or slots p 0 ≡ suc k
      → get_or slots' p 0 ≡ suc k
  taken_stays [] put p k is = ap (λ (s : List ℕ). get_or s p 0) put.0 ∙ is
  taken_stays (q ∷ ss) put p k is = elim put [
    | inl free ↦ elim (same_or_not p q) [
      | inl same ↦ absurd (omega (arith, is, free.0, ap (λ (r : ℕ). get_or slots r 0) same))
      | inr differs ↦
          ap (λ (s : List ℕ). get_or s p 0) free.2 ∙ set_other slots q p last differs ∙ is
    ]
    | inr rest ↦ taken_stays ss rest.1 p k is
  ]

  -- what a slot holds is old, or the new number
  slot_old_or_new : (ss : List ℕ) → Put ss → (p k : ℕ) → get_or slots' p 0 ≡ suc k
      → (get_or slots p 0 ≡ suc k) ⊎ (k ≡ length places)
  slot_old_or_new [] put p k is = inl (sym (ap (λ (s : List ℕ). get_or s p 0) put.0) ∙ is)
  slot_old_or_new (q ∷ ss) put p k is = elim put [
    | inl free ↦
        let read = ap (λ (s : List ℕ). get_or s p 0) free.2 in
        elim (same_or_not p q) [
          | inl same ↦ inr (omega (
            arith,
            is,
            read,
            ap (λ (r : ℕ). get_or (set slots q last) r 0) same,
            set_here slots q last free.1,
          ))
          | inr differs ↦ inl (sym (set_other slots q p last differs) ∙ sym read ∙ is)
        ]
    | inr rest ↦ slot_old_or_new ss rest.1 p k is
  ]

  -- what the others hold is old, or the new place
  other_old_or_new : (ss : List ℕ) → Put ss → (y : PlaceParts) (a : ℕ)
      → get place_cmp others' y ≡ Some a
      → (get place_cmp others y ≡ Some a) ⊎ ((same_place x y ≡ true) × (a ≡ last))
  other_old_or_new [] put y a is = by (same_place x y) refl (sym (put.1 y) ∙ is)
    where
      by : (b : Bool) → same_place x y ≡ b
          → cond b (Some last) (get place_cmp others y) ≡ Some a
          → (get place_cmp others y ≡ Some a) ⊎ ((same_place x y ≡ true) × (a ≡ last))
      by true same h = inr (same, (let e : a ≡ last = cc in e))
      by false differs h = inl h
  other_old_or_new (q ∷ ss) put y a is = elim put [
    | inl free ↦ inl (sym (free.3 y) ∙ is)
    | inr rest ↦ other_old_or_new ss rest.1 y a is
  ]

  other_stays : (ss : List ℕ) → Put ss → (y : PlaceParts) (a : ℕ) → same_place x y ≡ false
      → get place_cmp others y ≡ Some a → get place_cmp others' y ≡ Some a
  other_stays [] put y a differs is =
      put.1 y ∙ ap (λ (b : Bool). cond b (Some last) (get place_cmp others y)) differs ∙ is
  other_stays (q ∷ ss) put y a differs is = elim put [
    | inl free ↦ free.3 y ∙ is
    | inr rest ↦ other_stays ss rest.1 y a differs is
  ]

  abbrev Within : Type 0
  Within = (p k : ℕ) → get_or slots p 0 ≡ suc k → k < length places

  -- a slot that was taken, read after the new one was put
  said_taken : Within → (ss : List ℕ) → Put ss → (y : PlaceParts) (p k : ℕ)
      → get_or slots p 0 ≡ suc k → (q : PlaceParts) × (slice_get places k ≡ Some q)
      × ((r : Option ℕ) → said more y (get_or slots' p 0) r
      ≡ cond (same_place y q) (Some (suc k)) r)
  said_taken old ss put y p k is =
      let q = read_within places k (old p k is) in (
        q.0,
        q.1,
        λ r. ap (λ (v : ℕ). said more y v r) (taken_stays ss put p k is)
            ∙ said_place more y k q.0 (slice_get-push places x k q.0 q.1) r,
      )

  -- the new one is found
  look_new : Within → (ss : List ℕ) → Put ss
      → look more slots' (get place_cmp others' x) x ss ≡ Some last
  look_new old [] put =
      put.1 x
      ∙ ap (λ (b : Bool). cond b (Some last) (get place_cmp others x)) (place_is_itself x x refl)
  look_new old (p ∷ ss) put = elim put [
    | inl free ↦
        let rest = look more slots' (get place_cmp others' x) x ss in
        ap (λ (v : ℕ). said more x v rest)
        (ap (λ (s : List ℕ). get_or s p 0) free.2 ∙ set_here slots p last free.1)
        ∙ said_place more x (length places) x (slice_get-last places x) rest
        ∙ ap (λ (b : Bool). cond b (Some last) rest) (place_is_itself x x refl)
    | inr rest ↦ by (get_or slots p 0) refl rest.0 (look_new old ss rest.1)
  ]
    where
      by : (v : ℕ) → get_or slots p 0 ≡ v → get_or slots p 0 ≢ 0
          → look more slots' (get place_cmp others' x) x ss ≡ Some last
          → look more slots' (get place_cmp others' x) x (p ∷ ss) ≡ Some last
      by zero is some inner = absurd (some is)
      by (suc k) is some inner =
          let t = said_taken old (p ∷ ss) put x p k is in
          let rest = look more slots' (get place_cmp others' x) x ss in
          t.2 rest
          ∙ ap (λ (b : Bool). cond b (Some (suc k)) rest)
          (not_true (same_place x t.0) (λ same. place_found places x k t.0 t.1 same new))
          ∙ inner

  -- what was found is found still
  look_stays : Within → (put : List ℕ) → Put put → (y : PlaceParts) (a : ℕ)
      → (get place_cmp others y ≡ Some a → get place_cmp others' y ≡ Some a) → (ss : List ℕ)
      → look places slots (get place_cmp others y) y ss ≡ Some a
      → look more slots' (get place_cmp others' y) y ss ≡ Some a
  look_stays old qs put y a other [] is = other is
  look_stays old qs put y a other (p ∷ ss) is =
      by (get_or slots p 0) refl is (look_stays old qs put y a other ss)
    where
      before : Option ℕ
      before = look places slots (get place_cmp others y) y ss

      after : Option ℕ
      after = look more slots' (get place_cmp others' y) y ss

      by_test : (b : Bool) (n : ℕ) → (before ≡ Some a → after ≡ Some a)
          → cond b (Some n) before ≡ Some a → cond b (Some n) after ≡ Some a
      by_test true n inner h = h
      by_test false n inner h = inner h

      by : (v : ℕ) → get_or slots p 0 ≡ v → said places y (get_or slots p 0) before ≡ Some a
          → (before ≡ Some a → after ≡ Some a)
          → said more y (get_or slots' p 0) after ≡ Some a
      by zero v-is h inner =
          let f : None ≡ Some a =
          sym (ap (λ (v : ℕ). said places y v before) v-is) ∙ h in
          absurd (cc)
      by (suc k) v-is h inner =
          let t = said_taken old qs put y p k v-is in
          t.2 after
          ∙ by_test (same_place y t.0) (suc k) inner
          (sym (said_place places y k t.0 t.1 before)
          ∙ sym (ap (λ (v : ℕ). said places y v before) v-is) ∙ h)

module _ (places : List PlaceParts) (slots : List ℕ) (others : BTreeMap PlaceParts ℕ)
    (table : IsTable places slots others) (x : PlaceParts) (new : number_of places x ≡ None)
    (slots' : List ℕ) (others' : BTreeMap PlaceParts ℕ)
    (put : IsPut slots slots' others others' (suc (length places)) x
    (slots_of x (length slots))) where
  length_stays : (ss : List ℕ) → IsPut slots slots' others others' (suc (length places)) x ss
      → length slots' ≡ length slots
  length_stays [] put = ap length put.0
  length_stays (p ∷ ss) put = elim put [
    | inl free ↦ ap length free.2 ∙ length-set slots p (suc (length places))
    | inr rest ↦ length_stays ss rest.1
  ]

  pub table_longer : IsTable (places ++ x ∷ []) slots' others'
  table_longer = record { some = some; within = within; of = of; finds = finds }
    where
      longer : List PlaceParts
      longer = places ++ x ∷ []

      qs : List ℕ
      qs = slots_of x (length slots)

      same : length slots' ≡ length slots
      same = length_stays qs put

      some : 0 < length slots' → 1 < length slots'
      some h = omega (arith, same, table.some (omega (arith, same, h)))

      within : (p k : ℕ) → get_or slots' p 0 ≡ suc k → k < length longer
      within p k is =
          elim (slot_old_or_new places slots others x new slots' others' qs put p k is) [
            | inl old ↦ omega (arith, table.within p k old, length-append places (x ∷ []))
            | inr last ↦ omega (arith, last, length-append places (x ∷ []))
          ]

      new_number : (y : PlaceParts) → same_place x y ≡ true
          → number_of longer y ≡ Some (suc (length places))
      new_number y equal =
          sym (number_push places x y new)
          ∙ ap (λ (b : Bool). cond b (Some (length places + 1)) (number_of places y)) equal
          ∙ ap Some (let e : length places + 1 ≡ suc (length places) = omega arith in e)

      of : (y : PlaceParts) (a : ℕ) → get place_cmp others' y ≡ Some a
          → number_of longer y ≡ Some a
      of y a is =
          elim (other_old_or_new places slots others x new slots' others' qs put y a is) [
            | inl old ↦ position_stays (same_place y) places x a (table.of y a old)
            | inr last ↦ new_number y last.0 ∙ ap Some (sym last.1)
          ]

      by_place : (y : PlaceParts) (b : Bool) → same_place x y ≡ b
          → (r : Option ℕ) → number_of places y ≡ r
          → look longer slots' (get place_cmp others' y) y (slots_of y (length slots))
          ≡ number_of longer y
      by_place y true equal r is =
          subst (λ (z : PlaceParts). look longer slots' (get place_cmp others' z) z
          (slots_of z (length slots)) ≡ number_of longer z) (same_parts x y equal)
          (look_new places slots others x new slots' others' table.within qs put
          ∙ sym (new_number x (place_is_itself x x refl)))
      by_place y false differs (Some a) is =
          look_stays places slots others x new slots' others' table.within qs put y a
          (other_stays places slots others x new slots' others' qs put y a differs)
          (slots_of y (length slots)) (table.finds y ∙ is)
          ∙ sym (position_stays (same_place y) places x a is)
      by_place y false differs None is =
          let none : number_of longer y ≡ None =
          sym (number_push places x y new)
          ∙ ap (λ (b : Bool). cond b (Some (length places + 1)) (number_of places y)) differs
          ∙ is in
          look_none longer slots' (get place_cmp others' y) y (slots_of y (length slots)) none
          (none_of (get place_cmp others' y) (λ a h.
          let f : None ≡ Some a = sym none ∙ of y a h in absurd (cc)))
          ∙ sym none

      finds : (y : PlaceParts) → look longer slots' (get place_cmp others' y) y
          (slots_of y (length slots')) ≡ number_of longer y
      finds y = rw same (by_place y (same_place x y) refl (number_of places y) refl)

-- what the map holds once a place was put there
pub other_put : (x : PlaceParts) (n : ℕ) (old new : BTreeMap PlaceParts ℕ)
    → ((y : PlaceParts) → get place_cmp new y
    ≡ cond (is_eq (place_cmp x y)) (Some n) (get place_cmp old y)) → IsOther x n old new
other_put x n old new put y =
    put y ∙ ap (λ (b : Bool). cond b (Some n) (get place_cmp old y)) (sym (place_ties x y))

-- ---- what a note does

module _ (slots : List ℕ) (others : BTreeMap PlaceParts ℕ) (n : ℕ) (x : PlaceParts) (slot v : ℕ)
    (is : slot ≡ first_slot x (length slots)) (fits : slot + 1 < length slots)
    (first : v ≡ get_or slots slot v) where
  first_read : get_or slots slot 0 ≡ v
  first_read = sym (get_or_default_zero slots slot v (omega (arith, fits))) ∙ sym first

  pub put_first : v ≡ 0 → IsPut slots (set slots slot n) others others n x
      (slots_of x (length slots))
  put_first free =
      subst (λ (k : ℕ). IsPut slots (set slots slot n) others others n x (k ∷ (k + 1) ∷ [])) is
      (inl (first_read ∙ free, omega (arith, fits), refl, λ y. refl))

  taken : v ≢ 0 → get_or slots slot 0 ≢ 0
  taken some e = some (sym first_read ∙ e)

  module _ (some : v ≢ 0) (w : ℕ) (second : w ≡ get_or slots (slot + 1) w) where
    second_read : get_or slots (slot + 1) 0 ≡ w
    second_read = sym (get_or_default_zero slots (slot + 1) w fits) ∙ sym second

    pub put_second : w ≡ 0 → IsPut slots (set slots (slot + 1) n) others others n x
        (slots_of x (length slots))
    put_second free =
        subst
        (λ (k : ℕ). IsPut slots (set slots (slot + 1) n) others others n x (k ∷ (k + 1) ∷ [])) is
        (inr (taken some, inl (second_read ∙ free, fits, refl, λ y. refl)))

    pub put_beside : w ≢ 0 → (others' : BTreeMap PlaceParts ℕ) → IsOther x n others others'
        → IsPut slots slots others others' n x (slots_of x (length slots))
    put_beside full others' other =
        subst (λ (k : ℕ). IsPut slots slots others others' n x (k ∷ (k + 1) ∷ [])) is
        (inr (taken some, inr ((λ e. full (sym second_read ∙ e)), (refl, other))))

-- ---- the table of a list, place by place

none_at : (p : PlaceParts) (xs : List PlaceParts) → position_or_len (same_place p) xs ≡ length xs
    → number_of xs p ≡ None
none_at p xs e = rw e (grind (arith, nat_tests))

-- one of distinct places is not among those before it
none_before : (xs : List PlaceParts) (p : PlaceParts) (n : ℕ) → IsDistinct same_place xs
    → slice_get xs n ≡ Some p
    → position_or_len (same_place p) (take n xs) ≡ length (take n xs)
unfolding IsDistinct
none_before [] p n apart at = absurd (let e : None ≡ Some p = at in cc)
none_before (x ∷ xs) p zero apart at = refl
none_before (x ∷ xs) p (suc n) apart at =
    let rest = none_before xs p n apart.1 at in
    let fails = told_apart_back x p (fails_at (same_place x) xs p n apart.0 at) in
    rw (fails, rest) (omega arith)

take_next : (xs : List PlaceParts) (n : ℕ) (y : PlaceParts) → slice_get xs n ≡ Some y
    → (take (suc n) xs ≡ take n xs ++ y ∷ []) × (length (take n xs) ≡ n)
take_next [] n y at = absurd (cc)
take_next (z ∷ xs) zero y at =
    let same : z ≡ y = cc in
    (ap (λ (e : PlaceParts). e ∷ []) same, refl)
take_next (z ∷ xs) (suc n) y at =
    let rest = take_next xs n y at in
    (ap (λ (es : List PlaceParts). z ∷ es) rest.0, ap suc rest.1)

pub table_next : (list : List PlaceParts) (n : ℕ) (p : PlaceParts) (slots slots' : List ℕ)
    (others others' : BTreeMap PlaceParts ℕ) → n < length list → p ≡ get_or list n p
    → IsDistinct same_place list → IsTable (take n list) slots others
    → IsPut slots slots' others others' (n + 1) p (slots_of p (length slots))
    → IsTable (take (n + 1) list) slots' others'
table_next list n p slots slots' others others' within is apart table put =
    let read : slice_get list n ≡ Some p =
    slice_get_read list (length list) n p refl within is in
    let next = take_next list n p read in
    let count : n + 1 ≡ suc (length (take n list)) = omega (arith, next.1) in
    let one : take (n + 1) list ≡ take n list ++ p ∷ [] =
    ap (λ (k : ℕ). take k list) (let k : n + 1 ≡ suc n = omega arith in k) ∙ next.0 in
    let new = none_at p (take n list) (none_before list p n apart read) in
    subst (λ (es : List PlaceParts). IsTable es slots' others') (sym one)
    (table_longer (take n list) slots others table p new slots' others'
    (subst (λ (k : ℕ). IsPut slots slots' others others' k p (slots_of p (length slots))) count
    put))

long_zeros : (m : ℕ) → length (replicate {A = ℕ} m 0) ≡ m
long_zeros zero = refl
long_zeros (suc m) = ap suc (long_zeros m)

-- a table of no places
pub table_none : (m : ℕ) (others : BTreeMap PlaceParts ℕ) → (0 < m → 1 < m)
    → ((p : PlaceParts) → get place_cmp others p ≡ None) → IsTable [] (replicate {A = ℕ} m 0) others
table_none m others many empty = record {
  some = λ h. omega (arith, long_zeros m, many (omega (arith, long_zeros m, h)));
  within = λ s k is. absurd (omega (arith, zeros m s, is));
  of = λ p n is. absurd (let e : None ≡ Some n = sym (empty p) ∙ is in cc);
  finds = λ p.
      ap (λ (v : ℕ). said [] p v (look [] (replicate {A = ℕ} m 0) (get place_cmp others p) p
      ((first_slot p (length (replicate {A = ℕ} m 0)) + 1) ∷ [])))
      (zeros m (first_slot p (length (replicate {A = ℕ} m 0))));
}

-- the same with a map of the same entries
pub table_same : (places : List PlaceParts) (slots : List ℕ)
    (others others' : BTreeMap PlaceParts ℕ) → others'.entries ≡ others.entries
    → IsTable places slots others → IsTable places slots others'
table_same places slots others others' same table = record {
  some = table.some;
  within = table.within;
  of = λ p n is. table.of p n (sym (gives p) ∙ is);
  finds = λ p.
      ap (λ (r : Option ℕ). look places slots r p (slots_of p (length slots))) (gives p)
      ∙ table.finds p;
}
  where
    gives : (p : PlaceParts) → get place_cmp others' p ≡ get place_cmp others p
    gives p =
        ap (λ (es : List (PlaceParts × ℕ)). lookup (λ (k : PlaceParts). is_eq (place_cmp p k)) es)
        same

-- ---- what a slot tells

-- where the place is that of the number in the slot, that number, and else nothing
module _ (list : List PlaceParts) (slots : List ℕ) (slot v : ℕ) (x q : PlaceParts)
    (read : v ≡ get_or slots slot 0) (some : v ≢ 0) (within : v - 1 < length list)
    (at : q ≡ get_or list (v - 1) q) where
  by_place_test : (rest : Option ℕ)
      → said list x (get_or slots slot 0) rest ≡ cond (same_place x q) (Some v) rest
  by_place_test rest = by v refl
    where
      by : (w : ℕ) → v ≡ w
          → said list x (get_or slots slot 0) rest ≡ cond (same_place x q) (Some v) rest
      by zero e = absurd (some e)
      by (suc k) e =
          ap (λ (n : ℕ). said list x n rest) (sym read ∙ e)
          ∙ said_place list x k q (ap (slice_get list) (let f : k ≡ v - 1 = omega (arith, e) in f)
          ∙ slice_get_read list (length list) (v - 1) q refl within at) rest
          ∙ ap (λ (n : ℕ). cond (same_place x q) (Some n) rest) (sym e)

  pub said_here : same_place x q ≡ true → (rest : Option ℕ)
      → said list x (get_or slots slot 0) rest ≡ Some v
  said_here same rest =
      by_place_test rest ∙ ap (λ (b : Bool). cond b (Some v) rest) same

  pub said_on : same_place x q ≡ false → (rest : Option ℕ)
      → said list x (get_or slots slot 0) rest ≡ rest
  said_on differs rest =
      by_place_test rest ∙ ap (λ (b : Bool). cond b (Some v) rest) differs
