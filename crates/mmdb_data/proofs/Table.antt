-- The table finds each spelling, also once a new one was put.
use Rattle.std.proofs.Common.{◌≡◌, ◌≢◌, ◌⊎◌, inl, inr, ℕ, zero, suc, ◌+◌, ◌<◌, Bool, true, false}
use Rattle.std.proofs.Common.{cond}
use Rattle.std.proofs.Common.{true≢false, List, [], ◌∷◌, ◌++◌, length, get_or, slice_get, set, take}
use Rattle.std.proofs.Common.{drop}
use Rattle.std.proofs.Common.{replicate, Option, Some, None, refl, sym, ap, subst, ◌∙◌, arith}
use Rattle.std.proofs.Common.{length-append}
use Rattle.std.proofs.lemmas.Bool.Decides.{nat_tests}
use Rattle.std.proofs.lemmas.Grind.{get_or_default_zero}
use Rattle.std.specs.Prelude.{nat_eq}
use Rattle.std.specs.BTreeMap.{BTreeMap, get, Updates}
use Rattle.std.specs.Cmp.{eq_by_cmp_equiv}
use Rattle.std.specs.Cmp.Lexicographic.{pointwise, slice_cmp, texts_ties, bytes_decides}
use Rattle.std.specs.Cmp.Lexicographic.{nat_list_cmp_total}
use Rattle.std.specs.Global.{Vec}
use Rattle.std.specs.Map.{lookup, KeepsOthers, IsKeyTest, AreApart}
use Rattle.std.specs.Option.{unwrap_or}
use Rattle.std.specs.Ordering.{nat_cmp, is_eq, eq_by_cmp}
use Rattle.std.specs.declared.cmp.Ordering.{Ordering}
use Rattle.mmdb_data.specs.declared.full_values.Table.{Table}
use Rattle.mmdb_data.specs.FullValues.{Entries, get_by_bytes, mixed, mixed_again, slot_by}
use Rattle.mmdb_data.specs.FullValues.{Spot, slot, ranked, held, spots_of, said_or, told, look}
use Rattle.mmdb_data.specs.FullValues.{AreNew, IsTable, IsOther, IsHeld, IsPutAt, IsPut, IsAlike}
use Rattle.mmdb_data.proofs.Keeps.{lookup-push, lookup-stays, lookup-new}

-- ---- lists

set_here : (xs : List ℕ) (n y : ℕ) → n < length xs → get_or (set xs n y) n 0 ≡ y
set_here [] n y within = absurd (omega arith)
set_here (x ∷ xs) zero y within = refl
set_here (x ∷ xs) (suc n) y within = set_here xs n y (omega arith)

set_other : (xs : List ℕ) (n m y : ℕ) → m ≢ n → get_or (set xs n y) m 0 ≡ get_or xs m 0
set_other [] n m y other = refl
set_other (x ∷ xs) zero zero y other = absurd (other refl)
set_other (x ∷ xs) zero (suc m) y other = refl
set_other (x ∷ xs) (suc n) zero y other = refl
set_other (x ∷ xs) (suc n) (suc m) y other = set_other xs n m y (λ same. other (ap suc same))

pub length-set : (xs : List ℕ) (n y : ℕ) → length (set xs n y) ≡ length xs
length-set [] n y = refl
length-set (x ∷ xs) zero y = refl
length-set (x ∷ xs) (suc n) y = ap suc (length-set xs n y)

same_or_not : (m n : ℕ) → (m ≡ n) ⊎ (m ≢ n)
same_or_not zero zero = inl refl
same_or_not zero (suc n) = inr (λ e. absurd (omega (arith, e)))
same_or_not (suc m) zero = inr (λ e. absurd (omega (arith, e)))
same_or_not (suc m) (suc n) = elim (same_or_not m n) [
  | inl e ↦ inl (ap suc e)
  | inr d ↦ inr (λ e. d (let f : m ≡ n = omega (arith, e) in f))
]

same_spot_or_not : (p q : Spot) → (p ≡ q) ⊎ (p ≢ q)
same_spot_or_not (slot m) (slot n) = elim (same_or_not m n) [
  | inl e ↦ inl (ap slot e)
  | inr d ↦ inr (λ e. d (let f : m ≡ n = cc in f))
]
same_spot_or_not (slot m) (ranked n) = inr (λ e. absurd (cc))
same_spot_or_not (ranked m) (slot n) = inr (λ e. absurd (cc))
same_spot_or_not (ranked m) (ranked n) = elim (same_or_not m n) [
  | inl e ↦ inl (ap ranked e)
  | inr d ↦ inr (λ e. d (let f : m ≡ n = cc in f))
]

zeros : (m p : ℕ) → ◌≡◌ {A = ℕ} (get_or (replicate m 0) p 0) 0
zeros zero p = refl
zeros (suc m) zero = refl
zeros (suc m) (suc p) = zeros m p

slice_get-push : {X : Type 0} (xs : List X) (y : X) (k : ℕ) (x : X) → slice_get xs k ≡ Some x
    → slice_get (xs ++ y ∷ []) k ≡ Some x
slice_get-push [] y k x at = absurd (cc)
slice_get-push (z ∷ xs) y zero x at = at
slice_get-push (z ∷ xs) y (suc k) x at = slice_get-push xs y k x at

slice_get-last : {X : Type 0} (xs : List X) (y : X) → slice_get (xs ++ y ∷ []) (length xs) ≡ Some y
slice_get-last [] y = refl
slice_get-last (x ∷ xs) y = slice_get-last xs y

read_within : {X : Type 0} (xs : List X) (k : ℕ) → k < length xs
    → (x : X) × (slice_get xs k ≡ Some x)
read_within [] k within = absurd (omega arith)
read_within (x ∷ xs) zero within = (x, refl)
read_within (x ∷ xs) (suc k) within = read_within xs k (omega arith)

-- ---- look-ups

-- what stands in the list is found
entry_found : (test : List ℕ → Bool) (entries : Entries) (k : ℕ) (entry : List ℕ × ℕ)
    → slice_get entries k ≡ Some entry → test entry.0 ≡ true → lookup test entries ≡ None → ⊥
entry_found test [] k entry at holds none = absurd (cc)
entry_found test (e ∷ entries) zero entry at holds none =
    let same : e ≡ entry = cc in
    let h : test e.0 ≡ true = ap (λ (x : List ℕ × ℕ). test x.0) same ∙ holds in
    let f : Some e.1 ≡ None =
    sym (ap (λ (b : Bool). cond b (Some e.1) (lookup test entries)) h) ∙ none in
    absurd (cc)
entry_found test (e ∷ entries) (suc k) entry at holds none =
    by (test e.0) none (λ rest. entry_found test entries k entry at holds rest)
  where
    by : (b : Bool) → cond b (Some e.1) (lookup test entries) ≡ None
        → (lookup test entries ≡ None → ⊥) → ⊥
    by true is inner = absurd (cc)
    by false is inner = inner is

module _ (entries : Entries) (table : Table) where
  -- nothing is found of what no entry spells
  pub look_none : (other : Option ℕ) (x : List ℕ) (ps : List Spot)
      → lookup (pointwise nat_eq x) entries ≡ None → other ≡ None
      → look entries table other x ps ≡ None
  look_none other x [] none rest = rest
  look_none other x (p ∷ ps) none rest =
      by_spot (held table p) (look entries table other x ps) (look_none other x ps none rest)
    where
      by_entry : (k : ℕ) (found : Option (List ℕ × ℕ)) (r : Option ℕ)
          → slice_get entries k ≡ found → r ≡ None → said_or x found r ≡ None
      by_entry k None r at is = is
      by_entry k (Some e) r at is = by_test (pointwise nat_eq x e.0) refl
        where
          by_test : (b : Bool) → pointwise nat_eq x e.0 ≡ b → cond b (Some e.1) r ≡ None
          by_test true same =
              absurd (entry_found (pointwise nat_eq x) entries k e at same none)
          by_test false differs = is

      by_spot : (v : ℕ) (r : Option ℕ) → r ≡ None → told entries x v r ≡ None
      by_spot zero r is = refl
      by_spot (suc k) r is = by_entry k (slice_get entries k) r refl is

abbrev bytes_cmp : Vec ℕ → Vec ℕ → Ordering
bytes_cmp a b = slice_cmp nat_cmp a.items b.items

itself : (x : List ℕ) → pointwise nat_eq x x ≡ true
itself x = (bytes_decides x x).1 refl

not_true : (b : Bool) → (b ≡ true → ⊥) → b ≡ false
not_true true h = absurd (h refl)
not_true false h = refl

turned : (x y : List ℕ) → pointwise nat_eq x y ≡ false → pointwise nat_eq y x ≡ false
turned x y differs =
    not_true (pointwise nat_eq y x) (λ same.
    true≢false (sym ((bytes_decides x y).1 (sym ((bytes_decides y x).0 same))) ∙ differs))

turned_true : (x y : List ℕ) → true ≡ pointwise nat_eq y x → pointwise nat_eq x y ≡ true
turned_true x y same = (bytes_decides x y).1 (sym ((bytes_decides y x).0 (sym same)))

none_of : (r : Option ℕ) → ((a : ℕ) → r ≡ Some a → ⊥) → r ≡ None
none_of None h = refl
none_of (Some a) h = absurd (h a refl)

told_entry : (entries : Entries) (x : List ℕ) (k : ℕ) (e : List ℕ × ℕ)
    → slice_get entries k ≡ Some e → (r : Option ℕ)
    → told entries x (suc k) r ≡ cond (pointwise nat_eq x e.0) (Some e.1) r
told_entry entries x k e at r = ap (λ (f : Option (List ℕ × ℕ)). said_or x f r) at

-- ---- one more

module _ (entries : Entries) (old new : Table) (x : List ℕ) (at : ℕ)
    (first : lookup (pointwise nat_eq x) entries ≡ None) where
  abbrev more : Entries
  more = entries ++ (x, at) ∷ []

  abbrev Put : List Spot → Type 0
  Put ps = IsPutAt old new (length entries) x at ps

  -- a spot that was taken stays
  taken_stays : (ps : List Spot) → Put ps → (p : Spot) (k : ℕ) → held old p ≡ suc k
      → held new p ≡ suc k
  taken_stays [] put p k is = put.0 p ∙ is
  taken_stays (q ∷ ps) put p k is = elim put [
    | inl free ↦ elim (same_spot_or_not p q) [
      | inl same ↦ absurd (omega (arith, is, free.0, ap (held old) same))
      | inr differs ↦ free.1.elsewhere p differs ∙ is
    ]
    | inr rest ↦ taken_stays ps rest.1 p k is
  ]

  -- what a spot holds is old, or the new number
  spot_old_or_new : (ps : List Spot) → Put ps → (p : Spot) (k : ℕ) → held new p ≡ suc k
      → (held old p ≡ suc k) ⊎ (k ≡ length entries)
  spot_old_or_new [] put p k is = inl (sym (put.0 p) ∙ is)
  spot_old_or_new (q ∷ ps) put p k is = elim put [
    | inl free ↦ elim (same_spot_or_not p q) [
      | inl same ↦ inr (omega (arith, is, ap (held new) same, free.1.here))
      | inr differs ↦ inl (sym (free.1.elsewhere p differs) ∙ is)
    ]
    | inr rest ↦ spot_old_or_new ps rest.1 p k is
  ]

  -- what the others hold is old, or the new spelling
  other_old_or_new : (ps : List Spot) → Put ps → (y : List ℕ) (a : ℕ)
      → get_by_bytes y new.others ≡ Some a
      → (get_by_bytes y old.others ≡ Some a)
      ⊎ ((pointwise nat_eq x y ≡ true) × (a ≡ at))
  other_old_or_new [] put y a is =
      by (pointwise nat_eq x y) refl (sym (put.1 y) ∙ is)
    where
      by : (b : Bool) → pointwise nat_eq x y ≡ b
          → cond b (Some at) (get_by_bytes y old.others) ≡ Some a
          → (get_by_bytes y old.others ≡ Some a)
          ⊎ ((pointwise nat_eq x y ≡ true) × (a ≡ at))
      by true same h = inr (same, (let e : a ≡ at = cc in e))
      by false differs h = inl h
  other_old_or_new (q ∷ ps) put y a is = elim put [
    | inl free ↦ inl (sym (free.1.others y) ∙ is)
    | inr rest ↦ other_old_or_new ps rest.1 y a is
  ]

  other_stays : (ps : List Spot) → Put ps → (y : List ℕ) (a : ℕ)
      → pointwise nat_eq x y ≡ false → get_by_bytes y old.others ≡ Some a
      → get_by_bytes y new.others ≡ Some a
  other_stays [] put y a differs is =
      put.1 y ∙ ap (λ (b : Bool). cond b (Some at) (get_by_bytes y old.others)) differs ∙ is
  other_stays (q ∷ ps) put y a differs is = elim put [
    | inl free ↦ free.1.others y ∙ is
    | inr rest ↦ other_stays ps rest.1 y a differs is
  ]

  abbrev Within : Type 0
  Within = (p : Spot) (k : ℕ) → held old p ≡ suc k → k < length entries

  -- a spot that was taken, read after the new one was put
  told_taken : Within → (ps : List Spot) → Put ps → (y : List ℕ) (p : Spot) (k : ℕ)
      → held old p ≡ suc k
      → (e : List ℕ × ℕ) × (slice_get entries k ≡ Some e)
      × ((r : Option ℕ) → told more y (held new p) r
      ≡ cond (pointwise nat_eq y e.0) (Some e.1) r)
  told_taken within ps put y p k is =
      let e = read_within entries k (within p k is) in (
        e.0,
        e.1,
        λ r. ap (λ (v : ℕ). told more y v r) (taken_stays ps put p k is)
            ∙ told_entry more y k e.0 (slice_get-push entries (x, at) k e.0 e.1) r,
      )

  -- the new one is found
  look_new : Within → (ps : List Spot) → Put ps
      → look more new (get_by_bytes x new.others) x ps ≡ Some at
  look_new within [] put =
      put.1 x ∙ ap (λ (b : Bool). cond b (Some at) (get_by_bytes x old.others)) (itself x)
  look_new within (p ∷ ps) put = elim put [
    | inl free ↦
        let rest = look more new (get_by_bytes x new.others) x ps in
        ap (λ (v : ℕ). told more x v rest) free.1.here
        ∙ told_entry more x (length entries) (x, at)
        (slice_get-last entries (x, at)) rest
        ∙ ap (λ (b : Bool). cond b (Some at) rest) (itself x)
    | inr rest ↦ by (held old p) refl rest.0 (look_new within ps rest.1)
  ]
    where
      by : (v : ℕ) → held old p ≡ v → held old p ≢ 0
          → look more new (get_by_bytes x new.others) x ps ≡ Some at
          → look more new (get_by_bytes x new.others) x (p ∷ ps) ≡ Some at
      by zero is some inner = absurd (some is)
      by (suc k) is some inner =
          let t = told_taken within (p ∷ ps) put x p k is in
          let rest = look more new (get_by_bytes x new.others) x ps in
          t.2 rest
          ∙ ap (λ (b : Bool). cond b (Some t.0.1) rest)
          (not_true (pointwise nat_eq x t.0.0)
          (λ same. entry_found (pointwise nat_eq x) entries k t.0 t.1 same first))
          ∙ inner

  -- what was found is found still
  look_stays : Within → (qs : List Spot) → Put qs → (y : List ℕ) (a : ℕ)
      → (get_by_bytes y old.others ≡ Some a → get_by_bytes y new.others ≡ Some a)
      → (ps : List Spot) → look entries old (get_by_bytes y old.others) y ps ≡ Some a
      → look more new (get_by_bytes y new.others) y ps ≡ Some a
  look_stays within qs put y a other [] is = other is
  look_stays within qs put y a other (p ∷ ps) is =
      by (held old p) refl is (look_stays within qs put y a other ps)
    where
      before : Option ℕ
      before = look entries old (get_by_bytes y old.others) y ps

      after : Option ℕ
      after = look more new (get_by_bytes y new.others) y ps

      by_test : (b : Bool) (n : ℕ) → (before ≡ Some a → after ≡ Some a)
          → cond b (Some n) before ≡ Some a → cond b (Some n) after ≡ Some a
      by_test true n inner h = h
      by_test false n inner h = inner h

      by : (v : ℕ) → held old p ≡ v → told entries y (held old p) before ≡ Some a
          → (before ≡ Some a → after ≡ Some a)
          → told more y (held new p) after ≡ Some a
      by zero v-is h inner =
          let f : None ≡ Some a =
          sym (ap (λ (v : ℕ). told entries y v before) v-is) ∙ h in
          absurd (cc)
      by (suc k) v-is h inner =
          let t = told_taken within qs put y p k v-is in
          t.2 after
          ∙ by_test (pointwise nat_eq y t.0.0) t.0.1 inner
          (sym (told_entry entries y k t.0 t.1 before)
          ∙ sym (ap (λ (v : ℕ). told entries y v before) v-is) ∙ h)

module _ (entries : Entries) (old : Table) (table : IsTable entries old) (x : List ℕ) (at : ℕ)
    (first : lookup (pointwise nat_eq x) entries ≡ None)
    (new : Table) (put : IsPut old new (length entries) x at) where
  pub table_longer : IsTable (entries ++ (x, at) ∷ []) new
  table_longer = record {
    some = omega (arith, put.len, table.some);
    within = within;
    of = of;
    finds = finds;
  }
    where
      longer : Entries
      longer = entries ++ (x, at) ∷ []

      len : ℕ
      len = length old.slots.items

      qs : List Spot
      qs = spots_of x len

      within : (p : Spot) (k : ℕ) → held new p ≡ suc k → k < length longer
      within p k is = elim (spot_old_or_new entries old new x at first qs put.put p k is) [
        | inl before ↦ omega (
          arith,
          table.within p k before,
          length-append entries ((x, at) ∷ []),
        )
        | inr last ↦ omega (arith, last, length-append entries ((x, at) ∷ []))
      ]

      same_spelling : (y : List ℕ) → pointwise nat_eq x y ≡ true → x ≡ y
      same_spelling y h = (bytes_decides x y).0 h

      of : (y : List ℕ) (a : ℕ) → get_by_bytes y new.others ≡ Some a
          → lookup (pointwise nat_eq y) longer ≡ Some a
      of y a is = elim (other_old_or_new entries old new x at first qs put.put y a is) [
        | inl before ↦
            lookup-stays (pointwise nat_eq y) entries ((x, at) ∷ []) a
            (table.of y a before)
        | inr last ↦
            let e = same_spelling y last.0 in
            subst (λ (z : List ℕ). lookup (pointwise nat_eq z) longer ≡ Some a) e
            (lookup-new (pointwise nat_eq x) entries x at first (itself x)
            ∙ ap Some (sym last.1))
      ]

      by_offset : (y : List ℕ) (b : Bool) → pointwise nat_eq x y ≡ b
          → (r : Option ℕ) → lookup (pointwise nat_eq y) entries ≡ r
          → look longer new (get_by_bytes y new.others) y (spots_of y len)
          ≡ lookup (pointwise nat_eq y) longer
      by_offset y true equal r is = new_one
        where
          e : x ≡ y
          e = same_spelling y equal

          new_one : look longer new (get_by_bytes y new.others) y (spots_of y len)
              ≡ lookup (pointwise nat_eq y) longer
          new_one =
              subst (λ (z : List ℕ). look longer new (get_by_bytes z new.others) z
              (spots_of z len) ≡ lookup (pointwise nat_eq z) longer) e
              (look_new entries old new x at first table.within qs put.put
              ∙ sym (lookup-new (pointwise nat_eq x) entries x at first
              (itself x)))
      by_offset y false differs (Some a) is =
          look_stays entries old new x at first table.within qs put.put y a
          (other_stays entries old new x at first qs put.put y a differs)
          (spots_of y len) (table.finds y ∙ is)
          ∙ sym (lookup-stays (pointwise nat_eq y) entries ((x, at) ∷ []) a is)
      by_offset y false differs None is =
          let none : lookup (pointwise nat_eq y) longer ≡ None =
          lookup-push (pointwise nat_eq y) entries (x, at)
          (turned x y differs) ∙ is in
          look_none longer new (get_by_bytes y new.others) y (spots_of y len) none
          (none_of (get_by_bytes y new.others) (λ a h.
          let f : None ≡ Some a = sym none ∙ of y a h in absurd (cc)))
          ∙ sym none

      finds : (y : List ℕ) → look longer new (get_by_bytes y new.others) y
          (spots_of y (length new.slots.items)) ≡ lookup (pointwise nat_eq y) longer
      finds y =
          rw put.len (by_offset y (pointwise nat_eq x y) refl
          (lookup (pointwise nat_eq y) entries) refl)

-- what the map holds once a spelling was put there
kept_others : {K X : Type 0} (eq : K → K → Bool) (test : K → Bool) (old new : List (K × X))
    → KeepsOthers eq test old new → (other : K → Bool) → IsKeyTest eq other → AreApart test other
    → lookup other new ≡ lookup other old
unfolding KeepsOthers
kept_others eq test old new kept = kept

module _ (x : List ℕ) (key : Vec ℕ) (at : ℕ) (old new : BTreeMap (Vec ℕ) ℕ) (same : key.items ≡ x)
    (put : Updates bytes_cmp old new key (Some at)) where
  here_put : get_by_bytes x new ≡ Some at
  here_put = subst (λ (z : List ℕ). get_by_bytes z new ≡ Some at) same put.1

  apart_from : (y : List ℕ) → pointwise nat_eq x y ≡ false → (k : Vec ℕ)
      → is_eq (slice_cmp nat_cmp key.items k.items) ≡ true
      → is_eq (slice_cmp nat_cmp y k.items) ≡ false
  apart_from y differs k is =
      let own : x ≡ k.items =
      sym same ∙ (bytes_decides key.items k.items).0 (texts_ties key.items k.items ∙ is) in
      sym (texts_ties y k.items)
      ∙ subst (λ (z : List ℕ). pointwise nat_eq y z ≡ false) own (turned x y differs)

  pub other_put : IsOther x at old new
  other_put y = by (pointwise nat_eq x y) refl
    where
      by : (b : Bool) → pointwise nat_eq x y ≡ b
          → get_by_bytes y new ≡ cond b (Some at) (get_by_bytes y old)
      by true equal =
          subst (λ (z : List ℕ). get_by_bytes z new ≡ Some at) ((bytes_decides x y).0 equal)
          here_put
      by false differs =
          kept_others (eq_by_cmp bytes_cmp) (λ (k : Vec ℕ). is_eq (bytes_cmp key k))
          old.entries new.entries put.3
          (λ (k : Vec ℕ). is_eq (slice_cmp nat_cmp y k.items))
          (λ a b. (eq_by_cmp_equiv nat_list_cmp_total).congr y a.items b.items)
          (apart_from y differs)

-- ---- what a note does

-- a number was put into a slot
held_slot : (old new : Table) (n p : ℕ) → p < length old.slots.items
    → new.slots.items ≡ set old.slots.items p (n + 1) → new.ranks ≡ old.ranks
    → new.others ≡ old.others → IsHeld old new n (slot p)
held_slot old new n p within slots ranks others = record {
  here = omega (
    arith,
    ap (λ (s : List ℕ). get_or s p 0) slots,
    set_here old.slots.items p (n + 1) within,
  );
  elsewhere = elsewhere;
  others = λ y. ap (get_by_bytes y) others;
}
  where
    elsewhere : (q : Spot) → q ≢ slot p → held new q ≡ held old q
    elsewhere (slot m) other =
        ap (λ (s : List ℕ). get_or s m 0) slots
        ∙ set_other old.slots.items p m (n + 1) (λ e. other (ap slot e))
    elsewhere (ranked r) other =
        ap (λ (m : BTreeMap ℕ ℕ). unwrap_or (get nat_cmp m r) 0) ranks

-- a number was put at a rank
held_rank : (old new : Table) (n r : ℕ) → new.slots.items ≡ old.slots.items
    → ((q : ℕ) → get nat_cmp new.ranks q
    ≡ cond (is_eq (nat_cmp r q)) (Some (n + 1)) (get nat_cmp old.ranks q))
    → new.others ≡ old.others → IsHeld old new n (ranked r)
held_rank old new n r slots ranks others = record {
  here =
      ap (λ (o : Option ℕ). unwrap_or o 0) (ranks r
      ∙ ap (λ (b : Bool). cond b (Some (n + 1)) (get nat_cmp old.ranks r)) own)
      ∙ (let next : n + 1 ≡ suc n = omega arith in next);
  elsewhere = elsewhere;
  others = λ y. ap (get_by_bytes y) others;
}
  where
    own : is_eq (nat_cmp r r) ≡ true
    own = grind (arith, nat_tests)

    apart : (q : ℕ) → q ≢ r → is_eq (nat_cmp r q) ≡ false
    apart q differs =
        not_true (is_eq (nat_cmp r q)) (λ same.
        differs (let e : q ≡ r = grind (arith, nat_tests) in e))

    elsewhere : (q : Spot) → q ≢ ranked r → held new q ≡ held old q
    elsewhere (slot m) other = ap (λ (s : List ℕ). get_or s m 0) slots
    elsewhere (ranked q) other =
        ap (λ (o : Option ℕ). unwrap_or o 0) (ranks q
        ∙ ap (λ (b : Bool). cond b (Some (n + 1)) (get nat_cmp old.ranks q))
        (apart q (λ e. other (ap ranked e))))

read : (slots : List ℕ) (p v : ℕ) → p < length slots → v ≡ get_or slots p v → get_or slots p 0 ≡ v
read slots p v within is = sym (get_or_default_zero slots p v within) ∙ sym is

module _ (old new : Table) (n : ℕ) (x : List ℕ) (at p v : ℕ)
    (is : p ≡ slot_by (mixed x) (length old.slots.items))
    (fits : p + 1 < length old.slots.items) (first : v ≡ get_or old.slots.items p v) where
  abbrev spots : List Spot
  spots = slot p ∷ slot (p + 1) ∷ ranked (mixed_again x) ∷ []

  put_of : length new.slots.items ≡ length old.slots.items → IsPutAt old new n x at spots
      → IsPut old new n x at
  put_of len put = record {
    len = len;
    put =
        subst (λ (k : ℕ). IsPutAt old new n x at
        (slot k ∷ slot (k + 1) ∷ ranked (mixed_again x) ∷ [])) is put;
  }

  first_read : get_or old.slots.items p 0 ≡ v
  first_read = read old.slots.items p v (omega (arith, fits)) first

  pub put_first : v ≡ 0 → new.slots.items ≡ set old.slots.items p (n + 1) → new.ranks ≡ old.ranks
      → new.others ≡ old.others → IsPut old new n x at
  put_first free slots ranks others =
      put_of (ap length slots ∙ length-set old.slots.items p (n + 1))
      (inl (first_read ∙ free, held_slot old new n p (omega (arith, fits)) slots ranks others))

  module _ (some : v ≢ 0) (w : ℕ) (second : w ≡ get_or old.slots.items (p + 1) w) where
    taken : get_or old.slots.items p 0 ≢ 0
    taken e = some (sym first_read ∙ e)

    second_read : get_or old.slots.items (p + 1) 0 ≡ w
    second_read = read old.slots.items (p + 1) w fits second

    pub put_second : w ≡ 0 → new.slots.items ≡ set old.slots.items (p + 1) (n + 1)
        → new.ranks ≡ old.ranks → new.others ≡ old.others → IsPut old new n x at
    put_second free slots ranks others =
        put_of (ap length slots ∙ length-set old.slots.items (p + 1) (n + 1))
        (inr (taken, inl (second_read ∙ free, held_slot old new n (p + 1) fits slots ranks others)))

    module _ (full : w ≢ 0) (r u : ℕ) (rank : r ≡ mixed_again x)
        (third : u ≡ held old (ranked r)) (slots : new.slots.items ≡ old.slots.items) where
      behind : IsPutAt old new n x at (ranked r ∷ []) → IsPut old new n x at
      behind put =
          put_of (ap length slots)
          (inr (
            taken,
            inr (
              (λ e. full (sym second_read ∙ e)),
              subst (λ (k : ℕ). IsPutAt old new n x at (ranked k ∷ [])) rank put,
            ),
          ))

      pub put_third : u ≡ 0 → ((q : ℕ) → get nat_cmp new.ranks q
          ≡ cond (is_eq (nat_cmp r q)) (Some (n + 1)) (get nat_cmp old.ranks q))
          → new.others ≡ old.others → IsPut old new n x at
      put_third free ranks others =
          behind (inl (sym third ∙ free, held_rank old new n r slots ranks others))

      pub put_beside : u ≢ 0 → new.ranks ≡ old.ranks → IsOther x at old.others new.others
          → IsPut old new n x at
      put_beside held_there ranks other =
          behind (inr ((λ e. held_there (third ∙ e)), (stays, other)))
        where
          stays : (q : Spot) → held new q ≡ held old q
          stays (slot m) = ap (λ (s : List ℕ). get_or s m 0) slots
          stays (ranked m) = ap (λ (m' : BTreeMap ℕ ℕ). unwrap_or (get nat_cmp m' m) 0) ranks

-- ---- what a spot says

-- where the entry is the spelling's, its offset, and else nothing
module _ (entries : Entries) (v k : ℕ) (x own : List ℕ) (at : ℕ) (is : v ≡ k + 1)
    (entry : slice_get entries k ≡ Some (own, at)) where
  by_entry_test : (rest : Option ℕ) → told entries x v rest
      ≡ cond (pointwise nat_eq x own) (Some at) rest
  by_entry_test rest =
      ap (λ (n : ℕ). told entries x n rest) (let e : v ≡ suc k = omega (arith, is) in e)
      ∙ told_entry entries x k (own, at) entry rest

  pub said_here : true ≡ pointwise nat_eq own x → (rest : Option ℕ)
      → told entries x v rest ≡ Some at
  said_here same rest =
      by_entry_test rest ∙ ap (λ (b : Bool). cond b (Some at) rest) (turned_true x own same)

  pub said_on : false ≡ pointwise nat_eq own x → (rest : Option ℕ) → told entries x v rest ≡ rest
  said_on differs rest =
      by_entry_test rest
      ∙ ap (λ (b : Bool). cond b (Some at) rest) (turned own x (sym differs))

-- ---- none, and one after the other

long_zeros : (m : ℕ) → length (replicate {A = ℕ} m 0) ≡ m
long_zeros zero = refl
long_zeros (suc m) = ap suc (long_zeros m)

-- a table that holds nothing at any spot
pub table_empty : (table : Table) (m : ℕ) → 1 < m → table.slots.items ≡ replicate m 0
    → table.ranks.entries ≡ [] → table.others.entries ≡ [] → IsTable [] table
table_empty table m some slots ranks others = record {
  some = omega (arith, some, long_zeros m, ap length slots);
  within = λ p k is. absurd (omega (arith, is, nothing p));
  of = λ y a is. let f : None ≡ Some a = sym (none y) ∙ is in absurd (cc);
  finds = λ y. look_none [] table (get_by_bytes y table.others) y
      (spots_of y (length table.slots.items)) refl (none y);
}
  where
    nothing : (p : Spot) → held table p ≡ 0
    nothing (slot p) = ap (λ (s : List ℕ). get_or s p 0) slots ∙ zeros m p
    nothing (ranked r) =
        ap (λ (es : List (ℕ × ℕ)). unwrap_or (lookup (λ (k : ℕ). is_eq (nat_cmp r k)) es) 0) ranks

    none : (y : List ℕ) → get_by_bytes y table.others ≡ None
    none y =
        ap (λ (es : List (Vec ℕ × ℕ)). lookup (λ (k : Vec ℕ).
        is_eq (slice_cmp nat_cmp y k.items)) es) others

take_all : (entries : Entries) → take (length entries) entries ≡ entries
take_all [] = refl
take_all (e ∷ entries) = ap (λ (es : Entries). e ∷ es) (take_all entries)

take_below : (entries : Entries) (y : List ℕ × ℕ) (i : ℕ) (e : List ℕ × ℕ)
    → slice_get entries i ≡ Some e → take i (entries ++ y ∷ []) ≡ take i entries
take_below [] y i e at = absurd (cc)
take_below (z ∷ entries) y zero e at = refl
take_below (z ∷ entries) y (suc i) e at =
    ap (λ (es : Entries). z ∷ es) (take_below entries y i e at)

read_pushed : (entries : Entries) (y : List ℕ × ℕ) (i : ℕ) (e : List ℕ × ℕ)
    → slice_get (entries ++ y ∷ []) i ≡ Some e
    → (slice_get entries i ≡ Some e) ⊎ ((i ≡ length entries) × (e ≡ y))
read_pushed [] y zero e at = inr (refl, (let h : e ≡ y = cc in h))
read_pushed [] y (suc i) e at = absurd (cc)
read_pushed (z ∷ entries) y zero e at = inl at
read_pushed (z ∷ entries) y (suc i) e at = elim (read_pushed entries y i e at) [
  | inl old ↦ inl old
  | inr last ↦ inr (ap suc last.0, last.1)
]

pub new_longer : (entries : Entries) (x : List ℕ) (at : ℕ) → AreNew entries
    → lookup (pointwise nat_eq x) entries ≡ None → AreNew (entries ++ (x, at) ∷ [])
new_longer entries x at news new i e is = elim (read_pushed entries (x, at) i e is) [
  | inl old ↦
      ap (lookup (pointwise nat_eq e.0)) (take_below entries (x, at) i e old) ∙ news i e old
  | inr last ↦
      let key : e.0 ≡ x = ap (λ (p : List ℕ × ℕ). p.0) last.1 in
      let front : take i (entries ++ (x, at) ∷ []) ≡ entries =
      ap (λ (n : ℕ). take n (entries ++ (x, at) ∷ [])) last.0
      ∙ take_front entries ((x, at) ∷ []) in
      ap (λ (z : List ℕ). lookup (pointwise nat_eq z) (take i (entries ++ (x, at) ∷ []))) key
      ∙ ap (lookup (pointwise nat_eq x)) front ∙ new
]
  where
    take_front : (xs ys : Entries) → take (length xs) (xs ++ ys) ≡ xs
    take_front [] ys = refl
    take_front (z ∷ xs) ys = ap (λ (es : Entries). z ∷ es) (take_front xs ys)

take_read : (entries : Entries) (n i : ℕ) (e : List ℕ × ℕ) → slice_get (take n entries) i ≡ Some e
    → (slice_get entries i ≡ Some e) × (take i (take n entries) ≡ take i entries)
take_read [] zero i e at = absurd (cc)
take_read [] (suc n) i e at = absurd (cc)
take_read (z ∷ entries) zero i e at = absurd (cc)
take_read (z ∷ entries) (suc n) zero e at = (at, refl)
take_read (z ∷ entries) (suc n) (suc i) e at =
    let r = take_read entries n i e at in
    (r.0, ap (λ (es : Entries). z ∷ es) r.1)

pub new_taken : (entries : Entries) (n : ℕ) → AreNew entries → AreNew (take n entries)
new_taken entries n news i e at =
    let r = take_read entries n i e at in
    ap (lookup (pointwise nat_eq e.0)) r.1 ∙ news i e r.0

-- ---- one look after the other

here_or_on : (test : List ℕ → Bool) (entries : Entries) (i : ℕ) (own : List ℕ) (at : ℕ)
    → slice_get entries i ≡ Some (own, at)
    → lookup test (drop i entries)
    ≡ cond (test own) (Some at) (lookup test (drop (suc i) entries))
here_or_on test [] i own at is = absurd cc
here_or_on test (z ∷ entries) zero own at is =
    let same : z ≡ (own, at) = cc in
    ap (λ (e : List ℕ × ℕ). cond (test e.0) (Some e.1) (lookup test entries)) same
here_or_on test (z ∷ entries) (suc i) own at is = here_or_on test entries i own at is

module _ (x : List ℕ) (entries : Entries) (i : ℕ) (own : List ℕ) (at : ℕ)
    (is : slice_get entries i ≡ Some (own, at)) where
  abbrev later : Option ℕ
  later = lookup (pointwise nat_eq x) (drop (suc i) entries)

  pub search_here : true ≡ pointwise nat_eq own x
      → Some at ≡ lookup (pointwise nat_eq x) (drop i entries)
  search_here same =
      sym (here_or_on (pointwise nat_eq x) entries i own at is
      ∙ ap (λ (b : Bool). cond b (Some at) later) (turned_true x own same))

  pub search_on : false ≡ pointwise nat_eq own x
      → lookup (pointwise nat_eq x) (drop (i + 1) entries)
      ≡ lookup (pointwise nat_eq x) (drop i entries)
  search_on differs =
      ap (λ (k : ℕ). lookup (pointwise nat_eq x) (drop k entries))
      (let next : i + 1 ≡ suc i = omega arith in next)
      ∙ sym (here_or_on (pointwise nat_eq x) entries i own at is
      ∙ ap (λ (b : Bool). cond b (Some at) later) (turned own x (sym differs)))

-- ---- the table of a list, entry by entry

take_next : (entries : Entries) (n : ℕ) (y : List ℕ × ℕ) → slice_get entries n ≡ Some y
    → (take (suc n) entries ≡ take n entries ++ y ∷ []) × (length (take n entries) ≡ n)
take_next [] n y at = absurd (cc)
take_next (z ∷ entries) zero y at =
    let same : z ≡ y = cc in
    (ap (λ (e : List ℕ × ℕ). e ∷ []) same, refl)
take_next (z ∷ entries) (suc n) y at =
    let rest = take_next entries n y at in
    (ap (λ (es : Entries). z ∷ es) rest.0, ap suc rest.1)

pub table_next : (entries : Entries) (n : ℕ) (x : List ℕ) (at : ℕ) (old new : Table)
    → slice_get entries n ≡ Some (x, at) → AreNew entries → IsTable (take n entries) old
    → IsPut old new n x at → IsTable (take (n + 1) entries) new
table_next entries n x at old new read news table put =
    let next = take_next entries n (x, at) read in
    let count : n ≡ length (take n entries) = sym next.1 in
    let one : take (n + 1) entries ≡ take n entries ++ (x, at) ∷ [] =
    ap (λ (k : ℕ). take k entries) (let k : n + 1 ≡ suc n = omega arith in k) ∙ next.0 in
    subst (λ (es : Entries). IsTable es new) (sym one)
    (table_longer (take n entries) old table x at (news n (x, at) read) new
    (subst (λ (k : ℕ). IsPut old new k x at) count put))

-- the same of a table that holds the same
pub table_alike : (entries : Entries) (old new : Table) → IsAlike old new → IsTable entries old
    → IsTable entries new
table_alike entries old new alike table = record {
  some = omega (arith, table.some, ap length alike.slots);
  within = λ p k is. table.within p k (sym (holds p) ∙ is);
  of = λ x at is. table.of x at (sym (gives x) ∙ is);
  finds = λ x. found x;
}
  where
    gives : (x : List ℕ) → get_by_bytes x new.others ≡ get_by_bytes x old.others
    gives x =
        ap (λ (es : List (Vec ℕ × ℕ)). lookup (λ (k : Vec ℕ).
        is_eq (slice_cmp nat_cmp x k.items)) es) alike.others

    holds : (p : Spot) → held new p ≡ held old p
    holds (slot p) = ap (λ (s : List ℕ). get_or s p 0) alike.slots
    holds (ranked r) =
        ap (λ (es : List (ℕ × ℕ)). unwrap_or (lookup (λ (k : ℕ). is_eq (nat_cmp r k)) es) 0)
        alike.ranks

    looks : (other : Option ℕ) (x : List ℕ) (ps : List Spot)
        → look entries new other x ps ≡ look entries old other x ps
    looks other x [] = refl
    looks other x (p ∷ ps) =
        ap (λ (v : ℕ). told entries x v (look entries new other x ps)) (holds p)
        ∙ ap (told entries x (held old p)) (looks other x ps)

    found : (x : List ℕ) → look entries new (get_by_bytes x new.others) x
        (spots_of x (length new.slots.items)) ≡ lookup (pointwise nat_eq x) entries
    found x =
        looks (get_by_bytes x new.others) x (spots_of x (length new.slots.items))
        ∙ ap (λ (r : Option ℕ). look entries old r x
        (spots_of x (length new.slots.items))) (gives x)
        ∙ ap (λ (n : ℕ). look entries old (get_by_bytes x old.others) x
        (spots_of x n)) (ap length alike.slots)
        ∙ table.finds x
