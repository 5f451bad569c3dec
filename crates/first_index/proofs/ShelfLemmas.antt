-- References on the shelf: those of one group stand together, and references that tie are equal.
use Rattle.std.proofs.Common.{◌≡◌, ℕ, ◌<◌, ◌≤◌, Bool, true, false, cond, not, ◌&&◌, eqb, ltb, List}
use Rattle.std.proofs.Common.{length, get_or, Some, Ordering, slice_get, refl, sym, ap, ◌∙◌, subst}
use Rattle.std.proofs.Common.{arith}
use Rattle.std.specs.Cmp.{IsTotalOrder, IsStrictWeakOrder}
use Rattle.std.specs.Cmp.Lexicographic.{texts_ties}
use Rattle.std.specs.List.Sorted.{IsSortedBy, IsPartitionedBy, IsPartitionPoint}
use Rattle.std.specs.Ordering.{nat_cmp, ordering_then, ordering_reverse, is_lt, is_eq}
use Rattle.std.proofs.lemmas.Bool.Decides.{nat_tests}
use Rattle.std.proofs.lemmas.Cmp.{then_total, on_total, back_total, nat_cmp_total}
use Rattle.std.proofs.lemmas.Cmp.{nat_list_cmp_total, tied_itself}
use Rattle.std.proofs.lemmas.List.Sorted.{ranks_by, sorted_far}
use Rattle.std.proofs.lemmas.Map.Lookups.{exact_unsigned, exact_bytes}
use Rattle.std.proofs.lemmas.Option.{get_or_from_slice_get, slice_get_within, slice_get-get_or}
use Rattle.geo_addr.specs.Ranges.{Ends, IsRange, size}
use Rattle.geo_terms.specs.PlaceForm.{same_text}
use Rattle.geo_terms.specs.Precedence.{reference_cmp, reference_before, text_cmp}
use Rattle.geo_terms.specs.TotalOrders.{reference_total}
use Rattle.geo_terms.specs.declared.statement.Reference.{Reference}
use Rattle.first_index.specs.Links.{AreShelved, EndsAt, IsEnd}
use Rattle.first_index.specs.Shelf.{Key, family, key_of, key_cmp, shelf_cmp, is_of, same_group}

pub key_total : IsTotalOrder key_cmp
unfolding key_cmp
key_total =
    then_total (on_total (λ (k : Key). k.url) nat_list_cmp_total)
    (then_total (on_total (λ (k : Key). k.family) nat_cmp_total)
    (on_total (λ (k : Key). k.first) nat_cmp_total))

pub shelf_total : IsTotalOrder shelf_cmp
unfolding shelf_cmp
shelf_total = then_total (on_total key_of key_total)
    (back_total (on_total (λ (r : Reference). r.range.last) nat_cmp_total))

pub reference_weak : IsStrictWeakOrder reference_before
reference_weak = ranks_by reference_total (λ (r : Reference). r)

abbrev key_before : Key → Key → Bool
key_before x y = is_lt (key_cmp x y)

key_weak : IsStrictWeakOrder key_before
key_weak = ranks_by key_total (λ (k : Key). k)

equal_first : (x y : Ordering) → ordering_then x y ≡ Ordering.Equal → x ≡ Ordering.Equal
equal_first Ordering.Less y e = e
equal_first Ordering.Equal y e = refl
equal_first Ordering.Greater y e = e

equal_then : (x y : Ordering) → ordering_then x y ≡ Ordering.Equal → y ≡ Ordering.Equal
equal_then Ordering.Less y e = absurd cc
equal_then Ordering.Equal y e = e
equal_then Ordering.Greater y e = absurd cc

then_less : (x y : Ordering) → is_lt (ordering_then x y) ≡ false → is_lt x ≡ false
then_less Ordering.Less y e = absurd (let f : true ≡ false = e in cc)
then_less Ordering.Equal y e = refl
then_less Ordering.Greater y e = refl

tied : (a b : Ordering) → a ≡ ordering_reverse b → is_lt a ≡ false → is_lt b ≡ false
    → a ≡ Ordering.Equal
tied Ordering.Less b e la lb = absurd cc
tied Ordering.Equal b e la lb = refl
tied Ordering.Greater Ordering.Less e la lb = absurd cc
tied Ordering.Greater Ordering.Equal e la lb = absurd cc
tied Ordering.Greater Ordering.Greater e la lb = absurd cc

pub exact_text : (x y : List ℕ) → same_text x y ≡ true → x ≡ y
exact_text x y e = exact_bytes x y (equal (text_cmp x y) (sym (texts_ties x y) ∙ e))
  where
    equal : (o : Ordering) → is_eq o ≡ true → o ≡ Ordering.Equal
    equal Ordering.Less f = absurd (let g : false ≡ true = f in cc)
    equal Ordering.Equal f = refl
    equal Ordering.Greater f = absurd (let g : false ≡ true = f in cc)

pub same_itself : (x : List ℕ) → same_text x x ≡ true
same_itself x = texts_ties x x ∙ ap is_eq (tied_itself nat_list_cmp_total x)

pub and_left : (a b : Bool) → (a && b) ≡ true → a ≡ true
and_left true b e = refl
and_left false b e = absurd (let f : false ≡ true = e in cc)

pub and_right : (a b : Bool) → (a && b) ≡ true → b ≡ true
and_right true b e = e
and_right false b e = absurd (let f : false ≡ true = e in cc)

pub url_of : (url : List ℕ) (f : ℕ) (r : Reference) → is_of url f r ≡ true → r.url ≡ url
url_of url f r e = exact_text r.url url (and_left (same_text r.url url) (eqb (family r.range) f) e)

pub family_of : (url : List ℕ) (f : ℕ) (r : Reference) → is_of url f r ≡ true → family r.range ≡ f
family_of url f r e = let g : eqb (family r.range) f ≡ true =
    and_right (same_text r.url url) (eqb (family r.range) f) e in grind (arith, nat_tests)

pub is_of_both : (url : List ℕ) (f : ℕ) (r : Reference) → r.url ≡ url → family r.range ≡ f
    → is_of url f r ≡ true
is_of_both url f r e g =
    let s : same_text r.url url ≡ true =
    subst (λ (u : List ℕ). same_text r.url u ≡ true) e (same_itself r.url) in
    let t : eqb (family r.range) f ≡ true = grind (arith, nat_tests) in
    rw s t

pub group_back : (x y : Reference) → same_group x y ≡ true → same_group y x ≡ true
group_back x y e = is_of_both x.url (family x.range) y (sym (url_of y.url (family y.range) x e))
    (sym (family_of y.url (family y.range) x e))

pub group_on : (x y z : Reference) → same_group x y ≡ true → same_group y z ≡ true
    → same_group x z ≡ true
group_on x y z e f = is_of_both z.url (family z.range) x
    (url_of y.url (family y.range) x e ∙ url_of z.url (family z.range) y f)
    (family_of y.url (family y.range) x e ∙ family_of z.url (family z.range) y f)

pub group_itself : (x : Reference) → same_group x x ≡ true
group_itself x = is_of_both x.url (family x.range) x refl refl

pub of_group : (url : List ℕ) (f : ℕ) (x y : Reference) → same_group x y ≡ true
    → is_of url f y ≡ true → is_of url f x ≡ true
of_group url f x y e g = is_of_both url f x (url_of y.url (family y.range) x e ∙ url_of url f y g)
    (family_of y.url (family y.range) x e ∙ family_of url f y g)

pub group_of : (url : List ℕ) (f : ℕ) (x y : Reference) → is_of url f x ≡ true
    → is_of url f y ≡ true → same_group x y ≡ true
group_of url f x y e g = is_of_both y.url (family y.range) x
    (url_of url f x e ∙ sym (url_of url f y g)) (family_of url f x e ∙ sym (family_of url f y g))

not_less : (m n : ℕ) → is_lt (nat_cmp m n) ≡ false → n ≤ m
not_less m n h =
    elim (ltb m n) as (λ b. ltb m n ≡ b
    → is_lt (cond b Ordering.Less (cond (eqb m n) Ordering.Equal Ordering.Greater)) ≡ false
    → n ≤ m) [
      | true ↦ λ e k. absurd (let t : true ≡ false = k in cc)
      | false ↦ λ e k. grind (arith, nat_tests)
    ] refl h

is_less : (m n : ℕ) → is_lt (nat_cmp m n) ≡ true → m < n
is_less m n h =
    elim (ltb m n) as (λ b. ltb m n ≡ b
    → is_lt (cond b Ordering.Less (cond (eqb m n) Ordering.Equal Ordering.Greater)) ≡ true
    → m < n) [
      | true ↦ λ e k. grind (arith, nat_tests)
      | false ↦ λ e. elim (eqb m n) as
          (λ b. is_lt (cond b Ordering.Equal Ordering.Greater) ≡ true → m < n) [
            | true ↦ λ k. absurd (let t : false ≡ true = k in cc)
            | false ↦ λ k. absurd (let t : false ≡ true = k in cc)
          ]
    ] refl h

-- a key between two keys of one URL and one family is of them too
between : (x y z : Key) → key_before y x ≡ false → key_before z y ≡ false → x.url ≡ z.url
    → x.family ≡ z.family → (y.url ≡ z.url) × (y.family ≡ z.family)
unfolding key_cmp
between x y z low high url fam =
    let a : is_lt (text_cmp y.url x.url) ≡ false =
    then_less (text_cmp y.url x.url)
    (ordering_then (nat_cmp y.family x.family) (nat_cmp y.first x.first)) low in
    let b : is_lt (text_cmp z.url y.url) ≡ false =
    then_less (text_cmp z.url y.url)
    (ordering_then (nat_cmp z.family y.family) (nat_cmp z.first y.first)) high in
    let c : is_lt (text_cmp y.url z.url) ≡ false =
    subst (λ (u : List ℕ). is_lt (text_cmp y.url u) ≡ false) url a in
    let urls : text_cmp y.url z.url ≡ Ordering.Equal =
    tied (text_cmp y.url z.url) (text_cmp z.url y.url)
    (nat_list_cmp_total.antisymm y.url z.url) c b in
    let same : y.url ≡ z.url = exact_bytes y.url z.url urls in
    let back : text_cmp z.url y.url ≡ Ordering.Equal =
    ap (text_cmp z.url) same ∙ tied_itself nat_list_cmp_total z.url in
    let low' : is_lt (ordering_then (nat_cmp y.family x.family) (nat_cmp y.first x.first)) ≡ false =
    subst (λ o. is_lt (ordering_then o
    (ordering_then (nat_cmp y.family x.family) (nat_cmp y.first x.first))) ≡ false)
    (ap (text_cmp y.url) url ∙ urls) low in
    let high' : is_lt (ordering_then (nat_cmp z.family y.family) (nat_cmp z.first y.first))
    ≡ false =
    subst (λ o. is_lt (ordering_then o
    (ordering_then (nat_cmp z.family y.family) (nat_cmp z.first y.first))) ≡ false) back high in
    let d : is_lt (nat_cmp y.family x.family) ≡ false =
    then_less (nat_cmp y.family x.family) (nat_cmp y.first x.first) low' in
    let e : is_lt (nat_cmp z.family y.family) ≡ false =
    then_less (nat_cmp z.family y.family) (nat_cmp z.first y.first) high' in
    let f : x.family ≤ y.family = not_less y.family x.family d in
    let g : y.family ≤ z.family = not_less z.family y.family e in
    (same, omega arith)

-- the order of the keys of references on the shelf
pub keys_ascend : (rs : List Reference) → AreShelved rs → (i j : ℕ) (x y : Reference) → i ≤ j
    → slice_get rs i ≡ Some x → slice_get rs j ≡ Some y → key_before (key_of y) (key_of x) ≡ false
unfolding shelf_cmp
keys_ascend rs up i j x y le at_i at_j =
    then_less (key_cmp (key_of y) (key_of x)) (nat_cmp x.range.last y.range.last)
    (up i j x y le at_i at_j)

-- what stands between two of one group is of it
pub between_group : (rs : List Reference) → AreShelved rs → (i j k : ℕ) (x y z : Reference) → i ≤ j
    → j ≤ k → slice_get rs i ≡ Some x → slice_get rs j ≡ Some y → slice_get rs k ≡ Some z
    → same_group x z ≡ true → same_group y z ≡ true
between_group rs up i j k x y z le le' at_i at_j at_k e =
    let h = between (key_of x) (key_of y) (key_of z) (keys_ascend rs up i j x y le at_i at_j)
    (keys_ascend rs up j k y z le' at_j at_k) (url_of z.url (family z.range) x e)
    (family_of z.url (family z.range) x e) in
    is_of_both z.url (family z.range) y h.0 h.1

-- a sort by that order puts them on the shelf
pub shelved : (rs : List Reference) → IsSortedBy (λ x y. is_lt (shelf_cmp x y)) rs → AreShelved rs
shelved rs sorted i j x y le at_i at_j =
    let a : get_or rs i x ≡ x = get_or_from_slice_get rs i x x at_i in
    let b : get_or rs j x ≡ y = get_or_from_slice_get rs j y x at_j in
    let within : j < length rs = slice_get_within rs j y at_j in
    let far = sorted_far (λ (x y : Reference). is_lt (shelf_cmp x y))
    (ranks_by shelf_total (λ (r : Reference). r)) rs sorted i j x le within in
    subst (λ (r : Reference). is_lt (shelf_cmp y r) ≡ false) a
    (subst (λ (r : Reference). is_lt (shelf_cmp r (get_or rs i x)) ≡ false) b far)

-- those that a key does not stand before come first
pub parted : (rs : List Reference) (key : Key) → AreShelved rs
    → IsPartitionedBy (λ r. not (key_before key (key_of r))) rs
parted rs key up i j d le below passes =
    let within : i < length rs = omega arith in
    let y : Reference = get_or rs j d in
    let x : Reference = get_or rs i d in
    let low : key_before key (key_of y) ≡ false = unnot (key_before key (key_of y)) passes in
    let step : key_before (key_of y) (key_of x) ≡ false =
    keys_ascend rs up i j x y le (slice_get-get_or rs i d within)
    (slice_get-get_or rs j d below) in
    ap not (key_weak.chain key (key_of y) (key_of x) low step)
  where
    unnot : (b : Bool) → not b ≡ true → b ≡ false
    unnot true e = absurd (let f : false ≡ true = e in cc)
    unnot false e = refl

-- of those at or before a key, those of its URL and family come last
pub ends_at : (rs : List Reference) (key : Key) (end : ℕ) → AreShelved rs → IsEnd key rs end
    → EndsAt key.url key.family rs end
ends_at rs key end up at i j x y le below at_i at_j other =
    elim (is_of key.url key.family x) as (λ b. is_of key.url key.family x ≡ b → b ≡ false) [
      | true ↦ λ e.
          let h = between (key_of x) (key_of y) key (keys_ascend rs up i j x y le at_i at_j)
          (at.0 j y below at_j) (url_of key.url key.family x e)
          (family_of key.url key.family x e) in
          let is : is_of key.url key.family y ≡ true = is_of_both key.url key.family y h.0 h.1 in
          absurd (let f : false ≡ true = sym other ∙ is in cc)
      | false ↦ λ e. refl
    ] refl

-- the end that a search by halving finds
pub end_found : (rs : List Reference) (key : Key) (end : ℕ) → end ≤ length rs
    → IsPartitionPoint (λ (r : Reference). not (key_before key (key_of r)) ≡ true)
    (λ r. not (key_before key (key_of r)) ≡ false) rs end → IsEnd key rs end
end_found rs key end le found = (
  (λ j y lt at. unnot_false (key_before key (key_of y))
      (subst (λ (r : Reference). not (key_before key (key_of r)) ≡ true)
      (get_or_from_slice_get rs j y y at) (found.0 j y (omega arith) lt))),
  (λ j y from at. unnot_true (key_before key (key_of y))
      (subst (λ (r : Reference). not (key_before key (key_of r)) ≡ false)
      (get_or_from_slice_get rs j y y at) (found.1 j y from (slice_get_within rs j y at)))),
)
  where
    unnot_false : (b : Bool) → not b ≡ true → b ≡ false
    unnot_false true e = absurd (let f : false ≡ true = e in cc)
    unnot_false false e = refl

    unnot_true : (b : Bool) → not b ≡ false → b ≡ true
    unnot_true true e = refl
    unnot_true false e = absurd (let f : true ≡ false = e in cc)

-- of the references of a key's URL and family, those before the end begin at or before it
pub begins_before : (key : Key) (r : Reference) → key_before key (key_of r) ≡ false
    → is_of key.url key.family r ≡ true → r.range.first ≤ key.first
unfolding key_cmp
begins_before key r h e = by_first key r (url_of key.url key.family r e)
    (family_of key.url key.family r e) h
  where
    by_first : (key : Key) (r : Reference) → r.url ≡ key.url → family r.range ≡ key.family
        → key_before key (key_of r) ≡ false → r.range.first ≤ key.first
    by_first key r u f h =
        let a : text_cmp key.url r.url ≡ Ordering.Equal =
        ap (text_cmp key.url) u ∙ tied_itself nat_list_cmp_total key.url in
        let b : nat_cmp key.family (family r.range) ≡ Ordering.Equal =
        ap (nat_cmp key.family) f ∙ tied_itself nat_cmp_total key.family in
        let k : is_lt (nat_cmp key.first r.range.first) ≡ false =
        subst (λ o. is_lt (ordering_then o (nat_cmp key.first r.range.first)) ≡ false) b
        (subst (λ o. is_lt (ordering_then o
        (ordering_then (nat_cmp key.family (family r.range)) (nat_cmp key.first r.range.first)))
        ≡ false) a h) in
        not_less key.first r.range.first k

pub begins_behind : (key : Key) (r : Reference) → key_before key (key_of r) ≡ true
    → is_of key.url key.family r ≡ true → key.first < r.range.first
unfolding key_cmp
begins_behind key r h e = by_first key r (url_of key.url key.family r e)
    (family_of key.url key.family r e) h
  where
    by_first : (key : Key) (r : Reference) → r.url ≡ key.url → family r.range ≡ key.family
        → key_before key (key_of r) ≡ true → key.first < r.range.first
    by_first key r u f h =
        let a : text_cmp key.url r.url ≡ Ordering.Equal =
        ap (text_cmp key.url) u ∙ tied_itself nat_list_cmp_total key.url in
        let b : nat_cmp key.family (family r.range) ≡ Ordering.Equal =
        ap (nat_cmp key.family) f ∙ tied_itself nat_cmp_total key.family in
        let k : is_lt (nat_cmp key.first r.range.first) ≡ true =
        subst (λ o. is_lt (ordering_then o (nat_cmp key.first r.range.first)) ≡ true) b
        (subst (λ o. is_lt (ordering_then o
        (ordering_then (nat_cmp key.family (family r.range)) (nat_cmp key.first r.range.first)))
        ≡ true) a h) in
        is_less key.first r.range.first k

-- references that tie are equal
same_range : (x y : Ends) → IsRange x → IsRange y → size x ≡ size y → x.first ≡ y.first → x ≡ y
same_range x y h k s f =
    let order : x.first ≤ x.last = h.ordered in
    let order' : y.first ≤ y.last = k.ordered in
    let l : x.last ≡ y.last = omega arith in
    ap (λ (p : ℕ). record { first = p; last = x.last }) f
    ∙ ap (λ (p : ℕ). record { first = y.first; last = p }) l

same_reference : (x y : Reference) → IsRange x.range → IsRange y.range
    → reference_cmp x y ≡ Ordering.Equal → x ≡ y
unfolding reference_cmp
same_reference x y h k e =
    let sizes : size x.range ≡ size y.range =
    exact_unsigned _ _ (equal_first (nat_cmp (size x.range) (size y.range)) _ e) in
    let e1 = equal_then (nat_cmp (size x.range) (size y.range)) _ e in
    let dates : y.modified ≡ x.modified =
    exact_unsigned _ _ (equal_first (nat_cmp y.modified x.modified) _ e1) in
    let e2 = equal_then (nat_cmp y.modified x.modified) _ e1 in
    let firsts : x.range.first ≡ y.range.first =
    exact_unsigned _ _ (equal_first (nat_cmp x.range.first y.range.first) _ e2) in
    let e3 = equal_then (nat_cmp x.range.first y.range.first) _ e2 in
    let urls : x.url ≡ y.url = exact_bytes _ _ (equal_first (text_cmp x.url y.url) _ e3) in
    let e4 = equal_then (text_cmp x.url y.url) _ e3 in
    let slots : x.slot ≡ y.slot = exact_bytes _ _ (equal_first (text_cmp x.slot y.slot) _ e4) in
    let lines : x.line ≡ y.line = exact_unsigned _ _ (equal_then (text_cmp x.slot y.slot) _ e4) in
    ap (λ (s : List ℕ). record {
      slot = s;
      line = x.line;
      range = x.range;
      modified = x.modified;
      url = x.url;
    }) slots
    ∙ ap (λ (l : ℕ). record {
      slot = y.slot;
      line = l;
      range = x.range;
      modified = x.modified;
      url =
          x.url;
    }) lines
    ∙ ap (λ (r : Ends). record {
      slot = y.slot;
      line = y.line;
      range = r;
      modified = x.modified;
      url = x.url;
    }) (same_range x.range y.range h k sizes firsts)
    ∙ ap (λ (m : ℕ). record {
      slot = y.slot;
      line = y.line;
      range = y.range;
      modified = m;
      url =
          x.url;
    }) (sym dates)
    ∙ ap (λ (u : List ℕ). record {
      slot = y.slot;
      line = y.line;
      range = y.range;
      modified =
          y.modified;
      url = u;
    }) urls

pub tie : (x y : Reference) → IsRange x.range → IsRange y.range → reference_before x y ≡ false
    → reference_before y x ≡ false → x ≡ y
tie x y h k before after = same_reference x y h k
    (tied (reference_cmp x y) (reference_cmp y x) (reference_total.antisymm x y) before after)
