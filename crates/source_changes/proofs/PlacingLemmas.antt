-- The steps by which things that stand behind a shelf are put over others, and then between them.
use Rattle.std.proofs.Common.{◌≡◌, ℕ, zero, suc, ◌+◌, ◌-◌, ◌<◌, ◌≤◌, true, false, cond, List, []}
use Rattle.std.proofs.Common.{◌∷◌, ◌++◌, length, take, drop, get_or, set, None, Some, Ok, Err, Less}
use Rattle.std.proofs.Common.{Equal, Greater}
use Rattle.std.proofs.Common.{slice_get, refl, sym, ap, ◌∙◌, subst, append-nil, is_eq, arith}
use Rattle.std.proofs.Math.Seq.{drop-append_seam, take-append_seam}
use Rattle.std.proofs.lemmas.Cmp.{nat_list_cmp_total}
use Rattle.std.proofs.lemmas.List.{append_assoc, length-append, set-append_left}
use Rattle.std.proofs.lemmas.List.{length-set, length-take-le, take-append-drop}
use Rattle.std.proofs.lemmas.List.Elements.{All-from_recursion}
use Rattle.std.proofs.lemmas.Option.{slice_get-get_or}
use Rattle.std.specs.Cmp.Lexicographic.{texts_ties}
use Rattle.std.specs.List.{AllByRecursion, remove}
use Rattle.std.specs.List.Sorted.{IsBinarySearchResult}
use Rattle.std.specs.Ordering.{match_ordering}
use Rattle.geo_terms.specs.PlaceForm.{same_text}
use Rattle.geo_terms.specs.Precedence.{text_cmp}
use Rattle.geo_terms.specs.SlotOrder.{AreInOrder, placed}
use Rattle.geo_terms.proofs.SlotLemmas.{Ascend, ascend, placed_in_order}
use Rattle.source_changes.specs.Changes.{named}
use Rattle.source_changes.specs.Placing.{AreApart, HaveTurned, IsPutOver, all_placed}
use Rattle.source_changes.proofs.ShelfLemmas.{found_within, missed_within, not_found, put_here}
use Rattle.source_changes.proofs.ShelfLemmas.{put_there, there}
use Rattle.source_changes.proofs.Swaps.{placed_beside}
use Rattle.source_changes.proofs.Together.{placed_swapped}

-- a list that has some is one less and a last one
pub record HasLast {X : Type 0} (xs : List X) : Type 0 where
  pub front : List X
  pub last : X
  pub is : xs ≡ front ++ (last ∷ [])

pub last_of : {X : Type 0} (xs : List X) → 0 < length xs → HasLast xs
last_of [] some = absurd (omega arith)
last_of (x ∷ []) some = record { front = []; last = x; is = refl }
last_of (x ∷ y ∷ ys) some =
    let rest = last_of (y ∷ ys) (omega arith) in
    record { front = x ∷ rest.front; last = rest.last; is = ap (λ zs. x ∷ zs) rest.is }

pub get_here : {X : Type 0} (xs ys : List X) (x d : X) → get_or (xs ++ x ∷ ys) (length xs) d ≡ x
get_here [] ys x d = refl
get_here (z ∷ zs) ys x d = get_here zs ys x d

slice_here : {X : Type 0} (xs ys : List X) (x : X)
    → slice_get (xs ++ x ∷ ys) (length xs) ≡ Some x
slice_here [] ys x = refl
slice_here (z ∷ zs) ys x = slice_here zs ys x

remove_here : {X : Type 0} (xs ys : List X) (x : X) → remove (xs ++ x ∷ ys) (length xs) ≡ xs ++ ys
remove_here [] ys x = refl
remove_here (z ∷ zs) ys x = ap (λ l. z ∷ l) (remove_here zs ys x)

no_length : {X : Type 0} (xs : List X) → length xs ≡ 0 → xs ≡ []
no_length [] e = refl
no_length (x ∷ xs) e = absurd (omega (arith, e))

-- a list that is written through a slice of it
abbrev written : {X : Type 0} → (first end : ℕ) → (seen turned : List X) → List X
written first end seen turned =
    take first seen ++ (turned ++ drop (end - first) (drop first seen))

-- parts of a list that changed places, where it was written through a slice of it
pub turned_parts : {X : Type 0} (a b c d now seen turned : List X) (first middle end len : ℕ)
    → now ≡ a ++ (b ++ (c ++ d)) → length a ≡ first → length a + length b ≡ middle
    → length a + length b + length c ≡ end → seen ≡ now → len ≡ length now
    → turned ≡ drop (length (take (end - first) (drop first seen)) - (end - middle))
    (take (end - first) (drop first seen))
    ++ take (length (take (end - first) (drop first seen)) - (end - middle))
    (take (end - first) (drop first seen))
    → take len (written first end seen turned
    ++ drop (length (written first end seen turned)) now) ≡ a ++ (c ++ (b ++ d))
turned_parts {X} a b c d now seen turned first middle end len is at mid far same long rotated =
    (λ i. take (len_is i) (written first end seen turned
    ++ drop (length (written first end seen turned)) now))
    ∙ take-append_seam (written first end seen turned)
    (drop (length (written first end seen turned)) now) ∙ whole_is
  where
    front_is : take first seen ≡ a
    front_is = (λ i. take (sym at i) ((same ∙ is) i)) ∙ take-append_seam a (b ++ (c ++ d))

    behind : drop first seen ≡ (b ++ c) ++ d
    behind =
        (λ i. drop (sym at i) ((same ∙ is) i)) ∙ drop-append_seam a (b ++ (c ++ d))
        ∙ sym (append_assoc b c d)

    count : end - first ≡ length (b ++ c)
    count = omega (arith, at, far, length-append b c)

    part : take (end - first) (drop first seen) ≡ b ++ c
    part = (λ i. take (count i) (behind i)) ∙ take-append_seam (b ++ c) d

    rest : drop (end - first) (drop first seen) ≡ d
    rest = (λ i. drop (count i) (behind i)) ∙ drop-append_seam (b ++ c) d

    cut : length (take (end - first) (drop first seen)) - (end - middle) ≡ length b
    cut = omega (arith, at, mid, far, ap length part ∙ length-append b c)

    turned_is : turned ≡ c ++ b
    turned_is =
        rotated ∙ (λ i. drop (cut i) (part i) ++ take (cut i) (part i))
        ∙ (λ i. drop-append_seam b c i ++ take-append_seam b c i)

    whole_is : written first end seen turned ≡ a ++ (c ++ (b ++ d))
    whole_is =
        (λ i. front_is i ++ (turned_is i ++ rest i)) ∙ ap (λ l. a ++ l) (append_assoc c b d)

    len_is : len ≡ length (written first end seen turned)
    len_is =
        omega (
          arith,
          long,
          ap length is,
          ap length whole_is,
          length-append a (b ++ (c ++ d)),
          length-append b (c ++ d),
          length-append c d,
          length-append a (c ++ (b ++ d)),
          length-append c (b ++ d),
          length-append b d,
        )

module _ {X : Type 0} (name : X → List ℕ) where
  in_order : (xs : List X) → Ascend name xs → AreInOrder name xs
  in_order [] h i j d lt below = absurd (omega arith)
  in_order (x ∷ xs) h zero zero d lt below = absurd (omega arith)
  in_order (x ∷ xs) h zero (suc j) d lt below =
      All-from_recursion (λ y. text_cmp (name x) (name y) ≡ Less) xs h.0 j d (omega arith)
  in_order (x ∷ xs) h (suc i) zero d lt below = absurd (omega arith)
  in_order (x ∷ xs) h (suc i) (suc j) d lt below = in_order xs h.1 i j d (omega arith) (omega arith)

  suffix : (xs ys : List X) → Ascend name (xs ++ ys) → Ascend name ys
  suffix [] ys h = h
  suffix (x ∷ xs) ys h = suffix xs ys h.1

  each_first : (P : X → Type 0) (xs ys : List X) → AllByRecursion P (xs ++ ys)
      → AllByRecursion P xs
  each_first P [] ys h = tt
  each_first P (z ∷ zs) ys h = (h.0, each_first P zs ys h.1)

  prefix : (xs ys : List X) → Ascend name (xs ++ ys) → Ascend name xs
  prefix [] ys h = tt
  prefix (z ∷ zs) ys h =
      (each_first (λ y. text_cmp (name z) (name y) ≡ Less) zs ys h.0, prefix zs ys h.1)

  fewer : (P : X → Type 0) (xs ys : List X) (x : X) → AllByRecursion P (xs ++ x ∷ ys)
      → AllByRecursion P (xs ++ ys)
  fewer P [] ys x h = h.1
  fewer P (z ∷ zs) ys x h = (h.0, fewer P zs ys x h.1)

  without : (xs ys : List X) (x : X) → Ascend name (xs ++ x ∷ ys) → Ascend name (xs ++ ys)
  without [] ys x h = h.1
  without (z ∷ zs) ys x h =
      (fewer (λ y. text_cmp (name z) (name y) ≡ Less) zs ys x h.0, without zs ys x h.1)

  below_all : (z x : X) (ys : List X) → text_cmp (name z) (name x) ≡ Less
      → AllByRecursion (λ y. text_cmp (name x) (name y) ≡ Less) ys
      → AllByRecursion (λ y. text_cmp (name z) (name y) ≡ Less) ys
  below_all z x [] e h = tt
  below_all z x (y ∷ ys) e h =
      (nat_list_cmp_total.trans (name z) (name x) (name y) e h.0, below_all z x ys e h.1)

  -- what comes behind a member may be other, where it is above the member too
  all_but : (z x : X) (xs ys zs : List X)
      → AllByRecursion (λ y. text_cmp (name z) (name y) ≡ Less) (xs ++ x ∷ ys)
      → AllByRecursion (λ y. text_cmp (name x) (name y) ≡ Less) zs
      → AllByRecursion (λ y. text_cmp (name z) (name y) ≡ Less) (xs ++ x ∷ zs)
  all_but z x [] ys zs h g = (h.0, below_all z x zs h.0 g)
  all_but z x (w ∷ ws) ys zs h g = (h.0, all_but z x ws ys zs h.1 g)

  other_behind : (x : X) (xs ys zs : List X) → Ascend name (xs ++ x ∷ ys)
      → Ascend name (x ∷ zs) → Ascend name (xs ++ x ∷ zs)
  other_behind x [] ys zs h g = g
  other_behind x (w ∷ ws) ys zs h g =
      (all_but w x ws ys zs h.0 g.0, other_behind x ws ys zs h.1 g)

  -- those above a member have other names
  apart_still : (x : X) (left rest : List X)
      → AllByRecursion (λ y. text_cmp (name x) (name y) ≡ Less) rest
      → AreApart name left rest → AreApart name (placed name x left) rest
  apart_still x left [] up h = tt
  apart_still x left (y ∷ ys) up h =
      let other : same_text (name x) (name y) ≡ false =
      texts_ties (name x) (name y) ∙ ap is_eq up.0 in
      (placed_beside name x (name y) left other ∙ h.0, apart_still x left ys up.1 h.1)

  under_all : (x : X) (rest left : List X)
      → AllByRecursion (λ y. text_cmp (name x) (name y) ≡ Less) rest
      → all_placed name rest (placed name x left) ≡ placed name x (all_placed name rest left)
  under_all x [] left up = refl
  under_all x (y ∷ ys) left up =
      ap (placed name y) (under_all x ys left up.1)
      ∙ placed_swapped name y x (all_placed name ys left) up.0

  put_first : (x : X) (front rest left : List X)
      → AllByRecursion (λ y. text_cmp (name x) (name y) ≡ Less) rest
      → all_placed name (front ++ rest) (placed name x left)
      ≡ all_placed name (front ++ x ∷ rest) left
  put_first x [] rest left up = under_all x rest left up
  put_first x (y ∷ ys) rest left up = ap (placed name y) (put_first x ys rest left up)

  all_in_turn : (xs ys left : List X) → all_placed name (xs ++ ys) left
      ≡ all_placed name xs (all_placed name ys left)
  all_in_turn [] ys left = refl
  all_in_turn (x ∷ xs) ys left = ap (placed name x) (all_in_turn xs ys left)

  -- so many of the first are apart from what a list is apart from
  none_taken : (n : List ℕ) (i : ℕ) (xs : List X) → named name n xs ≡ None
      → named name n (take i xs) ≡ None
  none_taken n zero xs h = refl
  none_taken n (suc i) [] h = refl
  none_taken n (suc i) (x ∷ xs) h =
      (elim (same_text (name x) n) as (λ b. cond b (Some x) (named name n xs) ≡ None
      → cond b (Some x) (named name n (take i xs)) ≡ None) [
        | true ↦ λ e. absurd cc
        | false ↦ λ e. none_taken n i xs e
      ]) h

  apart_taken : (i : ℕ) (xs more : List X) → AreApart name xs more
      → AreApart name (take i xs) more
  apart_taken i xs [] h = tt
  apart_taken i xs (y ∷ ys) h = (none_taken (name y) i xs h.0, apart_taken i xs ys h.1)

  apart_parts : (left xs ys : List X) → AreApart name left (xs ++ ys)
      → AreApart name left xs × AreApart name left ys
  apart_parts left [] ys h = (tt, h)
  apart_parts left (x ∷ xs) ys h =
      let rest = apart_parts left xs ys h.1 in ((h.0, rest.0), rest.1)

  placed_before : (x : X) (ys done : List X)
      → AllByRecursion (λ y. text_cmp (name x) (name y) ≡ Less) done
      → placed name x (ys ++ done) ≡ placed name x ys ++ done
  placed_before x [] [] up = refl
  placed_before x [] (d ∷ ds) up = rw up.0 refl
  placed_before x (y ∷ ys) done up =
      elim (text_cmp (name x) (name y))
      as (λ o. match_ordering o (x ∷ (y ∷ ys) ++ done) (x ∷ ys ++ done) (y ∷ placed name x
      (ys ++ done)) ≡ match_ordering o (x ∷ y ∷ ys) (x ∷ ys) (y ∷ placed name x ys) ++ done) [
        | Less ↦ refl
        | Equal ↦ refl
        | Greater ↦ ap (λ zs. y ∷ zs) (placed_before x ys done up)
      ]

  -- a part of what stands behind was put over the ones of its names, or passed
  pub record IsPuttingOver (count at : ℕ) (old now : List X) : Type 0 where
    pub left : List X
    pub front : List X
    pub rest : List X
    pub is : now ≡ left ++ (front ++ rest)
    pub long : length left ≡ count
    pub to_do : count + length front ≡ at
    pub order : Ascend name left
    pub others : Ascend name (front ++ rest)
    pub apart : AreApart name left rest
    pub same : all_placed name (front ++ rest) left
        ≡ all_placed name (drop count old) (take count old)

  pub begin_over : (count at : ℕ) (old : List X) → count ≤ length old → at ≡ length old
      → AreInOrder name (take count old) → AreInOrder name (drop count old)
      → IsPuttingOver count at old old
  begin_over count at old within all up others = record {
    left = take count old;
    front = drop count old;
    rest = [];
    is =
        sym (take-append-drop count old)
        ∙ ap (λ zs. take count old ++ zs) (sym (append-nil (drop count old)));
    long = long-taken;
    to_do =
        ap (λ n. n + length (drop count old)) (sym long-taken)
        ∙ sym (length-append (take count old) (drop count old))
        ∙ ap length (take-append-drop count old) ∙ sym all;
    order = ascend name (take count old) up;
    others =
        subst (Ascend name) (sym (append-nil (drop count old)))
        (ascend name (drop count old) others);
    apart = tt;
    same = ap (λ zs. all_placed name zs (take count old)) (append-nil (drop count old));
  }
    where
      long-taken : length (take count old) ≡ count
      long-taken = length-take-le count old within

  pub end_over : (count at : ℕ) (old now : List X) → at ≤ count → IsPuttingOver count at old now
      → IsPutOver name count old now
  end_over count at old now below so = record {
    within = omega (arith, sym so.long, ap length are ∙ length-append so.left so.rest);
    order = subst (AreInOrder name) (sym lefts) (in_order so.left so.order);
    others = subst (AreInOrder name) (sym rests)
        (in_order so.rest (suffix so.front so.rest so.others));
    apart = subst (λ zs. AreApart name zs (drop count now)) (sym lefts)
        (subst (AreApart name so.left) (sym rests) so.apart);
    same =
        (λ i. all_placed name (rests i) (lefts i))
        ∙ ap (λ zs. all_placed name (zs ++ so.rest) so.left) (sym none) ∙ so.same;
  }
    where
      none : so.front ≡ []
      none = no_length so.front (omega (arith, so.to_do, below))

      are : now ≡ so.left ++ so.rest
      are = so.is ∙ ap (λ zs. so.left ++ (zs ++ so.rest)) none

      lefts : take count now ≡ so.left
      lefts = (λ i. take (sym so.long i) (are i)) ∙ take-append_seam so.left so.rest

      rests : drop count now ≡ so.rest
      rests = (λ i. drop (sym so.long i) (are i)) ∙ drop-append_seam so.left so.rest

  -- one of those behind: the last that is still to be looked at
  pub record IsNext (count at : ℕ) (old now : List X) : Type 0 where
    pub so : IsPuttingOver count (at + 1) old now
    pub front : List X
    pub last : X
    pub is : so.front ≡ front ++ (last ∷ [])

  module _ (count at : ℕ) (old now : List X) (next : IsNext count at old now) where
    abbrev pub so : IsPuttingOver count (at + 1) old now
    so = next.so

    abbrev pub x : X
    x = next.last

    parts : now ≡ (so.left ++ next.front) ++ x ∷ so.rest
    parts =
        so.is ∙ ap (λ zs. so.left ++ (zs ++ so.rest)) next.is
        ∙ ap (λ zs. so.left ++ zs) (append_assoc next.front (x ∷ []) so.rest)
        ∙ sym (append_assoc so.left next.front (x ∷ so.rest))

    far : at ≡ length (so.left ++ next.front)
    far =
        omega (
          arith,
          so.to_do,
          so.long,
          ap length next.is ∙ length-append next.front (x ∷ []),
          length-append so.left next.front,
        )

    pub get_next : (d : X) → get_or now at d ≡ x
    get_next d =
        (λ i. get_or (parts i) (far i) d) ∙ get_here (so.left ++ next.front) so.rest x d

    pub taken_next : (thing : X) → slice_get now at ≡ Some thing → thing ≡ x
    taken_next thing is =
        let e : Some thing ≡ Some x = sym is ∙ (λ i. slice_get (parts i) (far i))
        ∙ slice_here (so.left ++ next.front) so.rest x in cc

    chain : Ascend name (next.front ++ x ∷ so.rest)
    chain = subst (Ascend name)
        (ap (λ zs. zs ++ so.rest) next.is ∙ append_assoc next.front (x ∷ []) so.rest) so.others

    behind : AllByRecursion (λ y. text_cmp (name x) (name y) ≡ Less) so.rest
    behind = (suffix next.front (x ∷ so.rest) chain).0

    same_as : all_placed name (next.front ++ x ∷ so.rest) so.left
        ≡ all_placed name (drop count old) (take count old)
    same_as =
        ap (λ zs. all_placed name zs so.left)
        (sym (ap (λ zs. zs ++ so.rest) next.is ∙ append_assoc next.front (x ∷ []) so.rest))
        ∙ so.same

    shorter : count + length next.front ≡ at
    shorter = omega (arith, so.to_do, ap length next.is ∙ length-append next.front (x ∷ []))

    pub seen_left : (seen : List X) → seen ≡ take count now → seen ≡ so.left
    seen_left seen is =
        is ∙ (λ i. take (sym so.long i) (so.is i)) ∙ take-append_seam so.left (so.front ++ so.rest)

    pub up_left : AreInOrder name so.left
    up_left = in_order so.left so.order

    -- where none has its name it stays
    pub passed : named name (name x) so.left ≡ None → IsPuttingOver count at old now
    passed none = record {
      left = so.left;
      front = next.front;
      rest = x ∷ so.rest;
      is = parts ∙ append_assoc so.left next.front (x ∷ so.rest);
      long = so.long;
      to_do = shorter;
      order = so.order;
      others = chain;
      apart = (none, so.apart);
      same = same_as;
    }

    -- and else it comes in the place of the other one
    pub went_over : (index : ℕ) (cut new : List X) → index < length so.left → cut ≡ remove now at
        → new ≡ set cut index x → set so.left index x ≡ placed name x so.left
        → IsPuttingOver count at old new
    went_over index cut new below taken put placed_so = record {
      left = placed name x so.left;
      front = next.front;
      rest = so.rest;
      is =
          put
          ∙ ap (λ zs. set zs index x)
          (taken ∙ (λ i. remove (parts i) (far i))
          ∙ remove_here (so.left ++ next.front) so.rest x
          ∙ append_assoc so.left next.front so.rest)
          ∙ set-append_left so.left (next.front ++ so.rest) index x below
          ∙ ap (λ zs. zs ++ (next.front ++ so.rest)) placed_so;
      long = ap length (sym placed_so) ∙ length-set so.left index x ∙ so.long;
      to_do = shorter;
      order = ascend name (placed name x so.left) (placed_in_order name x so.left up_left);
      others = without next.front so.rest x chain;
      apart = apart_still x so.left so.rest behind so.apart;
      same = put_first x next.front so.rest so.left behind ∙ same_as;
    }

    -- what a search for its name before it tells
    module _ (seen : List X) (m : List ℕ) (y : X) (same : seen ≡ take count now)
        (called : m ≡ name y)
        (read : y ≡ get_or now at y) where
      is_left : seen ≡ so.left
      is_left = seen_left seen same

      is_named : m ≡ name x
      is_named = called ∙ ap name (read ∙ get_next y)

      pub passed_by_search : (i : ℕ)
          → IsBinarySearchResult (λ t. text_cmp (name t) m) seen (Err i)
          → IsPuttingOver count at old now
      passed_by_search i missed =
          passed (sym (not_found name m (name x) seen so.left is_left is_named up_left i missed))

      pub over_by_search : (i : ℕ) (thing : X) (cut new : List X) → i < length seen
          → IsBinarySearchResult (λ t. text_cmp (name t) m) seen (Ok i)
          → slice_get now at ≡ Some thing → cut ≡ remove now at → new ≡ set cut i thing
          → IsPuttingOver count at old new
      over_by_search i thing cut new below found got taken put =
          went_over i cut new
          (found_within name m (name x) seen so.left is_left is_named up_left i below) taken
          (put ∙ ap (set cut i) (taken_next thing got))
          (put_there name m (name x) seen so.left is_left is_named up_left x i
          (set so.left i x) refl
          below found refl)

  pub next_over : (count at : ℕ) (old now : List X) → count < at + 1
      → IsPuttingOver count (at + 1) old now → IsNext count at old now
  next_over count at old now some so =
      let l = last_of so.front (omega (arith, so.to_do, some)) in
      record { so = so; front = l.front; last = l.last; is = l.is }

  -- a part of what stands behind was put between the others
  pub record IsPuttingBetween (count end : ℕ) (whole now : List X) : Type 0 where
    pub left : List X
    pub front : List X
    pub done : List X
    pub is : now ≡ left ++ (front ++ done)
    pub long : length left ≡ count
    pub to_do : count + length front ≡ end
    pub order : Ascend name (left ++ done)
    pub others : Ascend name (front ++ done)
    pub apart : AreApart name left front
    pub same : all_placed name front (left ++ done) ≡ whole

  pub begin_between : (count end : ℕ) (old : List X) → count ≤ length old → end ≡ length old
      → AreInOrder name (take count old) → AreInOrder name (drop count old)
      → AreApart name (take count old) (drop count old)
      → IsPuttingBetween count end (all_placed name (drop count old) (take count old)) old
  begin_between count end old within all up others apart = record {
    left = take count old;
    front = drop count old;
    done = [];
    is =
        sym (take-append-drop count old)
        ∙ ap (λ zs. take count old ++ zs) (sym (append-nil (drop count old)));
    long = length-take-le count old within;
    to_do =
        ap (λ n. n + length (drop count old)) (sym (length-take-le count old within))
        ∙ sym (length-append (take count old) (drop count old))
        ∙ ap length (take-append-drop count old) ∙ sym all;
    order =
        subst (Ascend name) (sym (append-nil (take count old)))
        (ascend name (take count old) up);
    others =
        subst (Ascend name) (sym (append-nil (drop count old)))
        (ascend name (drop count old) others);
    apart = apart;
    same = ap (all_placed name (drop count old)) (append-nil (take count old));
  }

  pub end_between : (count end : ℕ) (whole now : List X) → end ≤ count
      → IsPuttingBetween count end whole now → now ≡ whole
  end_between count end whole now below so =
      let none : so.front ≡ [] = no_length so.front (omega (arith, so.to_do, below)) in
      so.is ∙ ap (λ zs. so.left ++ (zs ++ so.done)) none
      ∙ sym (ap (λ zs. all_placed name zs (so.left ++ so.done)) none) ∙ so.same

  pub record IsLast (count end : ℕ) (whole now : List X) : Type 0 where
    pub so : IsPuttingBetween count end whole now
    pub front : List X
    pub last : X
    pub is : so.front ≡ front ++ (last ∷ [])

  pub last_between : (count end : ℕ) (whole now : List X) → count < end
      → IsPuttingBetween count end whole now → IsLast count end whole now
  last_between count end whole now some so =
      let l = last_of so.front (omega (arith, so.to_do, some)) in
      record { so = so; front = l.front; last = l.last; is = l.is }

  module _ (count end : ℕ) (whole now : List X) (next : IsLast count end whole now) where
    abbrev pub mid : IsPuttingBetween count end whole now
    mid = next.so

    abbrev pub y : X
    y = next.last

    parted : now ≡ (mid.left ++ next.front) ++ y ∷ mid.done
    parted =
        mid.is ∙ ap (λ zs. mid.left ++ (zs ++ mid.done)) next.is
        ∙ ap (λ zs. mid.left ++ zs) (append_assoc next.front (y ∷ []) mid.done)
        ∙ sym (append_assoc mid.left next.front (y ∷ mid.done))

    fars : end - 1 ≡ length (mid.left ++ next.front)
    fars =
        omega (
          arith,
          mid.to_do,
          mid.long,
          ap length next.is ∙ length-append next.front (y ∷ []),
          length-append mid.left next.front,
        )

    in_chain : Ascend name (next.front ++ y ∷ mid.done)
    in_chain = subst (Ascend name)
        (ap (λ zs. zs ++ mid.done) next.is ∙ append_assoc next.front (y ∷ []) mid.done) mid.others

    over_done : AllByRecursion (λ z. text_cmp (name y) (name z) ≡ Less) mid.done
    over_done = (suffix next.front (y ∷ mid.done) in_chain).0

    both_apart : AreApart name mid.left next.front × AreApart name mid.left (y ∷ [])
    both_apart =
        apart_parts mid.left next.front (y ∷ []) (subst (AreApart name mid.left) next.is mid.apart)

    left_up : Ascend name mid.left
    left_up = prefix mid.left mid.done mid.order

    -- it goes where a search for its name among those before it misses it
    module _ (seen : List X) (m : List ℕ) (z : X) (same : seen ≡ take count now)
        (called : m ≡ name z)
        (read : z ≡ get_or now (end - 1) z) where
      seen_is : seen ≡ mid.left
      seen_is =
          same ∙ (λ i. take (sym mid.long i) (mid.is i))
          ∙ take-append_seam mid.left (mid.front ++ mid.done)

      named_so : m ≡ name y
      named_so =
          called
          ∙ ap name (read ∙ (λ i. get_or (parted i) (fars i) z)
          ∙ get_here (mid.left ++ next.front) mid.done y z)

      up : AreInOrder name mid.left
      up = in_order mid.left left_up

      pub never_found : (i : ℕ) → i < length seen
          → IsBinarySearchResult (λ t. text_cmp (name t) m) seen (Ok i) → ⊥
      never_found i below found =
          let some : slice_get mid.left i ≡ Some (get_or mid.left i y) =
          slice_get-get_or mid.left i y
          (found_within name m (name y) seen mid.left seen_is named_so up i below) in
          let none : slice_get mid.left i ≡ None =
          there name m (name y) seen mid.left seen_is named_so up i below found
          ∙ both_apart.1.0 in
          let e : None ≡ Some (get_or mid.left i y) = sym none ∙ some in absurd cc

      pub went_between : (i : ℕ) (new : List X) → i ≤ length seen
          → IsBinarySearchResult (λ t. text_cmp (name t) m) seen (Err i)
          → HaveTurned now new i count end
          → IsPuttingBetween i (end - (count - i + 1)) whole new
      went_between i new below missed turned = record {
        left = take i mid.left;
        front = next.front;
        done = y ∷ (drop i mid.left ++ mid.done);
        is =
            turned (take i mid.left) (drop i mid.left) mid.front mid.done
            (mid.is ∙ ap (λ zs. zs ++ (mid.front ++ mid.done)) (sym (take-append-drop i mid.left))
            ∙ append_assoc (take i mid.left) (drop i mid.left) (mid.front ++ mid.done)) at_i
            (omega (arith, both)) (omega (arith, both, mid.to_do, mid.long))
            ∙ ap (λ zs. take i mid.left ++ (zs ++ (drop i mid.left ++ mid.done))) next.is
            ∙ ap (λ zs. take i mid.left ++ zs)
            (append_assoc next.front (y ∷ []) (drop i mid.left ++ mid.done));
        long = at_i;
        to_do = omega (
          arith,
          within,
          mid.to_do,
          mid.long,
          ap length next.is ∙ length-append next.front (y ∷ []),
        );
        order = subst (Ascend name) (sym put_is)
            (ascend name (placed name y (mid.left ++ mid.done))
            (placed_in_order name y (mid.left ++ mid.done)
            (in_order (mid.left ++ mid.done) mid.order)));
        others = other_behind y next.front mid.done (drop i mid.left ++ mid.done) in_chain
            (suffix (take i mid.left) (y ∷ (drop i mid.left ++ mid.done))
            (subst (Ascend name) (sym put_is)
            (ascend name (placed name y (mid.left ++ mid.done))
            (placed_in_order name y (mid.left ++ mid.done)
            (in_order (mid.left ++ mid.done) mid.order)))));
        apart = apart_taken i mid.left next.front both_apart.0;
        same =
            ap (all_placed name next.front) put_is
            ∙ sym (all_in_turn next.front (y ∷ []) (mid.left ++ mid.done))
            ∙ ap (λ zs. all_placed name zs (mid.left ++ mid.done)) (sym next.is) ∙ mid.same;
      }
        where
          within : i ≤ length mid.left
          within = missed_within name m (name y) seen mid.left seen_is named_so up i below

          at_i : length (take i mid.left) ≡ i
          at_i = length-take-le i mid.left within

          both : length (take i mid.left) + length (drop i mid.left) ≡ count
          both =
              sym (length-append (take i mid.left) (drop i mid.left))
              ∙ ap length (take-append-drop i mid.left) ∙ mid.long

          put_is : take i mid.left ++ y ∷ (drop i mid.left ++ mid.done)
              ≡ placed name y (mid.left ++ mid.done)
          put_is =
              sym (append_assoc (take i mid.left) (y ∷ drop i mid.left) mid.done)
              ∙ ap (λ zs. zs ++ mid.done)
              (put_here name m (name y) seen mid.left seen_is named_so up y i
              (take i mid.left ++ y ∷ drop i mid.left) refl below missed refl)
              ∙ sym (placed_before y mid.left mid.done over_done)
