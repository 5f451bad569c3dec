-- Grounds that are joined, or left out where others have their addresses.
use Rattle.std.proofs.Common.{◌≡◌, ◌∙◌, ℕ, ◌+◌, ◌-◌, ◌^◌, ◌<◌, ◌≤◌, Bool, true, false, cond, ◌&&◌}
use Rattle.std.proofs.Common.{◌||◌, ltb, leb, max, min, List, [], ◌∷◌, ◌++◌, length, get_or}
use Rattle.std.proofs.Common.{count_by}
use Rattle.std.proofs.Common.{refl, sym, ap, arith, not, subst, Contains, Option}
use Rattle.std.proofs.Common.{None, Some}
use Rattle.std.specs.Option.{option_to_list}
use Rattle.std.specs.Prelude.{IfSome, IsTrue}
use Rattle.std.proofs.Math.ListN.{get_or-map}
use Rattle.std.proofs.lemmas.List.{append_assoc, length-append, length-map}
use Rattle.std.proofs.lemmas.List.Elements.{All-append, All-from_recursion}
use Rattle.std.proofs.lemmas.List.Elements.{Contains-append_left, Contains-push}
use Rattle.std.specs.Bool.{beq}
use Rattle.std.proofs.lemmas.Bool.Decides.{nat_tests}
use Rattle.std.proofs.lemmas.List.Folds.{list_any-append, list_any_at}
use Rattle.std.proofs.lemmas.List.Sums.{sum_by-cons}
use Rattle.geo_addr.specs.Ranges.{Ends, IsWithin, ground_first, holds, is_v4}
use Rattle.source_changes.specs.CutPoints.{whole}
use Rattle.source_changes.specs.Passing.{LieIn}
use Rattle.source_changes.specs.Touched.{is_touched}
use Rattle.cut_segments.specs.Segments.{AreSegments, BeginIn, starts_in}

-- tests that pass alike are the same
alike : (x y : Bool) → (x ≡ true → y ≡ true) → (y ≡ true → x ≡ true) → x ≡ y
alike true true to from = refl
alike true false to from = sym (to refl)
alike false true to from = from refl
alike false false to from = refl

-- of two ranges of one family the farther end is of that family
max_family : (l m : ℕ) → ltb l (2 ^ 32) ≡ ltb m (2 ^ 32) → ltb (max l m) (2 ^ 32) ≡ ltb l (2 ^ 32)
max_family l m same =
    alike (ltb (max l m) (2 ^ 32)) (ltb l (2 ^ 32))
    (λ e. grind (arith, nat_tests)) (λ e. grind (arith, nat_tests))

-- where a range ends in its family does not matter for where its ground begins
same_first : (first last far : ℕ) → ltb far (2 ^ 32) ≡ ltb last (2 ^ 32)
    → ground_first (record { first = first; last = far })
    ≡ ground_first (record { first = first; last = last })
unfolding ground_first
same_first first last far same = ap (λ b. cond b first (max first (2 ^ 32))) same

-- the addresses of two ranges, of which the second begins in the first one or right behind it
covers : (f n l m a : ℕ) → f ≤ n → n - 1 ≤ l
    → (leb f a && leb a (max l m)) ≡ ((leb f a && leb a l) || (leb n a && leb a m))
covers f n l m a le near =
    alike (leb f a && leb a (max l m)) ((leb f a && leb a l) || (leb n a && leb a m))
    (λ e. grind (arith, nat_tests)) (λ e. grind (arith, nat_tests))

pub joined_holds : (g n : Ends) → is_v4 g ≡ is_v4 n → ground_first g ≤ ground_first n
    → ground_first n - 1 ≤ g.last → (a : ℕ)
    → holds (record { first = g.first; last = max g.last n.last }) a ≡ (holds g a || holds n a)
unfolding holds
joined_holds g n same le near a =
    ap (λ f. leb f a && leb a (max g.last n.last))
    (same_first g.first g.last (max g.last n.last) (max_family g.last n.last same))
    ∙ covers (ground_first g) (ground_first n) g.last n.last a le near

-- the joined range begins where the first one does
pub joined_first : (g n : Ends) → is_v4 g ≡ is_v4 n
    → ground_first (record { first = g.first; last = max g.last n.last }) ≡ ground_first g
joined_first g n same =
    same_first g.first g.last (max g.last n.last) (max_family g.last n.last same)

-- a ground that lies in one of several
pub touched_by_one : (kept : List Ends) (at : ℕ) (d ground : Ends) → at < length kept
    → ground_first (get_or kept at d) ≤ ground_first ground → ground.last ≤ (get_or kept at d).last
    → (a : ℕ) → holds ground a ≡ true → is_touched kept a ≡ true
unfolding holds
touched_by_one kept at d ground below first last a e =
    list_any_at (λ r. holds r a) kept at d below (grind (arith, nat_tests))

-- counting by tests that pass alike
count_alike : (p q : ℕ → Bool) → ((a : ℕ) → p a ≡ q a) → (cs : List ℕ)
    → count_by p cs ≡ count_by q cs
count_alike p q same [] = refl
count_alike p q same (c ∷ cs) =
    sum_by-cons (λ x. cond (p x) 1 0) c cs
    ∙ ap (λ b. cond b 1 0 + count_by p cs) (same c)
    ∙ ap (λ n. cond (q c) 1 0 + n) (count_alike p q same cs)
    ∙ sym (sum_by-cons (λ x. cond (q x) 1 0) c cs)

-- segments of grounds that have the same addresses and are no more
pub segments_of_fewer : (touched fewer : List Ends) (cuts : List ℕ) (out : List Ends)
    → ((a : ℕ) → is_touched fewer a ≡ is_touched touched a) → length fewer ≤ length touched
    → AreSegments fewer cuts out → AreSegments touched cuts out
segments_of_fewer touched fewer cuts out same few h = record {
  ranges = h.ranges;
  apart = h.apart;
  inside = λ a is. sym (same a) ∙ h.inside a is;
  covered = λ a is. h.covered a (same a ∙ is);
  uncut = h.uncut;
  few = omega (
    arith,
    h.few,
    few,
    count_alike (is_touched fewer) (is_touched touched) same cuts,
  );
}

-- one more ground as a range of its own
pub with_one : (xs : List Ends) (r : Ends) (a : ℕ)
    → is_touched (xs ++ r ∷ []) a ≡ (is_touched xs a || holds r a)
with_one xs r a = list_any-append (λ x. holds x a) xs (r ∷ []) ∙ last (is_touched xs a) (holds r a)
  where
    last : (x y : Bool) → (x || (y || false)) ≡ (x || y)
    last true y = refl
    last false true = refl
    last false false = refl

pub behind : (xs ys : List Ends) (a : ℕ)
    → is_touched (xs ++ ys) a ≡ (is_touched xs a || is_touched ys a)
behind xs ys a = list_any-append (λ x. holds x a) xs ys

-- what a ground holds of a chunk
pub part_none : (f l c d a : ℕ) → min l d < max f c
    → false ≡ ((leb f a && leb a l) && (leb c a && leb a d))
part_none f l c d a lt = grind (arith, nat_tests)

pub part_some : (f l c d a : ℕ) → ((leb (max f c) a && leb a (min l d)) || false)
    ≡ ((leb f a && leb a l) && (leb c a && leb a d))
part_some f l c d a = grind (arith, nat_tests)

-- the part of a ground in a chunk is its own ground
pub part_first : (g c : Ends) → max (ground_first g) c.first ≤ min g.last c.last
    → ground_first (record { first = max (ground_first g) c.first; last = min g.last c.last })
    ≡ max (ground_first g) c.first
unfolding ground_first
part_first g c le = grind (arith, nat_tests)

pub part_holds : (g c : Ends) (a : ℕ) → max (ground_first g) c.first ≤ min g.last c.last
    → (holds (record { first = max (ground_first g) c.first; last = min g.last c.last }) a || false)
    ≡ (holds g a && (leb c.first a && leb a c.last))
unfolding holds
part_holds g c a le =
    ap (λ f. (leb f a && leb a (min g.last c.last)) || false) (part_first g c le)
    ∙ part_some (ground_first g) g.last c.first c.last a

within_test : (f l a : ℕ) → (leb f a && leb a l) ≡ true → a ≤ l
within_test f l a e = grind (arith, nat_tests)

held_below : (g : Ends) (a : ℕ) → holds g a ≡ true → a ≤ g.last
unfolding holds
held_below g a e = within_test (ground_first g) g.last a e

-- what is held so far are the addresses of the grounds that were taken which the chunk has
pub record IsJoined (grounds : List Ends) (chunk : Ends) (held others : List Ends)
    (last : Option Ends) (left : List Ends) : Type 0 where
  pub taken : List Ends
  pub all : grounds ≡ taken ++ left
  pub same : (a : ℕ)
      → (is_touched held a || (is_touched (option_to_list last) a || is_touched others a))
      ≡ (is_touched taken a && (leb chunk.first a && leb a chunk.last))
  pub below : (a : ℕ) → IsTrue (is_touched taken a) → a < 2 ^ 128
  pub few : length held + length others + length (option_to_list last) ≤ length taken
  pub kept : BeginIn (starts_in grounds chunk) held
  pub rest : BeginIn (starts_in grounds chunk) others
  pub growing : BeginIn (starts_in grounds chunk) (option_to_list last)

-- what the grounds so far have are addresses
pub below_more : (taken : List Ends) (g : Ends) → g.last < 2 ^ 128
    → ((a : ℕ) → IsTrue (is_touched taken a) → a < 2 ^ 128)
    → (a : ℕ) → IsTrue (is_touched (taken ++ g ∷ []) a) → a < 2 ^ 128
below_more taken g last so_far a touched =
    by (is_touched taken a) refl (sym (with_one taken g a) ∙ touched)
  where
    by : (b : Bool) → is_touched taken a ≡ b → (b || holds g a) ≡ true → a < 2 ^ 128
    by true before e = so_far a before
    by false before e = omega (arith, held_below g a e, last)

-- the grounds that were taken, with one more of those that are left
pub taken_more : (grounds taken left later : List Ends) (g : Ends) → grounds ≡ taken ++ left
    → left ≡ g ∷ later → grounds ≡ (taken ++ g ∷ []) ++ later
taken_more grounds taken left later g all is =
    all ∙ ap (λ (gs : List Ends). taken ++ gs) is ∙ sym (append_assoc taken (g ∷ []) later)

in_whole : (a : ℕ) → a < 2 ^ 128 → (leb whole.first a && leb a whole.last) ≡ true
in_whole a below = grind (arith, nat_tests)

-- all that the grounds have is in the whole address space
pub all_in_whole : (touched fewer : List Ends) (chunk : Ends) → chunk ≡ whole
    → ((a : ℕ) → is_touched fewer a
    ≡ (is_touched touched a && (leb chunk.first a && leb a chunk.last)))
    → ((a : ℕ) → IsTrue (is_touched touched a) → a < 2 ^ 128)
    → (a : ℕ) → is_touched fewer a ≡ is_touched touched a
all_in_whole touched fewer chunk is same below a =
    same a
    ∙ subst
    (λ (c : Ends). (is_touched touched a && (leb c.first a && leb a c.last)) ≡ is_touched touched a)
    (sym is) (by (is_touched touched a) (below a))
  where
    by : (b : Bool) → (b ≡ true → a < 2 ^ 128)
        → (b && (leb whole.first a && leb a whole.last)) ≡ b
    by true h = in_whole a (h refl)
    by false h = refl

-- ranges of which each begins at one of these points, and one more
pub begin_one : (starts : List ℕ) (r : Ends) → Contains starts (ground_first r)
    → BeginIn starts (r ∷ [])
begin_one starts r one =
    All-from_recursion (λ (x : Ends). Contains starts (ground_first x)) (r ∷ []) (one, tt)

pub begin_more : (starts : List ℕ) (xs : List Ends) (r : Ends) → BeginIn starts xs
    → Contains starts (ground_first r) → BeginIn starts (xs ++ r ∷ [])
begin_more starts xs r all one =
    All-append (λ (x : Ends). Contains starts (ground_first x)) xs (r ∷ []) all
    (begin_one starts r one)

pub begins_at : (starts : List ℕ) (o : Option Ends) (r : Ends) → o ≡ Some r
    → BeginIn starts (option_to_list o) → Contains starts (ground_first r)
begins_at starts o r is all =
    let one : BeginIn starts (r ∷ []) =
    subst (λ (x : Option Ends). BeginIn starts (option_to_list x)) is all in
    one 0 r (omega arith)

pub one_at_most : (o : Option Ends) → length (option_to_list o) ≤ 1
one_at_most None = omega arith
one_at_most (Some r) = omega arith

pub and_or : (t h c : Bool) → ((t && c) || (h && c)) ≡ ((t || h) && c)
and_or true true true = refl
and_or true true false = refl
and_or true false true = refl
and_or true false false = refl
and_or false true true = refl
and_or false true false = refl
and_or false false true = refl
and_or false false false = refl

-- what a ground holds of a chunk begins where the ground does, or the chunk
pub part_begins : (gs taken later : List Ends) (chunk g : Ends) (part : Option Ends)
    → gs ≡ (taken ++ g ∷ []) ++ later
    → IfSome part (λ r. ground_first r ≡ max (ground_first g) chunk.first)
    → BeginIn (starts_in gs chunk) (option_to_list part)
part_begins gs taken later chunk g None all first =
    All-from_recursion (λ (r : Ends). Contains (starts_in gs chunk) (ground_first r)) [] tt
part_begins gs taken later chunk g (Some r) all first =
    All-from_recursion (λ (r : Ends). Contains (starts_in gs chunk) (ground_first r)) (r ∷ [])
    ((subst (Contains (starts_in gs chunk)) (sym first) there), tt)
  where
    start : Ends → ℕ
    start x = max (ground_first x) chunk.first

    among : Contains gs g
    among =
        subst (λ (xs : List Ends). Contains xs g) (sym all)
        (Contains-append_left (taken ++ g ∷ []) later g (Contains-push taken g))

    there : Contains (starts_in gs chunk) (max (ground_first g) chunk.first)
    there = (
      among.0,
      omega (arith, length-map gs start, among.1),
      get_or-map start gs among.0 g ∙ ap start among.2,
    )

pub le_from_test : (x y : ℕ) → leb x y ≡ true → x ≤ y
le_from_test x y e = grind (arith, nat_tests)

pub same_if : (x y : Bool) → not (beq x y) ≡ false → x ≡ y
same_if true true e = refl
same_if true false e = e
same_if false true e = sym e
same_if false false e = refl

-- what is held in one of several ranges, where it stands
pub held_at : (kept : List Ends) (at : ℕ) (d : Ends) (a : ℕ) → at < length kept
    → (holds (get_or kept at d) a || false) ≡ true → is_touched kept a ≡ true
held_at kept at d a below e =
    list_any_at (λ r. holds r a) kept at d below (one (holds (get_or kept at d) a) e)
  where
    one : (b : Bool) → (b || false) ≡ true → b ≡ true
    one true t = refl
    one false t = t

inside_chunk : (c : Ends) (a : ℕ) → (leb c.first a && leb a c.last) ≡ true → IsWithin c a
inside_chunk c a e = (grind (arith, nat_tests), grind (arith, nat_tests))

-- what is held already changes nothing
absorbed : (k r t p c : Bool) → (k || r) ≡ (t && c) → (p ≡ true → c ≡ true → k ≡ true)
    → (k || r) ≡ ((t || p) && c)
absorbed k r true p c e h = e
absorbed k r false false c e h = e
absorbed k r false true false e h = e
absorbed k r false true true e h = ap (λ (b : Bool). b || r) (h refl refl)

-- the grounds that were taken, with some that lie in a range that is held
pub passed_more : (grounds : List Ends) (chunk : Ends) (held others : List Ends)
    (last : Option Ends) (left later passed : List Ends) (found : Option Ends)
    → IsJoined grounds chunk held others last left → left ≡ passed ++ later
    → LieIn chunk found passed
    → ((a : ℕ) → IsTrue (is_touched (option_to_list found) a) → IsTrue (is_touched held a))
    → IsJoined grounds chunk held others last later
passed_more grounds chunk held others last left later passed found j is lie there = record {
  taken = j.taken ++ passed;
  all =
      j.all ∙ ap (λ (gs : List Ends). j.taken ++ gs) is ∙ sym (append_assoc j.taken passed later);
  same = λ a.
      absorbed (is_touched held a) (is_touched (option_to_list last) a || is_touched others a)
      (is_touched j.taken a) (is_touched passed a) (leb chunk.first a && leb a chunk.last)
      (j.same a) (λ p c. there a (lie.inside a p (inside_chunk chunk a c)))
      ∙ ap (λ (b : Bool). b && (leb chunk.first a && leb a chunk.last))
      (sym (behind j.taken passed a));
  below = λ a is. by a (is_touched j.taken a) refl (sym (behind j.taken passed a) ∙ is);
  few = omega (arith, j.few, length-append j.taken passed);
  kept = j.kept;
  rest = j.rest;
  growing = j.growing;
}
  where
    by : (a : ℕ) (b : Bool) → is_touched j.taken a ≡ b → (b || is_touched passed a) ≡ true
        → a < 2 ^ 128
    by a true before e = j.below a before
    by a false before e = lie.addresses a e
