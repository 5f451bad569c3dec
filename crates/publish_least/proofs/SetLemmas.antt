-- Sets of indexes: what a search says, what two sets join to, and which leaf the first index has.
use Rattle.std.proofs.Common.{◌≡◌, inl, inr, ℕ, zero, suc, ◌<◌, ◌≤◌, Bool, true, false}
use Rattle.std.proofs.Common.{true≢false, ◌&&◌, ◌||◌, nat_eq, if◌then◌else◌, List, [], ◌∷◌, ◌++◌}
use Rattle.std.proofs.Common.{length, get_or, slice_get, Contains, Some, Result, Ok}
use Rattle.std.proofs.Common.{Err, MatchResult, is_ok, refl, sym, ap, ap₂, subst, ◌∙◌, arith}
use Rattle.std.specs.List.Sorted.{IsNonDecreasing}
use Rattle.std.proofs.lemmas.Bool.{cases_lt, or_cases, and_parts}
use Rattle.std.proofs.lemmas.List.Sorted.{IsNonDecreasingBy-short}
use Rattle.std.proofs.lemmas.Option.{get_or_from_slice_get, slice_get-get_or, slice_get_within}
use Rattle.trie_core.specs.Tree.{Tree, leaf, node}
use Rattle.trie_core.proofs.StoreLemmas.{slice_get-Contains, slice_get-append, slice_get-push}
use Rattle.trie_core.proofs.TreeLemmas.{nat_equality}
use Rattle.least_nodes.specs.Layout.{leaves}
use Rattle.least_nodes.proofs.Elements.{In-from_any, In-from_Contains, any-from_In}
use Rattle.least_nodes.proofs.Elements.{Contains-from_In}
use Rattle.publish_least.specs.Price.{has, shared, or_either, best}
use Rattle.publish_least.specs.Choice.{first_of}
use Rattle.publish_least.specs.Sets.{IsJoined}
use Rattle.publish_least.specs.Memo.{IsSet}
use Rattle.publish_least.proofs.HasLemmas.{has-first, has-cases, has-append, has-shared}
use Rattle.publish_least.proofs.PriceLemmas.{priced, or_left}

-- what is in a list has an index there
pub index_in : (xs : List ℕ) (x : ℕ) → has xs x ≡ true → (i : ℕ) × (slice_get xs i ≡ Some x)
index_in xs x is =
    slice_get-Contains xs x
    (Contains-from_In nat_eq nat_equality x xs (In-from_any nat_eq nat_equality x xs is))

pub has-from_Contains : (xs : List ℕ) (x : ℕ) → Contains xs x → has xs x ≡ true
has-from_Contains xs x is =
    any-from_In nat_eq nat_equality x xs (In-from_Contains nat_eq nat_equality x xs is)

pub has-from_slice_get : (xs : List ℕ) (i x : ℕ) → slice_get xs i ≡ Some x → has xs x ≡ true
has-from_slice_get xs i x is =
    has-from_Contains xs x (i, slice_get_within xs i x is, get_or_from_slice_get xs i x x is)

-- what a search by halving says
pub has-found : (xs : List ℕ) (x : ℕ) (r : Result ℕ ℕ)
    → MatchResult r (λ i. (i < length xs) × (get_or xs i 0 ≡ x)) (λ i. (i ≤ length xs)
    × ((k : ℕ) → k < i → get_or xs k 0 < x) × ((k : ℕ) → i ≤ k → k < length xs → x < get_or xs k 0))
    → is_ok r ≡ has xs x
has-found xs x (Ok i) found =
    let at : slice_get xs i ≡ Some x = slice_get-get_or xs i 0 found.0 ∙ ap Some found.1 in
    sym (has-from_slice_get xs i x at)
has-found xs x (Err i) missing = by (has xs x) refl
  where
    by : (b : Bool) → has xs x ≡ b → false ≡ has xs x
    by true is =
        let index = index_in xs x is in
        let k : ℕ = index.0 in
        let within : k < length xs = slice_get_within xs k x index.1 in
        let at : get_or xs k 0 ≡ x = get_or_from_slice_get xs k x 0 index.1 in
        let low = missing.1 k in
        let high = missing.2 k in
        absurd (elim (cases_lt k i) [
          | inl less ↦ (let h = low less in omega arith)
          | inr more ↦ (let h = high more within in omega arith)
        ])
    by false is = sym is

-- ---- joined sets

and_comm : (a b : Bool) → (a && b) ≡ (b && a)
and_comm true true = refl
and_comm true false = refl
and_comm false true = refl
and_comm false false = refl

-- what two lists share does not depend on which is walked
pub has-shared_other : (xs ys : List ℕ) (i : ℕ) → has (shared ys xs) i ≡ has (shared xs ys) i
has-shared_other xs ys i =
    has-shared ys xs i ∙ and_comm (has ys i) (has xs i) ∙ sym (has-shared xs ys i)

-- a list with no elements has none, and one with elements has some
pub has_some : (xs : List ℕ) → 0 < length xs → (x : ℕ) × (has xs x ≡ true)
has_some [] some = absurd (omega arith)
has_some (x ∷ xs) some = (x, has-first x xs)

-- what is shared has elements, so it is taken
pub either-of_some : (zs xs ys : List ℕ) (i : ℕ) → has zs i ≡ true → or_either zs xs ys ≡ zs
either-of_some [] xs ys i is = absurd (cc)
either-of_some (z ∷ zs) xs ys i is = refl

pub either-of_none : (zs xs ys : List ℕ)
    → ((i : ℕ) → has zs i ≡ false) → or_either zs xs ys ≡ xs ++ ys
either-of_none [] xs ys none = refl
either-of_none (z ∷ zs) xs ys none = absurd (true≢false (sym (has-first z zs) ∙ none z))

-- what was found in the one order or the other
pub IsJoined-from_both : (xs ys set : List ℕ) → IsNonDecreasing set
    → ((i : ℕ) → has set i ≡ has (shared xs ys) i) → 0 < length set → IsJoined xs ys set
IsJoined-from_both xs ys set rises same some =
    let one = has_some set some in
    let taken = either-of_some (shared xs ys) xs ys one.0 (sym (same one.0) ∙ one.1) in
    record { rises = rises; says = λ i. same i ∙ ap (λ zs. has zs i) (sym taken) }

pub IsJoined-from_either : (xs ys both set : List ℕ)
    → ((i : ℕ) → has both i ≡ has (shared xs ys) i) → length both ≡ 0 → IsNonDecreasing set
    → ((i : ℕ) → has set i ≡ (has xs i || has ys i)) → IsJoined xs ys set
IsJoined-from_either xs ys [] set same none rises says =
    let taken = either-of_none (shared xs ys) xs ys (λ i. sym (same i)) in
    record {
      rises = rises;
      says = λ i. says i ∙ sym (has-append xs ys i) ∙ ap (λ zs. has zs i) (sym taken);
    }
IsJoined-from_either xs ys (z ∷ zs) set same none rises says = absurd (omega arith)

-- no element of an ascending list is below its first one
above-first : (x y : ℕ) (xs : List ℕ) → IsNonDecreasing (x ∷ xs) → has xs y ≡ true → x ≤ y
above-first x y xs rises is =
    let index = index_in xs y is in
    let k : ℕ = index.0 in
    let within : k < length xs = slice_get_within xs k y index.1 in
    let here : get_or xs k 0 ≡ y = get_or_from_slice_get xs k y 0 index.1 in
    let order : x ≤ get_or xs k 0 = rises 0 (suc k) 0 (omega arith) (omega arith) in
    omega arith

rises-rest : (x : ℕ) (xs : List ℕ) → IsNonDecreasing (x ∷ xs) → IsNonDecreasing xs
rises-rest x xs rises i j d order within = rises (suc i) (suc j) d (omega arith) (omega arith)

rises-first : (x : ℕ) (xs : List ℕ) → ((y : ℕ) → has xs y ≡ true → x ≤ y) → IsNonDecreasing xs
    → IsNonDecreasing (x ∷ xs)
rises-first x xs above rises zero zero d order within = omega arith
rises-first x xs above rises zero (suc j) d order within =
    above (get_or xs j d)
    (has-from_slice_get xs j (get_or xs j d) (slice_get-get_or xs j d (omega arith)))
rises-first x xs above rises (suc i) zero d order within = absurd (omega arith)
rises-first x xs above rises (suc i) (suc j) d order within =
    rises i j d (omega arith) (omega arith)

-- what two lists share ascends where the first does
pub rises-shared : (xs ys : List ℕ) → IsNonDecreasing xs → IsNonDecreasing (shared xs ys)
rises-shared [] ys rises = rises
rises-shared (x ∷ xs) ys rises = by (has ys x) (rises-shared xs ys (rises-rest x xs rises))
  where
    above : (y : ℕ) → has (shared xs ys) y ≡ true → x ≤ y
    above y is =
        above-first x y xs rises
        ((and_parts (has xs y) (has ys y) (sym (has-shared xs ys y) ∙ is)).0)

    by : (p : Bool) → IsNonDecreasing (shared xs ys)
        → IsNonDecreasing (if p then x ∷ shared xs ys else shared xs ys)
    by true rest = rises-first x (shared xs ys) above rest
    by false rest = rest

-- ---- sets of the best leaves of a tree

some_same : (a b : ℕ) → Some a ≡ Some b → a ≡ b
some_same a b e = cc

module _ (order : List ℕ) (t : Tree ℕ) (set : List ℕ) (is-set : IsSet order t set) where
  -- an index is in the set where its leaf is best
  pub set_says : (i x : ℕ) → slice_get order i ≡ Some x → has set i ≡ has (best t) x
  set_says i x at = by (has set i) (has (best t) x) refl refl
    where
      by : (p q : Bool) → has set i ≡ p → has (best t) x ≡ q → p ≡ q
      by true true here there = refl
      by false false here there = refl
      by false true here there = sym here ∙ is-set.whole i x at there
      by true false here there =
          let found = is-set.sound i here in
          let same : found.0 ≡ x = some_same found.0 x (sym found.1 ∙ at) in
          sym (sym (ap (has (best t)) same) ∙ found.2) ∙ there

  -- some leaf is best, so the set is not empty
  pub set_some : 0 < length set
  set_some =
      let p = (priced t).1 in
      let index = index_in order p.some.0 (is-set.listed p.some.0 (p.inside p.some.0 p.some.1)) in
      some_of set index.0 (is-set.whole index.0 p.some.0 index.1 p.some.1)
    where
      some_of : (xs : List ℕ) (i : ℕ) → has xs i ≡ true → 0 < length xs
      some_of [] i is = absurd (cc)
      some_of (x ∷ xs) i is = omega arith

-- no leaf of an ascending list is below its first one
least_first : (xs : List ℕ) (p i : ℕ) → IsNonDecreasing xs → slice_get xs 0 ≡ Some p
    → has xs i ≡ true → p ≤ i
least_first xs p i rises first is =
    let index = index_in xs i is in
    let within = slice_get_within xs index.0 i index.1 in
    let here : get_or xs index.0 0 ≡ i = get_or_from_slice_get xs index.0 i 0 index.1 in
    let start : get_or xs 0 0 ≡ p = get_or_from_slice_get xs 0 p 0 first in
    let order = rises 0 index.0 0 (omega arith) within in
    omega arith

-- the first leaf of an order that is in a list is the one before which none is
first_of-index : (order bests : List ℕ) (i x : ℕ) → slice_get order i ≡ Some x
    → has bests x ≡ true → ((j y : ℕ) → j < i → slice_get order j ≡ Some y → has bests y ≡ false)
    → first_of order bests ≡ x
first_of-index [] bests i x at is none = absurd (cc)
first_of-index (y ∷ ys) bests zero x at is none =
    let same : y ≡ x = cc in
    ap (λ (b : Bool). if b then y else first_of ys bests) (ap (has bests) same ∙ is) ∙ same
first_of-index (y ∷ ys) bests (suc i) x at is none =
    ap (λ (b : Bool). if b then y else first_of ys bests) (none 0 y (omega arith) refl)
    ∙ first_of-index ys bests i x at is (λ j z less found. none (suc j) z (omega arith) found)

-- the first index of a set has the first best leaf of the order
pub first_of-set : (order : List ℕ) (t : Tree ℕ) (set : List ℕ) → IsSet order t set → (p x : ℕ)
    → slice_get set 0 ≡ Some p → slice_get order p ≡ Some x → first_of order (best t) ≡ x
first_of-set order t set is-set p x first at =
    first_of-index order (best t) p x at
    (sym (set_says order t set is-set p x at) ∙ has-from_slice_get set 0 p first)
    (λ j y less there. sym (set_says order t set is-set j y there) ∙ out j less (has set j) refl)
  where
    out : (j : ℕ) → j < p → (b : Bool) → has set j ≡ b → has set j ≡ false
    out j less true is = absurd (let low = least_first set p j is-set.rises first is in omega arith)
    out j less false is = is

-- the one index of a leaf
pub IsSet-leaf : (order : List ℕ) (x index : ℕ)
    → ((i j y : ℕ) → slice_get order i ≡ Some y → slice_get order j ≡ Some y → i ≡ j)
    → slice_get order index ≡ Some x → IsSet order (leaf x) (index ∷ [])
IsSet-leaf order x index once at = record {
  rises = IsNonDecreasingBy-short (λ y. y) (index ∷ []) (omega arith);
  sound = λ i is.
      (x, subst (λ j. slice_get order j ≡ Some x) (sym (only i index is)) at, has-first x []);
  whole =
      λ i y there is. ap (has (index ∷ [])) (once i index y there
      (subst (λ z. slice_get order index ≡ Some z) (sym (only y x is)) at)) ∙ has-first index [];
  listed = λ y is. ap (has order) (only y x is) ∙ has-from_slice_get order index x at;
}
  where
    only : (a b : ℕ) → has (b ∷ []) a ≡ true → a ≡ b
    only a b is = elim (has-cases a b [] is) [ inl here ↦ here | inr later ↦ absurd (cc) ]

-- one leaf more
pub IsSet-grown : (order : List ℕ) (t : Tree ℕ) (set : List ℕ) (x : ℕ) → has order x ≡ false
    → IsSet order t set → IsSet (order ++ x ∷ []) t set
IsSet-grown order t set x new is-set = record {
  rises = is-set.rises;
  sound =
      λ i is. let found = is-set.sound i is in
      (found.0, slice_get-append order (x ∷ []) i found.0 found.1, found.2);
  whole = λ i y at is.
      elim (slice_get-push order x i y at) [
        | inl old ↦ is-set.whole i y old is
        | inr last ↦ absurd (true≢false
            (sym (is-set.listed y ((priced t).1.inside y is)) ∙ ap (has order) last.1 ∙ new))
      ];
  listed =
      λ y is. has-append order (x ∷ []) y
      ∙ or_left (has order y) (has (x ∷ []) y) (is-set.listed y is);
}

-- ---- the set of a node

module _ (order : List ℕ) (l r : Tree ℕ) (sl sr : List ℕ) (left : IsSet order l sl)
    (right : IsSet order r sr) where
  says_shared : (i x : ℕ) → slice_get order i ≡ Some x
      → has (shared sl sr) i ≡ has (shared (best l) (best r)) x
  says_shared i x at =
      has-shared sl sr i
      ∙ ap₂ (λ a b. a && b) (set_says order l sl left i x at) (set_says order r sr right i x at)
      ∙ sym (has-shared (best l) (best r) x)

  -- the indexes that are shared by no leaves
  says_either : (zs ws : List ℕ)
      → shared sl sr ≡ zs → shared (best l) (best r) ≡ ws → (i x : ℕ) → slice_get order i ≡ Some x
      → has (or_either zs sl sr) i ≡ has (or_either ws (best l) (best r)) x
  says_either [] [] indexes leaves-are i x at =
      has-append sl sr i
      ∙ ap₂ (λ a b. a || b) (set_says order l sl left i x at) (set_says order r sr right i x at)
      ∙ sym (has-append (best l) (best r) x)
  says_either (z ∷ zs) (w ∷ ws) indexes leaves-are i x at =
      ap (λ ys. has ys i) (sym indexes) ∙ says_shared i x at ∙ ap (λ ys. has ys x) leaves-are
  says_either [] (w ∷ ws) indexes leaves-are i x at =
      let both : has (shared (best l) (best r)) w ≡ true =
      ap (λ ys. has ys w) leaves-are ∙ has-first w ws in
      let parts =
      and_parts (has (best l) w) (has (best r) w) (sym (has-shared (best l) (best r) w) ∙ both) in
      let index = index_in order w (left.listed w ((priced l).1.inside w parts.0)) in
      absurd (true≢false
      (sym both ∙ sym (says_shared index.0 w index.1) ∙ ap (λ ys. has ys index.0) indexes))
  says_either (z ∷ zs) [] indexes leaves-are i x at =
      let both : has (shared sl sr) z ≡ true = ap (λ ys. has ys z) indexes ∙ has-first z zs in
      let parts = and_parts (has sl z) (has sr z) (sym (has-shared sl sr z) ∙ both) in
      let found = left.sound z parts.0 in
      absurd
      (true≢false (sym both ∙ says_shared z found.0 found.1 ∙ ap (λ ys. has ys found.0) leaves-are))

  -- an index that is in either has a leaf
  index_of_either : (zs : List ℕ) → shared sl sr ≡ zs → (i : ℕ) → has (or_either zs sl sr) i ≡ true
      → (x : ℕ) × (slice_get order i ≡ Some x)
  index_of_either [] indexes i is =
      elim (or_cases (has sl i) (has sr i) (sym (has-append sl sr i) ∙ is)) [
        | inl here ↦ let found = left.sound i here in (found.0, found.1)
        | inr there ↦ let found = right.sound i there in (found.0, found.1)
      ]
  index_of_either (z ∷ zs) indexes i is =
      let both : has (shared sl sr) i ≡ true = ap (λ ys. has ys i) indexes ∙ is in
      let parts = and_parts (has sl i) (has sr i) (sym (has-shared sl sr i) ∙ both) in
      let found = left.sound i parts.0 in
      (found.0, found.1)

  pub IsSet-joined : (set : List ℕ) → IsJoined sl sr set → IsSet order (node l r) set
  IsSet-joined set joined = record {
    rises = joined.rises;
    sound = λ i is.
        let index = index_of_either (shared sl sr) refl i (sym (joined.says i) ∙ is) in (
          index.0,
          index.1,
          sym (says_either (shared sl sr) (shared (best l) (best r)) refl refl i index.0 index.1)
              ∙ sym (joined.says i) ∙ is,
        );
    whole =
        λ i x at is. joined.says i
        ∙ says_either (shared sl sr) (shared (best l) (best r)) refl refl i x at ∙ is;
    listed = λ x is.
        elim (or_cases (has (leaves l) x) (has (leaves r) x)
        (sym (has-append (leaves l) (leaves r) x) ∙ is)) [
          | inl here ↦ left.listed x here
          | inr there ↦ right.listed x there
        ];
  }
