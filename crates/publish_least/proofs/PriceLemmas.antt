-- The price of a tree by its best leaves.
use Rattle.std.proofs.Common.{◌≡◌, inl, inr, ℕ, ◌+◌, ◌≤◌, min, Bool, true, false, ◌&&◌, ◌||◌}
use Rattle.std.proofs.Common.{nat_eq, if◌then◌else◌, List, [], ◌∷◌, ◌++◌, refl, sym, ap}
use Rattle.std.proofs.Common.{◌∙◌, arith}
use Rattle.std.proofs.lemmas.Bool.{or_cases, and_parts}
use Rattle.trie_core.specs.Tree.{Tree, leaf, node}
use Rattle.least_nodes.specs.Layout.{leaves}
use Rattle.publish_least.specs.Price.{least_price, cost, has, shared, or_either, best}
use Rattle.publish_least.proofs.HasLemmas.{has-first, has-cases, has-append, has-shared}

-- 0 where a leaf is among the best ones, else 1
abbrev pub miss : Bool → ℕ
miss b = if b then 0 else 1

-- the least price is no higher than that of an element
least-below : (price : ℕ → ℕ) (d : ℕ) (xs : List ℕ) (e : ℕ) → has xs e ≡ true
    → least_price price d xs ≤ price e
least-below price d [] e is = absurd (cc)
least-below price d (x ∷ xs) e is =
    elim (has-cases e x xs is) [
      | inl here ↦ let same : price e ≡ price x = ap price here in omega arith
      | inr later ↦ let below = least-below price d xs e later in omega arith
    ]

-- and no lower than what is below each price
least-above : (price : ℕ → ℕ) (d : ℕ) (xs : List ℕ) (m : ℕ)
    → ((e : ℕ) → m ≤ price e) → m ≤ least_price price d xs
least-above price d [] m all = all d
least-above price d (x ∷ xs) m all =
    let first = all x in
    let rest = least-above price d xs m all in omega arith

-- what a tree costs, where so much is least
pub record IsPriced (t : Tree ℕ) (m : ℕ) : Type 0 where
  pub price : (d : ℕ) → cost t d ≡ m + miss (has (best t) d)
  pub some : (d : ℕ) × (has (best t) d ≡ true)
  pub inside : (d : ℕ) → has (best t) d ≡ true → has (leaves t) d ≡ true

-- what the halves of a node cost, where these are its best leaves
pub record AreHalvesPriced (l r : Tree ℕ) (bests : List ℕ) (m : ℕ) : Type 0 where
  pub hit : (e : ℕ) → has bests e ≡ true → cost l e + cost r e ≡ m
  pub any : (e : ℕ) → m ≤ cost l e + cost r e
  pub price : (d : ℕ) → min (cost l d + cost r d) (1 + m) ≡ m + miss (has bests d)
  pub some : (d : ℕ) × (has bests d ≡ true)
  pub inside : (d : ℕ) → has bests d ≡ true → has (leaves l ++ leaves r) d ≡ true

-- no leaf is best for both halves
apart_any : (p q : Bool) → (p && q) ≡ false → 1 ≤ miss p + miss q
apart_any true true none = absurd (cc)
apart_any true false none = omega arith
apart_any false q none = omega arith

apart_hit : (p q : Bool) → (p && q) ≡ false → (p || q) ≡ true → miss p + miss q ≡ 1
apart_hit true true none some = absurd (cc)
apart_hit true false none some = refl
apart_hit false true none some = refl
apart_hit false false none some = absurd (cc)

apart_price : (k : ℕ) (p q : Bool) → (p && q) ≡ false
    → min (k + (miss p + miss q)) (1 + (k + 1)) ≡ (k + 1) + miss (p || q)
apart_price k true true none = absurd (cc)
apart_price k true false none = omega arith
apart_price k false true none = omega arith
apart_price k false false none = omega arith

-- some leaf is best for both halves
both_hit : (p q : Bool) → (p && q) ≡ true → miss p + miss q ≡ 0
both_hit true true both = refl
both_hit true false both = absurd (cc)
both_hit false q both = absurd (cc)

both_price : (k : ℕ) (p q : Bool) → min (k + (miss p + miss q)) (1 + k) ≡ k + miss (p && q)
both_price k true true = omega arith
both_price k true false = omega arith
both_price k false true = omega arith
both_price k false false = omega arith

pub or_left : (a b : Bool) → a ≡ true → (a || b) ≡ true
or_left true b is = refl
or_left false b is = absurd (cc)

pub or_right : (a b : Bool) → b ≡ true → (a || b) ≡ true
or_right true b is = refl
or_right false b is = is

module _ (l r : Tree ℕ) (ml mr : ℕ) (left : IsPriced l ml) (right : IsPriced r mr) where
  -- what both halves cost
  both : (e : ℕ) → cost l e + cost r e ≡ (ml + mr) + (miss (has (best l) e) + miss (has (best r) e))
  both e = let a = left.price e in let b = right.price e in omega arith

  -- the leaves of the halves are those of the node
  left_inside : (d : ℕ) → has (best l) d ≡ true → has (leaves l ++ leaves r) d ≡ true
  left_inside d is =
      has-append (leaves l) (leaves r) d
      ∙ or_left (has (leaves l) d) (has (leaves r) d) (left.inside d is)

  right_inside : (d : ℕ) → has (best r) d ≡ true → has (leaves l ++ leaves r) d ≡ true
  right_inside d is =
      has-append (leaves l) (leaves r) d
      ∙ or_right (has (leaves l) d) (has (leaves r) d) (right.inside d is)

  -- by what the best leaves of the halves share
  halves_by : (zs : List ℕ) → shared (best l) (best r) ≡ zs
      → (m : ℕ) × AreHalvesPriced l r (or_either zs (best l) (best r)) m
  halves_by [] is =
      let none : (d : ℕ) → (has (best l) d && has (best r) d) ≡ false =
      λ d. sym (has-shared (best l) (best r) d) ∙ ap (λ zs. has zs d) is in (
        ml + mr + 1,
        record {
          hit =
              λ e some. let b = both e in let one = apart_hit (has (best l) e)
              (has (best r) e) (none e) (sym (has-append (best l) (best r) e) ∙ some) in
              omega arith;
          any =
              λ e. let b = both e in
              let one = apart_any (has (best l) e) (has (best r) e) (none e) in
              omega arith;
          price = λ d.
              ap (λ n. min n (1 + (ml + mr + 1))) (both d)
              ∙ apart_price (ml + mr) (has (best l) d) (has (best r) d) (none d)
              ∙ ap (λ b. (ml + mr + 1) + miss b) (sym (has-append (best l) (best r) d));
          some = (
            left.some.0,
            has-append (best l) (best r) left.some.0
                ∙ or_left (has (best l) left.some.0) (has (best r) left.some.0) left.some.1,
          );
          inside = λ d is-best.
              elim (or_cases (has (best l) d) (has (best r) d)
              (sym (has-append (best l) (best r) d) ∙ is-best)) [
                | inl here ↦ left_inside d here
                | inr there ↦ right_inside d there
              ];
        },
      )
  halves_by (z ∷ zs) is =
      let says : (d : ℕ) → has (z ∷ zs) d ≡ (has (best l) d && has (best r) d) =
      λ d. ap (λ ys. has ys d) (sym is) ∙ has-shared (best l) (best r) d in (
        ml + mr,
        record {
          hit =
              λ e some. let b = both e in
              let none = both_hit (has (best l) e) (has (best r) e) (sym (says e) ∙ some) in
              omega arith;
          any = λ e. let b = both e in omega arith;
          price = λ d.
              ap (λ n. min n (1 + (ml + mr))) (both d)
              ∙ both_price (ml + mr) (has (best l) d) (has (best r) d)
              ∙ ap (λ b. (ml + mr) + miss b) (sym (says d));
          some = (z, has-first z zs);
          inside =
              λ d is-best. left_inside d
              ((and_parts (has (best l) d) (has (best r) d) (sym (says d) ∙ is-best)).0);
        },
      )

  pub halves_priced : (m : ℕ) × AreHalvesPriced l r (best (node l r)) m
  halves_priced = halves_by (shared (best l) (best r)) refl

-- the least price of the halves is that of a best leaf
pub halves_least : (l r : Tree ℕ) (bests : List ℕ) (m : ℕ) → AreHalvesPriced l r bests m
    → least_price (λ e. cost l e + cost r e) 0 (leaves l ++ leaves r) ≡ m
halves_least l r bests m halves =
    let e : ℕ = halves.some.0 in
    let at = halves.hit e halves.some.1 in
    let below = least-below (λ x. cost l x + cost r x) 0 (leaves l ++ leaves r) e
    (halves.inside e halves.some.1) in
    let above = least-above (λ x. cost l x + cost r x) 0 (leaves l ++ leaves r) m halves.any in
    omega arith

-- so the node is priced
pub node_priced : (l r : Tree ℕ) (m : ℕ) → AreHalvesPriced l r (best (node l r)) m
    → IsPriced (node l r) m
node_priced l r m halves = record {
  price =
      λ d. ap (λ n. min (cost l d + cost r d) (1 + n)) (halves_least l r (best (node l r)) m halves)
      ∙ halves.price d;
  some = halves.some;
  inside = halves.inside;
}

-- every tree is
pub priced : (t : Tree ℕ) → (m : ℕ) × IsPriced t m
priced (leaf x) = (
  0,
  record {
    price = λ d. by d (nat_eq d x);
    some = (x, has-first x []);
    inside = λ d is. is;
  },
)
  where
    by : (d : ℕ) (b : Bool) → (if b then 0 else 1) ≡ 0 + miss (b || false)
    by d true = refl
    by d false = refl
priced (node l r) =
    let left = priced l in
    let right = priced r in
    let halves = halves_priced l r left.0 right.0 left.1 right.1 in
    (halves.0, node_priced l r halves.0 halves.1)

-- the halves of a node, at its least price
pub halves_of : (l r : Tree ℕ) → (m : ℕ) × AreHalvesPriced l r (best (node l r)) m
halves_of l r =
    let left = priced l in let right = priced r in
    halves_priced l r left.0 right.0 left.1 right.1
