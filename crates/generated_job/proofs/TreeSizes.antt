-- How many nodes the tree of a function has that changes at few cut points.
use Rattle.std.proofs.Common.{◌≡◌, ℕ, zero, suc, ◌+◌, ◌*◌, ◌^◌, ◌<◌, ◌≤◌, ◌⊎◌, inl, inr, Bool, true}
use Rattle.std.proofs.Common.{false, ◌&&◌, nat_lt, List, [], ◌∷◌, length, refl, sym, ap, ap₂, subst}
use Rattle.std.proofs.Common.{◌∙◌, arith, cond, lit≤}
use Rattle.std.proofs.lemmas.Bool.{and_from, and_parts, lt-ltb, ltb-true}
use Rattle.std.proofs.lemmas.List.Sums.{sum_by-cons}
use Rattle.std.proofs.Math.Nat.{mul-le-mul_left, two-pow-succ}
use Rattle.std.specs.Prelude.{if◌then◌else◌}
use Rattle.std.specs.List.{count_by}
use Rattle.trie_core.specs.Tree.{Tree, leaf, node, join, tree}
use Rattle.trie_core.specs.Laws.{IsEquality}
use Rattle.trie_core.proofs.TreeLemmas.{join-leaf}

-- how many nodes the walk comes to
abbrev pub size : {A : Type 0} → Tree A → ℕ
size (leaf a) = 0
size (node l r) = suc (size l + size r)

-- a number is one of a list
abbrev pub Among : ℕ → List ℕ → Type 0
Among c [] = ⊥
Among c (x ∷ xs) = (x ≡ c) ⊎ Among c xs

-- whether a cut point lies above the one end and below the other, and how many of them do
abbrev is_inside : (low high c : ℕ) → Bool
is_inside low high c = nat_lt low c && nat_lt c high

abbrev pub inside : (low high : ℕ) → List ℕ → ℕ
inside low high cs = count_by (is_inside low high) cs

is_above : (low high c : ℕ) → is_inside low high c ≡ true → low < c
is_above low high c is = ltb-true low c (and_parts (nat_lt low c) (nat_lt c high) is).0

is_below : (low high c : ℕ) → is_inside low high c ≡ true → c < high
is_below low high c is = ltb-true c high (and_parts (nat_lt low c) (nat_lt c high) is).1

lies_inside : (low high c : ℕ) → low < c → c < high → is_inside low high c ≡ true
lies_inside low high c above below =
    and_from (nat_lt low c) (nat_lt c high) (lt-ltb low c above) (lt-ltb c high below)

-- a cut point is inside one of two parts at most, and then it is inside the whole
one_part : (p q r : Bool) → (p ≡ true → q ≡ true → ⊥) → (p ≡ true → r ≡ true)
    → (q ≡ true → r ≡ true) → cond {A = ℕ} p 1 0 + cond {A = ℕ} q 1 0 ≤ cond {A = ℕ} r 1 0
one_part true true r apart left right = absurd (apart refl refl)
one_part true false r apart left right = let is : cond {A = ℕ} r 1 0 ≡ 1 =
    ap (λ (b : Bool). cond {A = ℕ} b 1 0) (left refl) in omega arith
one_part false true r apart left right = let is : cond {A = ℕ} r 1 0 ≡ 1 =
    ap (λ (b : Bool). cond {A = ℕ} b 1 0) (right refl) in omega arith
one_part false false r apart left right = omega arith

parts : (low mid high : ℕ) → low ≤ mid → mid ≤ high → (cs : List ℕ)
    → inside low mid cs + inside mid high cs ≤ inside low high cs
parts low mid high up more [] = lit≤ tt
parts low mid high up more (c ∷ cs) =
    let here = one_part (is_inside low mid c) (is_inside mid high c) (is_inside low high c)
    (λ l r. let x = is_below low mid c l in let y = is_above mid high c r in omega arith)
    (λ l. lies_inside low high c (is_above low mid c l)
    (let x = is_below low mid c l in omega arith))
    (λ r. lies_inside low high c (let x = is_above mid high c r in omega arith)
    (is_below mid high c r)) in
    omega (
      arith,
      here,
      parts low mid high up more cs,
      sum_by-cons (λ x. cond {A = ℕ} (is_inside low mid x) 1 0) c cs,
      sum_by-cons (λ x. cond {A = ℕ} (is_inside mid high x) 1 0) c cs,
      sum_by-cons (λ x. cond {A = ℕ} (is_inside low high x) 1 0) c cs,
    )

-- where none is inside, no cut point of the list is
none_inside : (low high c : ℕ) (cs : List ℕ) → inside low high cs ≡ 0 → Among c cs → low < c
    → c < high → ⊥
none_inside low high c [] none there above below = there
none_inside low high c (x ∷ xs) none (inl is) above below =
    let one : cond {A = ℕ} (is_inside low high x) 1 0 ≡ 1 =
    ap (λ (b : Bool). cond {A = ℕ} b 1 0)
    (subst (λ y. is_inside low high y ≡ true) (sym is) (lies_inside low high c above below)) in
    omega (arith, one, none, sum_by-cons (λ y. cond {A = ℕ} (is_inside low high y) 1 0) x xs)
none_inside low high c (x ∷ xs) none (inr there) above below =
    none_inside low high c xs
    (omega (arith, none, sum_by-cons (λ y. cond {A = ℕ} (is_inside low high y) 1 0) x xs)) there
    above below

all_inside : (low high : ℕ) (cs : List ℕ) → inside low high cs ≤ length cs
all_inside low high [] = lit≤ tt
all_inside low high (c ∷ cs) =
    let one : cond {A = ℕ} (is_inside low high c) 1 0 ≤ 1 = at_most (is_inside low high c) in
    omega (
      arith,
      one,
      all_inside low high cs,
      sum_by-cons (λ y. cond {A = ℕ} (is_inside low high y) 1 0) c cs,
    )
  where
    at_most : (b : Bool) → cond {A = ℕ} b 1 0 ≤ 1
    at_most true = lit≤ tt
    at_most false = lit≤ tt

-- at two addresses with none of these cut points above the lower and at or below the higher one the
-- answer is the same
abbrev pub ChangesAt : {A : Type 0} → (ℕ → A) → List ℕ → Type 0
ChangesAt f cuts = (a b : ℕ) → a ≤ b → ((c : ℕ) → a < c → c ≤ b → Among c cuts → ⊥) → f a ≡ f b

module _ {A : Type 0} (eq : A → A → Bool) (equality : IsEquality eq) (f : ℕ → A) where
  size-join : (l r : Tree A) → size (join eq l r) ≤ suc (size l + size r)
  size-join (leaf a) (leaf b) = by (eq a b)
    where
      by : (t : Bool) → size (if t then leaf a else node (leaf a) (leaf b)) ≤ 1
      by true = lit≤ tt
      by false = lit≤ tt
  size-join (leaf a) (node l r) = omega arith
  size-join (node l r) t = omega arith

  constant_tree : (n first : ℕ) (x : A) → ((a : ℕ) → first ≤ a → a < first + 2 ^ n → f a ≡ x)
      → tree eq f n first ≡ leaf x
  unfolding tree
  constant_tree zero first x all = ap leaf (all first (omega arith) (omega arith))
  constant_tree (suc n) first x all =
      let whole = two-pow-succ n in
      ap₂ (join eq) (constant_tree n first x (λ a low high. all a low (omega (arith, whole))))
      (constant_tree n (first + 2 ^ n) x (λ a low high. all a (omega arith) (omega (arith, whole))))
      ∙ join-leaf eq equality x

  module _ (cuts : List ℕ) (changes : ChangesAt f cuts) where
    by : (n first : ℕ) → size (tree eq f n first) ≤ n * inside first (first + 2 ^ n) cuts
        → size (tree eq f n (first + 2 ^ n)) ≤ n * inside (first + 2 ^ n) (first + 2 ^ suc n) cuts
        → (k : ℕ) → inside first (first + 2 ^ suc n) cuts ≡ k
        → size (tree eq f (suc n) first) ≤ suc n * inside first (first + 2 ^ suc n) cuts
    unfolding tree
    by n first left right zero none =
        let flat = constant_tree (suc n) first (f first) (λ a low high.
        sym (changes first a low
        (λ c above below there.
        none_inside first (first + 2 ^ suc n) c cuts none there above (omega arith)))) in
        let nothing : size (tree eq f (suc n) first) ≡ 0 = ap size flat in
        omega (arith, nothing)
    by n first left right (suc k) some =
        let whole = two-pow-succ n in
        let mid = first + 2 ^ n in
        let high = first + 2 ^ suc n in
        let both = mul-le-mul_left n
        (parts first mid high (omega arith) (omega (arith, whole)) cuts) in
        omega (arith, size-join (tree eq f n first) (tree eq f n mid), left, right, both, some)

    few_here : (n first : ℕ) → size (tree eq f n first) ≤ n * inside first (first + 2 ^ n) cuts
    unfolding tree
    few_here zero first = omega arith
    few_here (suc n) first =
        let mid = first + 2 ^ n in
        let end : mid + 2 ^ n ≡ first + 2 ^ suc n = omega (arith, two-pow-succ n) in
        by n first (few_here n first)
        (subst (λ e. size (tree eq f n mid) ≤ n * inside mid e cuts) end (few_here n mid))
        (inside first (first + 2 ^ suc n) cuts) refl

    -- no more than so many for each bit of an address and each cut point
    pub few_nodes : (n first : ℕ) → size (tree eq f n first) ≤ n * length cuts
    few_nodes n first =
        let most = mul-le-mul_left n (all_inside first (first + 2 ^ n) cuts) in
        omega (arith, few_here n first, most)
