-- Lemmas on which leaves a list has.
use Rattle.std.proofs.Common.{◌≡◌, inl, inr, ◌⊎◌, ℕ, Bool, true, false, ◌&&◌, ◌||◌, nat_eq}
use Rattle.std.proofs.Common.{if◌then◌else◌, List, [], ◌∷◌, ◌++◌, filter, refl, sym, ap, ◌∙◌}
use Rattle.trie_core.proofs.TreeLemmas.{nat_equality}
use Rattle.std.proofs.lemmas.Bool.{or_cases}
use Rattle.publish_least.specs.Price.{has, shared}

-- a number is itself
pub same_number : (x : ℕ) → nat_eq x x ≡ true
same_number x = (nat_equality x x).1 refl

-- a list has its first element
pub has-first : (x : ℕ) (xs : List ℕ) → has (x ∷ xs) x ≡ true
has-first x xs = ap (λ b. b || has xs x) (same_number x)

or_true : (b : Bool) → (b || true) ≡ true
or_true true = refl
or_true false = refl

-- and those of its rest
pub has-rest : (d x : ℕ) (xs : List ℕ) → has xs d ≡ true → has (x ∷ xs) d ≡ true
has-rest d x xs is = ap (λ b. nat_eq d x || b) is ∙ or_true (nat_eq d x)

-- an element is the first one or one of the rest
pub has-cases : (d x : ℕ) (xs : List ℕ) → has (x ∷ xs) d ≡ true → (d ≡ x) ⊎ (has xs d ≡ true)
has-cases d x xs is = elim (or_cases (nat_eq d x) (has xs d) is) [
  | inl here ↦ inl ((nat_equality d x).0 here)
  | inr later ↦ inr later
]

or_assoc : (a b c : Bool) → (a || (b || c)) ≡ ((a || b) || c)
or_assoc true b c = refl
or_assoc false b c = refl

-- two lists one after the other
pub has-append : (xs ys : List ℕ) (d : ℕ) → has (xs ++ ys) d ≡ (has xs d || has ys d)
has-append [] ys d = refl
has-append (x ∷ xs) ys d =
    ap (λ b. nat_eq d x || b) (has-append xs ys d) ∙ or_assoc (nat_eq d x) (has xs d) (has ys d)

-- one element of a filtered list
filter_step : (ys : List ℕ) (x d : ℕ) (rest : List ℕ) (p : Bool) (e : Bool) → has ys x ≡ p
    → nat_eq d x ≡ e → has rest d ≡ (has (filter (has ys) []) d || has rest d)
    → has (if p then x ∷ rest else rest) d ≡ ((e && p) || has rest d)
filter_step ys x d rest true true at same _ = ap (λ b. b || has rest d) same
filter_step ys x d rest true false at same _ = ap (λ b. b || has rest d) same
filter_step ys x d rest false true at same _ = refl
filter_step ys x d rest false false at same _ = refl

-- an element of a list that is the same number as d: the second list has either or neither
and_same : (e p q h : Bool) → (e ≡ true → p ≡ q) → ((e && p) || (h && q)) ≡ ((e || h) && q)
and_same true true true h same = refl
and_same true true false h same = absurd (cc (same refl))
and_same true false true h same = absurd (cc (same refl))
and_same true false false true same = refl
and_same true false false false same = refl
and_same false p q h same = refl

-- what two lists share is what both have
pub has-shared : (xs ys : List ℕ) (d : ℕ) → has (shared xs ys) d ≡ (has xs d && has ys d)
has-shared [] ys d = refl
has-shared (x ∷ xs) ys d =
    let adds : has (shared (x ∷ xs) ys) d ≡ ((nat_eq d x && has ys x) || has (shared xs ys) d) =
    filter_step ys x d (shared xs ys) (has ys x) (nat_eq d x) refl refl refl in
    let rest : ((nat_eq d x && has ys x) || has (shared xs ys) d)
    ≡ ((nat_eq d x && has ys x) || (has xs d && has ys d)) =
    ap (λ b. (nat_eq d x && has ys x) || b) (has-shared xs ys d) in
    adds ∙ rest ∙ and_same (nat_eq d x) (has ys x) (has ys d) (has xs d)
    (λ same. ap (has ys) (sym ((nat_equality d x).0 same)))
