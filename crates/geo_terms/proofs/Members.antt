-- The members of a list, and those that pass a test.
use Rattle.std.proofs.Common.{◌≡◌, zero, suc, ◌⊎◌, Bool, true, false, cond, List, [], ◌∷◌, Contains}
use Rattle.std.proofs.Common.{refl, ap, ◌∙◌, subst, inl, inr, arith}
use Rattle.std.specs.List.{AllByRecursion, filter}

-- a member of a list
abbrev pub Among : {X : Type 0} → X → List X → Type 0
Among x [] = ⊥
Among x (y ∷ ys) = (y ≡ x) ⊎ Among x ys

pub all_among : {X : Type 0} (P : X → Type 0) (x : X) (xs : List X) → AllByRecursion P xs
    → Among x xs → P x
all_among P x [] all is = absurd is
all_among P x (y ∷ ys) all (inl e) = subst P e all.0
all_among P x (y ∷ ys) all (inr later) = all_among P x ys all.1 later

pub among_from_contains : {X : Type 0} (x : X) (xs : List X) → Contains xs x → Among x xs
among_from_contains x [] is = absurd (omega (arith, is.1))
among_from_contains x (y ∷ ys) (zero, below, e) = inl e
among_from_contains x (y ∷ ys) (suc k, below, e) =
    inr (among_from_contains x ys (k, omega arith, e))

pub contains_from_among : {X : Type 0} (x : X) (xs : List X) → Among x xs → Contains xs x
contains_from_among x [] is = absurd is
contains_from_among x (y ∷ ys) (inl e) = (0, omega arith, e)
contains_from_among x (y ∷ ys) (inr later) =
    let at = contains_from_among x ys later in
    (suc at.0, omega (arith, at.1), at.2)

pub among_filter : {X : Type 0} (p : X → Bool) (x : X) (xs : List X) → Among x xs → p x ≡ true
    → Among x (filter p xs)
among_filter p x [] is passes = absurd is
among_filter p x (y ∷ ys) (inl e) passes = rw (ap p e ∙ passes) (inl e)
among_filter p x (y ∷ ys) (inr later) passes =
    elim (p y) as (λ b. Among x (cond b (y ∷ filter p ys) (filter p ys))) [
      | true ↦ inr (among_filter p x ys later passes)
      | false ↦ among_filter p x ys later passes
    ]

-- what holds of each member that passes holds of each member that is kept
pub all_filter : {X : Type 0} (p : X → Bool) (P : X → Type 0) (xs : List X)
    → AllByRecursion (λ x. p x ≡ true → P x) xs → AllByRecursion P (filter p xs)
all_filter p P [] all = tt
all_filter p P (x ∷ xs) all =
    elim (p x) as (λ b. p x ≡ b → AllByRecursion P (cond b (x ∷ filter p xs) (filter p xs))) [
      | true ↦ λ e. (all.0 e, all_filter p P xs all.1)
      | false ↦ λ e. all_filter p P xs all.1
    ] refl

pub none_kept : {X : Type 0} (p : X → Bool) (xs : List X) → AllByRecursion (λ x. p x ≡ false) xs
    → filter p xs ≡ []
none_kept p [] all = refl
none_kept p (x ∷ xs) all = rw all.0 (none_kept p xs all.1)
