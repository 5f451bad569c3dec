-- What holds of each member of a list holds of those of lists that are made of it.
use Rattle.std.proofs.Common.{Bool, true, false, cond, List, [], ◌∷◌, ◌++◌, filter, filter_map}
use Rattle.std.proofs.Common.{flat_map, Option, None, Some}
use Rattle.std.specs.List.{AllByRecursion as Each, cons_option}

abbrev pub IfAny : {X : Type 0} → (X → Type 0) → Option X → Type 0
IfAny P None = Unit {0}
IfAny P (Some x) = P x

pub each_filter : {X : Type 0} (P : X → Type 0) (q : X → Bool) (xs : List X) → Each P xs
    → Each P (filter q xs)
each_filter P q [] e = tt
each_filter P q (x ∷ xs) e = by (q x) (each_filter P q xs e.1)
  where
    by : (b : Bool) → Each P (filter q xs) → Each P (cond b (x ∷ filter q xs) (filter q xs))
    by true more = (e.0, more)
    by false more = more

pub each_kept : {X Y : Type 0} (P : Y → Type 0) (f : X → Option Y)
    → ((x : X) → IfAny P (f x)) → (xs : List X) → Each P (filter_map f xs)
each_kept P f each [] = tt
each_kept P f each (x ∷ xs) = by (f x) (each x) (each_kept P f each xs)
  where
    by : (o : Option _) → IfAny P o → Each P (filter_map f xs)
        → Each P (cons_option o (filter_map f xs))
    by None one more = more
    by (Some y) one more = (one, more)

each_append : {X : Type 0} (P : X → Type 0) (xs ys : List X) → Each P xs → Each P ys
    → Each P (xs ++ ys)
each_append P [] ys e f = f
each_append P (x ∷ xs) ys e f = (e.0, each_append P xs ys e.1 f)

pub each_flat : {X Y : Type 0} (P : Y → Type 0) (f : X → List Y) (xs : List X)
    → Each (λ x. Each P (f x)) xs → Each P (flat_map f xs)
each_flat P f [] e = tt
each_flat P f (x ∷ xs) e = each_append P (f x) (flat_map f xs) e.0 (each_flat P f xs e.1)
