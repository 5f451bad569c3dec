-- Lists of what is seen as something else: a sort of them, and what holds of each.
use Rattle.std.proofs.Common.{◌≡◌, zero, suc, ◌+◌, Bool, List, [], ◌∷◌, map, refl, ap, arith}
use Rattle.std.specs.List.{AllByRecursion}
use Rattle.std.specs.List.Sorted.{IsSortedBy}

module _ {Y Z : Type 0} (seen : Y → Z) where
  pub sorted_seen : (lt : Z → Z → Bool) (ys : List Y) → IsSortedBy (λ x y. lt (seen x) (seen y)) ys
      → IsSortedBy lt (map seen ys)
  sorted_seen lt [] h k d low below = absurd (omega arith)
  sorted_seen lt (x ∷ []) h k d low below = absurd (omega arith)
  sorted_seen lt (x ∷ y ∷ ys) h zero d low below = h 0 x (omega arith) (omega arith)
  sorted_seen lt (x ∷ y ∷ ys) h (suc k) d low below =
      let n : suc k + 1 ≡ suc (k + 1) = omega arith in rw n
      (sorted_seen lt (y ∷ ys) (λ j e le within. let f : suc j + 1 ≡ suc (j + 1) = omega arith in
      rw f at (h (suc j) e (omega arith) (omega arith))) k d (omega arith) (omega arith))

  pub each_seen : (P : Z → Type 0) (ys : List Y) → AllByRecursion (λ y. P (seen y)) ys
      → AllByRecursion P (map seen ys)
  each_seen P [] h = tt
  each_seen P (y ∷ ys) h = (h.0, each_seen P ys h.1)

pub map_map : {X Y Z : Type 0} (f : X → Y) (g : Y → Z) (xs : List X)
    → map g (map f xs) ≡ map (λ x. g (f x)) xs
map_map f g [] = refl
map_map f g (x ∷ xs) = ap (λ zs. g (f x) ∷ zs) (map_map f g xs)
