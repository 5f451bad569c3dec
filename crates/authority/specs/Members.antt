-- Lists with the same members, in whatever order they stand.
use Rattle.std.specs.Prelude.{◌≡◌, ℕ, ◌+◌, List, [], ◌∷◌}

-- the sum of what each member weighs
abbrev pub weight : {X : Type 0} → (X → ℕ) → List X → ℕ
weight f [] = 0
weight f (x ∷ xs) = f x + weight f xs

-- the same members, each as often: they weigh the same, whatever is weighed
abbrev pub HaveAlike : {X : Type 0} → List X → List X → Type 0
HaveAlike {X} xs ys = (f : X → ℕ) → weight f ys ≡ weight f xs
