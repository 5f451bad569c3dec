-- The statements of an old and a new list that have no partner in the other one, repeats counted.
use Rattle.std.specs.Prelude.{Bool, List, [], ◌∷◌, ◌++◌, if◌then◌else◌}

module _ {X : Type 0} (same : X → X → Bool) where
  -- the list without its first member that is the same as this one
  abbrev pub take_out : X → List X → List X
  take_out x [] = []
  take_out x (y ∷ ys) = if same x y then ys else y ∷ take_out x ys

  -- what is left of a list when each member of another one has taken out its partner
  abbrev pub without : List X → List X → List X
  without xs [] = xs
  without xs (y ∷ ys) = without (take_out y xs) ys

  -- what is left of the old list without the new one, and of the new one without the old one
  abbrev pub changed : List X → List X → List X
  changed old new = without old new ++ without new old
