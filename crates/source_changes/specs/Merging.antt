-- How the statements that changed are found: both lists side by side in one order.
use Rattle.std.specs.Prelude.{List, [], ◌∷◌}
use Rattle.std.specs.declared.cmp.Ordering.{Ordering}
use Rattle.std.specs.Ordering.{match_ordering}

module _ {X : Type 0} (order : X → X → Ordering) where
  -- one member of the old list against the new list, where the rest of
  -- the old one is compared already
  abbrev pub past : X → (List X → List X) → List X → List X
  past x rest [] = x ∷ rest []
  past x rest (y ∷ ys) =
      match_ordering (order x y) (x ∷ rest (y ∷ ys)) (rest ys) (y ∷ past x rest ys)

  -- of two lists in order, the members that stand in one of them alone
  abbrev pub differing : List X → List X → List X
  differing [] ys = ys
  differing (x ∷ xs) ys = past x (differing xs) ys
