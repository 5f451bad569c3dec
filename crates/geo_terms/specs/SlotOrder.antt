-- Sources of one kind in the order of their slots or URLs.
use Rattle.std.specs.Prelude.{◌≡◌, ℕ, not, List, [], ◌∷◌, AllPairs, filter}
use Rattle.std.specs.declared.cmp.Ordering.{Ordering}
use Rattle.std.specs.Ordering.{match_ordering}
use Rattle.geo_terms.specs.PlaceForm.{same_text}
use Rattle.geo_terms.specs.Precedence.{text_cmp}

-- the names ascend by their bytes, so each is there once
abbrev pub AreInOrder : {X : Type 0} → (X → List ℕ) → List X → Type 0
AreInOrder name xs = AllPairs (λ x y. text_cmp (name x) (name y) ≡ Ordering.Less) xs

-- the sources with one more: it replaces the one with its name,
-- or goes where it belongs in the order
abbrev pub placed : {X : Type 0} → (X → List ℕ) → X → List X → List X
placed name x [] = x ∷ []
placed name x (y ∷ ys) =
    match_ordering (text_cmp (name x) (name y)) (x ∷ y ∷ ys) (x ∷ ys) (y ∷ placed name x ys)

-- the sources without the one of a name
abbrev pub removed : {X : Type 0} → (X → List ℕ) → List ℕ → List X → List X
removed name n xs = filter (λ x. not (same_text (name x) n)) xs
