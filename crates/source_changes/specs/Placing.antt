-- Several sources that are put among others in the order of their names.
use Rattle.std.specs.Prelude.{◌≡◌, ℕ, ◌+◌, ◌≤◌, List, [], ◌∷◌, ◌++◌, drop, length, take, None}
use Rattle.std.specs.List.{AllByRecursion}
use Rattle.geo_terms.specs.SlotOrder.{AreInOrder, placed}
use Rattle.source_changes.specs.Changes.{named}

-- the sources with several more, one after another from the last on
abbrev pub all_placed : {X : Type 0} → (X → List ℕ) → (more xs : List X) → List X
all_placed name [] xs = xs
all_placed name (x ∷ more) xs = placed name x (all_placed name more xs)

-- none of these sources has a name of those
abbrev pub AreApart : {X : Type 0} → (X → List ℕ) → (xs more : List X) → Type 0
AreApart name xs more = AllByRecursion (λ x. named name (name x) xs ≡ None) more

-- those behind so many sources were put over the ones of their names, or stayed behind
pub record IsPutOver {X : Type 0} (name : X → List ℕ) (count : ℕ) (old new : List X) : Type 0 where
  pub within : count ≤ length new
  pub order : AreInOrder name (take count new)
  pub others : AreInOrder name (drop count new)
  pub apart : AreApart name (take count new) (drop count new)
  pub same : all_placed name (drop count new) (take count new)
      ≡ all_placed name (drop count old) (take count old)

-- two neighbouring parts of a list have changed places
abbrev pub HaveTurned : {X : Type 0} → (old new : List X) → (first middle end : ℕ) → Type 0
HaveTurned {X} old new first middle end =
    (a b c d : List X) → old ≡ a ++ (b ++ (c ++ d)) → length a ≡ first
    → length a + length b ≡ middle → length a + length b + length c ≡ end
    → new ≡ a ++ (c ++ (b ++ d))
