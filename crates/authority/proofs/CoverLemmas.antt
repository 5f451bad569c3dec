-- Where one reference covers a block, there is a first one that does.
use Rattle.std.proofs.Common.{◌≡◌, ℕ, Bool, true, false, cond, ◌&&◌, ◌||◌, List, [], ◌∷◌, Option}
use Rattle.std.proofs.Common.{None, Some, refl}
use Rattle.std.specs.Prelude.{filter, fold, is_some, option_map}
use Rattle.std.specs.List.{list_any}
use Rattle.geo_addr.specs.Ranges.{Prefix}
use Rattle.geo_terms.specs.Covering.{covering}
use Rattle.geo_terms.specs.First.{better}
use Rattle.geo_terms.specs.PlaceForm.{same_text}
use Rattle.geo_terms.specs.Precedence.{reference_before}
use Rattle.geo_terms.specs.Report.{covers, is_covered}
use Rattle.geo_terms.specs.declared.statement.Reference.{Reference}

module _ {X : Type 0} (before : X → X → Bool) (p : X → Bool) where
  -- a first one stays there, whatever else comes
  stays : (x : X) (xs : List X) → is_some (fold (better before) (Some x) (filter p xs)) ≡ true
  stays x [] = refl
  stays x (y ∷ ys) =
      elim (p y)
      as (λ b. is_some (fold (better before) (Some x) (cond b (y ∷ filter p ys) (filter p ys)))
      ≡ true) [
        | true ↦ stays (cond (before y x) y x) ys
        | false ↦ stays x ys
      ]

  pub first_there : (xs : List X)
      → is_some (fold (better before) None (filter p xs)) ≡ list_any p xs
  first_there [] = refl
  first_there (y ∷ ys) =
      elim (p y)
      as (λ b. is_some (fold (better before) None (cond b (y ∷ filter p ys) (filter p ys)))
      ≡ (b || list_any p ys)) [
        | true ↦ stays y ys
        | false ↦ first_there ys
      ]

-- what is there is there when it is mapped
pub still_there : {X Y : Type 0} (o : Option X) (f : X → Y) → is_some o ≡ is_some (option_map f o)
still_there None f = refl
still_there (Some x) f = refl

pub covered_by_one : (rs : List Reference) (url : List ℕ) (b : Prefix)
    → is_some (covering rs url b) ≡ is_covered rs url b
covered_by_one rs url b =
    first_there reference_before (λ (r : Reference). same_text r.url url && covers r b) rs
