-- Statistics files that are shared, in the order of their slots, and the index of their rows.
use Rattle.std.proofs.Common.{◌≡◌, ◌∙◌, ℕ, zero, suc, ◌<◌, List, []}
use Rattle.std.proofs.Common.{◌∷◌, map, length, get_or, Option}
use Rattle.std.proofs.Common.{Some, None, refl, ap, sym, subst, arith}
use Rattle.std.specs.Arc.{arc_value}
use Rattle.std.specs.List.{find}
use Rattle.std.specs.Option.{option_map}
use Rattle.std.specs.declared.sync.Arc.{Arc}
use Rattle.geo_terms.specs.PlaceForm.{same_text}
use Rattle.geo_terms.specs.Precedence.{text_cmp}
use Rattle.geo_terms.specs.SlotOrder.{AreInOrder, placed, removed}
use Rattle.geo_terms.specs.SourceForm.{StatsParts}
use Rattle.authority.proofs.HeldLemmas.{find_map, placed_map, removed_map}
use Rattle.precedence.specs.Delegations.{AreIndexed, IsIndex, slot_of}
use Rattle.precedence.specs.declared.delegations.Delegations.{Delegations}

module _ {Z : Type 0} where
  -- what holds of an index that is made holds of the same index once more
  pub made_same : (ts : List StatsParts) (old new : Option (Arc Delegations Z))
      → option_map arc_value new ≡ option_map arc_value old → AreIndexed ts old → AreIndexed ts new
  made_same ts old None e h = tt
  made_same ts None (Some made) e h = absurd (let f : Some (arc_value made) ≡ None = e in cc)
  made_same ts (Some old) (Some made) e h = subst (IsIndex ts) (sym (some_same e)) h
    where
      some_same : {x y : Delegations} → Some x ≡ Some y → x ≡ y
      some_same f = cc

  pub files_placed : (t : Arc StatsParts Z) (ts new : List (Arc StatsParts Z)) (x : StatsParts)
      → new ≡ placed slot_of t ts → arc_value t ≡ x
      → map arc_value new ≡ placed (λ t. t.slot) x (map arc_value ts)
  files_placed t ts new x is own =
      ap (map (arc_value {X = StatsParts})) is
      ∙ placed_map (arc_value {X = StatsParts}) (λ t. t.slot) t ts
      ∙ ap (λ (y : StatsParts). placed (λ t. t.slot) y (map arc_value ts)) own

  pub files_removed : (n : List ℕ) (ts new : List (Arc StatsParts Z)) → new ≡ removed slot_of n ts
      → map arc_value new ≡ removed (λ t. t.slot) n (map arc_value ts)
  files_removed n ts new is =
      ap (map (arc_value {X = StatsParts})) is
      ∙ removed_map (arc_value {X = StatsParts}) (λ t. t.slot) n ts

  pub file_found : (n : List ℕ) (ts : List (Arc StatsParts Z)) (o : Option (Arc StatsParts Z))
      → o ≡ find (λ t. same_text (slot_of t) n) ts
      → option_map arc_value o ≡ find (λ t. same_text t.slot n) (map arc_value ts)
  file_found n ts o is =
      ap (option_map (arc_value {X = StatsParts})) is
      ∙ find_map (arc_value {X = StatsParts}) (λ t. t.slot) n ts

same_length : {X Y : Type 0} (f : X → Y) (xs : List X) → length (map f xs) ≡ length xs
same_length f [] = refl
same_length f (x ∷ xs) = ap suc (same_length f xs)

-- names in order among values that share them are in order among the values
pub order_over : {X Y : Type 0} (f : X → Y) (name : Y → List ℕ) (xs : List X)
    → AreInOrder (λ x. name (f x)) xs → AreInOrder name (map f xs)
order_over f name xs h i j d lt below =
    let within : j < length xs = omega (arith, same_length f xs) in
    let at_i : get_or (map f xs) i d ≡ f (get_or xs i (some xs j within)) =
    in_map f xs i d (some xs j within) (omega arith) in
    let at_j : get_or (map f xs) j d ≡ f (get_or xs j (some xs j within)) =
    in_map f xs j d (some xs j within) within in
    ap (λ y. text_cmp (name y) (name (get_or (map f xs) j d))) at_i
    ∙ ap (λ y. text_cmp (name (f (get_or xs i (some xs j within)))) (name y)) at_j
    ∙ h i j (some xs j within) lt within
  where
    some : {X : Type 0} (xs : List X) (j : ℕ) → j < length xs → X
    some [] j lt = absurd (omega arith)
    some (x ∷ xs) j lt = x

    in_map : {X Y : Type 0} (f : X → Y) (xs : List X) (k : ℕ) (d : Y) (e : X) → k < length xs
        → get_or (map f xs) k d ≡ f (get_or xs k e)
    in_map f [] k d e lt = absurd (omega arith)
    in_map f (x ∷ xs) zero d e lt = refl
    in_map f (x ∷ xs) (suc k) d e lt = in_map f xs k d e (omega arith)
