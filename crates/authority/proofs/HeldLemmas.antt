-- Sources behind their owners: what holds of them holds of the sources themselves.
use Rattle.std.proofs.Common.{◌≡◌, ℕ, zero, suc, true, false, cond, not, Less, Equal, Greater}
use Rattle.std.proofs.Common.{List, [], ◌∷◌, length, get_or, map, Option, Some, refl, sym, ap, ◌∙◌}
use Rattle.std.proofs.Common.{None, subst, arith}
use Rattle.std.specs.List.{AllZip, find}
use Rattle.std.specs.Option.{option_map}
use Rattle.std.specs.Ordering.{match_ordering}
use Rattle.geo_terms.specs.PlaceForm.{same_text}
use Rattle.geo_terms.specs.Precedence.{text_cmp}
use Rattle.geo_terms.specs.SlotOrder.{AreInOrder, placed, removed}
use Rattle.geo_terms.specs.SourceForm.{DumpParts}
use Rattle.geo_terms.specs.declared.statement.Reference.{Reference}
use Rattle.std.specs.Arc.{arc_value}
use Rattle.std.specs.declared.sync.Arc.{Arc}
use Rattle.authority.specs.Held.{AreMade, AreSpeakers, slot_of}
use Rattle.authority.specs.declared.speakers.Speakers.{Speakers}

module _ {A X : Type 0} (v : A → X) (name : X → List ℕ) where
  pub placed_map : (x : A) (ys : List A)
      → map v (placed (λ a. name (v a)) x ys) ≡ placed name (v x) (map v ys)
  placed_map x [] = refl
  placed_map x (y ∷ ys) =
      elim (text_cmp (name (v x)) (name (v y))) as (λ o. map v
      (match_ordering o (x ∷ y ∷ ys) (x ∷ ys) (y ∷ placed (λ a. name (v a)) x ys)) ≡ match_ordering
      o (v x ∷ v y ∷ map v ys) (v x ∷ map v ys) (v y ∷ placed name (v x) (map v ys))) [
        | Less ↦ refl
        | Equal ↦ refl
        | Greater ↦ ap (λ zs. v y ∷ zs) (placed_map x ys)
      ]

  pub removed_map : (n : List ℕ) (ys : List A)
      → map v (removed (λ a. name (v a)) n ys) ≡ removed name n (map v ys)
  removed_map n [] = refl
  removed_map n (y ∷ ys) =
      elim (same_text (name (v y)) n) as (λ b.
      map v (cond (not b) (y ∷ removed (λ a. name (v a)) n ys) (removed (λ a. name (v a)) n ys))
      ≡ cond (not b) (v y ∷ removed name n (map v ys)) (removed name n (map v ys))) [
        | true ↦ removed_map n ys
        | false ↦ ap (λ zs. v y ∷ zs) (removed_map n ys)
      ]

  pub find_map : (n : List ℕ) (ys : List A) → option_map v (find (λ a. same_text (name (v a)) n) ys)
      ≡ find (λ x. same_text (name x) n) (map v ys)
  find_map n [] = refl
  find_map n (y ∷ ys) =
      elim (same_text (name (v y)) n)
      as (λ b. option_map v (cond b (Some y) (find (λ a. same_text (name (v a)) n) ys))
      ≡ cond b (Some (v y)) (find (λ x. same_text (name x) n) (map v ys))) [
        | true ↦ refl
        | false ↦ find_map n ys
      ]

-- lists with the same values
module _ {A X : Type 0} (v : A → X) where
  get_map : (ys : List A) (i : ℕ) (d : A) → v (get_or ys i d) ≡ get_or (map v ys) i (v d)
  get_map [] i d = refl
  get_map (y ∷ ys) zero d = refl
  get_map (y ∷ ys) (suc i) d = get_map ys i d

  length_map : (ys : List A) → length (map v ys) ≡ length ys
  length_map [] = refl
  length_map (y ∷ ys) = ap suc (length_map ys)

  pub order_same : (name : X → List ℕ) (xs ys : List A) → map v ys ≡ map v xs
      → AreInOrder (λ a. name (v a)) xs → AreInOrder (λ a. name (v a)) ys
  order_same name xs ys same up i j d lt below =
      let long : length ys ≡ length xs = sym (length_map ys) ∙ ap length same ∙ length_map xs in
      let at : (k : ℕ) → v (get_or xs k d) ≡ v (get_or ys k d) =
      (λ k. get_map xs k d ∙ ap (λ zs. get_or zs k (v d)) (sym same) ∙ sym (get_map ys k d)) in
      ap (λ z. text_cmp (name z) (name (v (get_or ys j d)))) (sym (at i))
      ∙ ap (λ z. text_cmp (name (v (get_or xs i d))) (name z)) (sym (at j))
      ∙ up i j d lt (omega (arith, below, long))

  pub clones_same : (xs ys : List A) → AllZip (λ c d. v d ≡ v c) xs ys → map v ys ≡ map v xs
  clones_same [] [] h = refl
  clones_same [] (y ∷ ys) h = absurd h
  clones_same (x ∷ xs) [] h = absurd h
  clones_same (x ∷ xs) (y ∷ ys) h = rw (h.0, clones_same xs ys h.1) refl

module _ {Z : Type 0} where
  -- what holds of an index that is made holds of the same index once more
  pub made_same : (rs : List Reference) (old new : Option (Arc Speakers Z))
      → option_map arc_value new ≡ option_map arc_value old → AreMade rs old → AreMade rs new
  made_same rs old None e h = tt
  made_same rs None (Some made) e h = absurd (let f : Some (arc_value made) ≡ None = e in cc)
  made_same rs (Some old) (Some made) e h =
      subst (AreSpeakers rs) (sym (some_same e)) h
    where
      some_same : {x y : Speakers} → Some x ≡ Some y → x ≡ y
      some_same f = cc

  -- what is put among dumps or taken out, and what is found
  pub dumps_placed : (d : Arc DumpParts Z) (ds new : List (Arc DumpParts Z)) (x : DumpParts)
      → new ≡ placed slot_of d ds → arc_value d ≡ x
      → map arc_value new ≡ placed (λ d. d.slot) x (map arc_value ds)
  dumps_placed d ds new x is own =
      ap (map (arc_value {X = DumpParts})) is
      ∙ placed_map (arc_value {X = DumpParts}) (λ d. d.slot) d ds
      ∙ ap (λ (y : DumpParts). placed (λ d. d.slot) y (map arc_value ds)) own

  pub dumps_removed : (n : List ℕ) (ds new : List (Arc DumpParts Z)) → new ≡ removed slot_of n ds
      → map arc_value new ≡ removed (λ d. d.slot) n (map arc_value ds)
  dumps_removed n ds new is =
      ap (map (arc_value {X = DumpParts})) is
      ∙ removed_map (arc_value {X = DumpParts}) (λ d. d.slot) n ds

  pub dump_found : (n : List ℕ) (ds : List (Arc DumpParts Z)) (o : Option (Arc DumpParts Z))
      → o ≡ find (λ d. same_text (slot_of d) n) ds
      → option_map arc_value o ≡ find (λ d. same_text d.slot n) (map arc_value ds)
  dump_found n ds o is =
      ap (option_map (arc_value {X = DumpParts})) is
      ∙ find_map (arc_value {X = DumpParts}) (λ d. d.slot) n ds
