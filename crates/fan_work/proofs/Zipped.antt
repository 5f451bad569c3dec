-- Results that are related to items, one by one.
use Rattle.std.proofs.Common.{◌≡◌, ℕ, ◌+◌, ◌<◌, List, [], ◌∷◌, ◌++◌, length, take, get_or, map, ap}
use Rattle.std.proofs.Common.{ap₂, refl, sym, subst, ◌∙◌, add-one}
use Rattle.std.proofs.Math.Seq.{take-suc}
use Rattle.std.proofs.lemmas.Slice.Zip.{all_zipped_more}
use Rattle.std.specs.List.{AllZip}
use Rattle.fan_work.specs.Pieces.{AllowsOnly}

module _ {A B : Type 0} where
  -- the results of two lists, one behind the other
  pub AllZip-append : (R : A → B → Type 0) (xs xs' : List A) (ys ys' : List B) → AllZip R xs ys
      → AllZip R xs' ys' → AllZip R (xs ++ xs') (ys ++ ys')
  AllZip-append R [] xs' [] ys' here there = there
  AllZip-append R [] xs' (y ∷ ys) ys' here there = absurd here
  AllZip-append R (x ∷ xs) xs' [] ys' here there = absurd here
  AllZip-append R (x ∷ xs) xs' (y ∷ ys) ys' here there =
      (here.0, AllZip-append R xs xs' ys ys' here.1 there)

  -- one item and its result more
  pub AllZip-pushed : (R : A → B → Type 0) (xs : List A) (ys results : List B)
      (i : ℕ) (x : A) (y : B) → i < length xs → x ≡ get_or xs i x → AllZip R (take i xs) ys → R x y
      → results ≡ ys ++ (y ∷ [])
      → AllZip R (take (i + 1) xs) results
  AllZip-pushed R xs ys results i x y below is zipped related pushed =
      let P : List A → Type 0 = λ zs. AllZip R zs (ys ++ (y ∷ [])) in
      let Q : List B → Type 0 = λ zs. AllZip R (take (i + 1) xs) zs in
      let longer : take (i + 1) xs ≡ take i xs ++ (x ∷ []) = ap (λ n. take n xs) (add-one i)
      ∙ take-suc xs i x below ∙ ap (λ z. take i xs ++ (z ∷ [])) (sym is) in
      subst Q (sym pushed)
      (subst P (sym longer) (all_zipped_more R (take i xs) ys x y zipped related))

  -- the same for all items and all results, where each list is two lists
  pub AllZip-joined : (R : A → B → Type 0) (xs xs' all : List A) (ys ys' results : List B)
      → AllZip R xs ys → AllZip R xs' ys' → xs ++ xs' ≡ all → results ≡ ys ++ ys'
      → AllZip R all results
  AllZip-joined R xs xs' all ys ys' results here there items joined =
      let P : List A → Type 0 = λ zs. AllZip R zs (ys ++ ys') in
      let Q : List B → Type 0 = λ zs. AllZip R all zs in
      subst Q (sym joined) (subst P items (AllZip-append R xs xs' ys ys' here there))

  -- where the relation allows one result an item, the results are these
  pub map-from_only : (R : A → B → Type 0) (f : A → B) → AllowsOnly R f
      → (xs : List A) (ys : List B) → AllZip R xs ys → ys ≡ map f xs
  map-from_only R f only [] [] zipped = refl
  map-from_only R f only [] (y ∷ ys) zipped = absurd zipped
  map-from_only R f only (x ∷ xs) [] zipped = absurd zipped
  map-from_only R f only (x ∷ xs) (y ∷ ys) zipped =
      ap₂ ◌∷◌ (only x y zipped.0) (map-from_only R f only xs ys zipped.1)
