-- One more element of a list that a loop goes through.
use Rattle.std.proofs.Common.{◌≡◌, ◌∙◌, ◌<◌, ◌+◌, ◌++◌, ◌∷◌, [], ℕ, List, length, take, drop, map}
use Rattle.std.proofs.Common.{get_or, ap, sym, add-one, append_assoc}
use Rattle.std.proofs.Math.Seq.{drop-cons}
use Rattle.std.proofs.lemmas.List.{take_more, map-append}
use Rattle.std.specs.List.{flat_map}

module _ {X : Type 0} (xs : List X) (i : ℕ) (d : X) (inside : i < length xs) where
  rest_is : drop i xs ≡ get_or xs i d ∷ drop (i + 1) xs
  rest_is = drop-cons xs i d inside ∙ ap (λ n. get_or xs i d ∷ drop n xs) (sym (add-one i))

  -- a list that gets the elements behind its own
  pub copied_more : (front made new : List X) (x : X) → made ≡ front ++ take i xs
      → new ≡ made ++ x ∷ [] → x ≡ get_or xs i d → new ≡ front ++ take (i + 1) xs
  copied_more front made new x before is here =
      is ∙ ap (λ m. m ++ x ∷ []) before ∙ append_assoc front (take i xs) (x ∷ [])
      ∙ ap (λ y. front ++ (take i xs ++ y ∷ [])) here
      ∙ ap (λ t. front ++ t) (sym (take_more xs i d inside))

  -- a list of what is made of each element
  pub mapped_more : {Y : Type 0} (f : X → Y) (made new : List Y) (y : Y)
      → made ≡ map f (take i xs) → new ≡ made ++ y ∷ [] → y ≡ f (get_or xs i d)
      → new ≡ map f (take (i + 1) xs)
  mapped_more f made new y before is here =
      is ∙ ap (λ m. m ++ y ∷ []) before ∙ ap (λ z. map f (take i xs) ++ z ∷ []) here
      ∙ sym (ap (map f) (take_more xs i d inside) ∙ map-append f (take i xs) (get_or xs i d ∷ []))

  -- a list of the lists of the elements: what is left follows what was found
  pub joined_more : {Y : Type 0} (f : X → List Y) (made new part total : List Y)
      → made ++ flat_map f (drop i xs) ≡ total → new ≡ made ++ part → part ≡ f (get_or xs i d)
      → new ++ flat_map f (drop (i + 1) xs) ≡ total
  joined_more f made new part total before is here =
      let later = flat_map f (drop (i + 1) xs) in
      ap (λ n. n ++ later) is ∙ append_assoc made part later
      ∙ ap (λ p. made ++ (p ++ later)) here
      ∙ sym (ap (λ ys. made ++ flat_map f ys) rest_is) ∙ before
