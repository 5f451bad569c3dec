-- Lists whose members are seen with their places, from 0 on.
use Rattle.std.proofs.Common.{◌≡◌, ◌∙◌, ℕ, ◌+◌, List, [], ◌∷◌, ◌++◌, ap, arith, length, map, refl}
use Rattle.std.proofs.Common.{sym}
use Rattle.std.proofs.lemmas.List.{length-map}
use Rattle.std.specs.List.{enumerate_from}

-- what is counted on behind a list
counted_on : {X : Type 0} (n m : ℕ) (xs ys : List X) → m ≡ n + length xs
    → enumerate_from n xs ++ enumerate_from m ys ≡ enumerate_from n (xs ++ ys)
counted_on n m [] ys is = let e : m ≡ n = omega arith in rw e refl
counted_on n m (x ∷ xs) ys is =
    ap (λ zs. (n, x) ∷ zs) (counted_on (n + 1) m xs ys (omega arith))

uncounted : {X : Type 0} (n : ℕ) (xs : List X) → map (λ (p : ℕ × X). p.1) (enumerate_from n xs) ≡ xs
uncounted n [] = refl
uncounted n (x ∷ xs) = ap (λ zs. x ∷ zs) (uncounted (n + 1) xs)

module _ {A X : Type 0} (place : A → ℕ) (what : A → X) where
  without_places : (bs : List A)
      → map (λ (p : ℕ × X). p.1) (map (λ b. (place b, what b)) bs) ≡ map what bs
  without_places [] = refl
  without_places (b ∷ bs) = ap (λ zs. what b ∷ zs) (without_places bs)

  -- a list that is counted on behind another one with its places
  pub numbered_on : (cs bs : List A) (ys : List X)
      → map (λ b. (place b, what b)) bs ≡ enumerate_from 0 (map what bs)
      → map (λ b. (place b, what b)) cs
      ≡ map (λ b. (place b, what b)) bs ++ enumerate_from (length bs) ys
      → (map (λ b. (place b, what b)) cs ≡ enumerate_from 0 (map what cs))
      × (map what cs ≡ map what bs ++ ys)
  numbered_on cs bs ys before is = (on ∙ ap (enumerate_from 0) (sym members), members)
    where
      on : map (λ b. (place b, what b)) cs ≡ enumerate_from 0 (map what bs ++ ys)
      on = is ∙ ap (λ zs. zs ++ enumerate_from (length bs) ys) before
          ∙ counted_on 0 (length bs) (map what bs) ys (omega (arith, length-map bs what))

      members : map what cs ≡ map what bs ++ ys
      members = sym (without_places cs) ∙ ap (map (λ (p : ℕ × X). p.1)) on
          ∙ uncounted 0 (map what bs ++ ys)
