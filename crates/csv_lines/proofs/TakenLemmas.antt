-- A list of which a loop has taken so many elements.
use Rattle.std.proofs.Common.{◌≡◌, ◌∙◌, ℕ, ◌+◌, ◌<◌, List, [], ◌∷◌, ◌++◌, ap, get_or, length, map}
use Rattle.std.proofs.Common.{take}
use Rattle.std.proofs.lemmas.List.{map-append, take_more}

-- one more element, and what a function makes of it
pub mapped_more : {X Y : Type 0} (f : X → Y) (xs : List X) (i : ℕ) (x : X) (y : Y)
    → i < length xs → x ≡ get_or xs i x → y ≡ f x
    → map f (take i xs) ++ (y ∷ []) ≡ map f (take (i + 1) xs)
mapped_more f xs i x y l is told =
    rw (take_more xs i x l, map-append f (take i xs) (get_or xs i x ∷ [])) (ap
    (λ t. map f (take i xs) ++ (t ∷ [])) (told ∙ ap f is))
