-- What is made of shared values one after another.
use Rattle.std.proofs.Common.{◌≡◌, ℕ, zero, suc, ◌+◌, ◌<◌, ◌++◌, List, [], ◌∷◌, map, length, get_or}
use Rattle.std.proofs.Common.{drop, refl, sym, ap, ◌∙◌, arith, append_assoc}
use Rattle.std.specs.List.{flat_map}

-- the first of those that are left, and the rest
pub drop_step : {X : Type 0} (xs : List X) (i : ℕ) (d : X) → i < length xs
    → drop i xs ≡ get_or xs i d ∷ drop (i + 1) xs
drop_step [] i d lt = absurd (omega arith)
drop_step (x ∷ xs) zero d lt = refl
drop_step (x ∷ xs) (suc i) d lt =
    let step : suc i + 1 ≡ suc (i + 1) = omega arith in
    rw step (drop_step xs i d (omega arith))

-- what is made of one shared value more
pub next_shared : {X Y N : Type 0} (f : X → Y) (make : Y → List N) (xs : List X) (i : ℕ) (x : X)
    (found new all : List N) → i < length xs → x ≡ get_or xs i x
    → found ++ flat_map make (map f (drop i xs)) ≡ all
    → new ≡ found ++ make (f x) → new ++ flat_map make (map f (drop (i + 1) xs)) ≡ all
next_shared f make xs i x found new all below is before e =
    let here : drop i xs ≡ x ∷ drop (i + 1) xs =
    drop_step xs i x below ∙ ap (λ y. y ∷ drop (i + 1) xs) (sym is) in
    ap (λ ns. ns ++ flat_map make (map f (drop (i + 1) xs))) e
    ∙ append_assoc found (make (f x)) (flat_map make (map f (drop (i + 1) xs)))
    ∙ ap (λ ys. found ++ flat_map make (map f ys)) (sym here) ∙ before

-- and of one thing more that is not shared
pub next_of : {X N : Type 0} (make : X → List N) (xs : List X) (i : ℕ) (x : X)
    (found new all : List N) → i < length xs → x ≡ get_or xs i x
    → found ++ flat_map make (drop i xs) ≡ all
    → new ≡ found ++ make x → new ++ flat_map make (drop (i + 1) xs) ≡ all
next_of make xs i x found new all below is before e =
    let here : drop i xs ≡ x ∷ drop (i + 1) xs =
    drop_step xs i x below ∙ ap (λ y. y ∷ drop (i + 1) xs) (sym is) in
    ap (λ ns. ns ++ flat_map make (drop (i + 1) xs)) e
    ∙ append_assoc found (make x) (flat_map make (drop (i + 1) xs))
    ∙ ap (λ ys. found ++ flat_map make ys) (sym here) ∙ before
