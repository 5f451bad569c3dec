-- Members of a list that have no partner in another one, and what holds where
-- no such member holds an address.
use Rattle.std.proofs.Common.{◌≡◌, ◌⊎◌, ℕ, Bool, true, false, cond, List, [], ◌∷◌, ◌++◌, map, refl}
use Rattle.std.proofs.Common.{sym, ap, ◌∙◌, subst, inl, inr}
use Rattle.std.proofs.lemmas.Bool.{or_parts}
use Rattle.std.proofs.lemmas.List.{map-append}
use Rattle.std.proofs.lemmas.List.Folds.{list_any-append}
use Rattle.geo_addr.specs.Ranges.{Ends, holds}
use Rattle.geo_terms.proofs.Members.{Among}
use Rattle.source_changes.specs.Changed.{changed, take_out, without}
use Rattle.source_changes.specs.Touched.{ground_of, is_touched}
use Rattle.source_changes.proofs.Grounds.{grounds_hold_the_same}

-- what is touched by the one or the other list of grounds
pub touched_parts : (xs ys : List Ends) (a : ℕ) → is_touched (xs ++ ys) a ≡ false
    → (is_touched xs a ≡ false) × (is_touched ys a ≡ false)
touched_parts xs ys a none =
    or_parts (is_touched xs a) (is_touched ys a)
    (sym (list_any-append (λ r. holds r a) xs ys) ∙ none)

module _ {X : Type 0} (same : X → X → Bool) where
  -- a member stays, or is the one that is taken out
  among_taken : (x y : X) (zs : List X) → Among x zs
      → Among x (take_out same y zs) ⊎ (same y x ≡ true)
  among_taken x y [] is = absurd is
  among_taken x y (z ∷ zs) is =
      elim (same y z)
      as (λ b. same y z ≡ b → Among x (cond b zs (z ∷ take_out same y zs)) ⊎ (same y x ≡ true)) [
        | true ↦ λ e. taken e is
        | false ↦ λ e. left (λ later. among_taken x y zs later) is
      ] refl
    where
      taken : same y z ≡ true → Among x (z ∷ zs) → Among x zs ⊎ (same y x ≡ true)
      taken e (inl here) = inr (subst (λ (w : X). same y w ≡ true) here e)
      taken e (inr later) = inl later

      deeper : Among x (take_out same y zs) ⊎ (same y x ≡ true)
          → Among x (z ∷ take_out same y zs) ⊎ (same y x ≡ true)
      deeper (inl h) = inl (inr h)
      deeper (inr h) = inr h

      left : (Among x zs → Among x (take_out same y zs) ⊎ (same y x ≡ true))
          → Among x (z ∷ zs) → Among x (z ∷ take_out same y zs) ⊎ (same y x ≡ true)
      left rest (inl here) = inl (inl here)
      left rest (inr later) = deeper (rest later)

  -- a member has no partner, or has one
  pub among_without : (x : X) (xs ys : List X) → Among x xs
      → Among x (without same xs ys) ⊎ ((y : X) × Among y ys × (same y x ≡ true))
  among_without x xs [] is = inl is
  among_without x xs (y ∷ ys) is =
      split (λ left. among_without x (take_out same y xs) ys left) (among_taken x y xs is)
    where
      further : Among x (without same (take_out same y xs) ys)
          ⊎ ((z : X) × Among z ys × (same z x ≡ true)) → Among x
          (without same (take_out same y xs) ys) ⊎ ((z : X) × Among z (y ∷ ys) × (same z x ≡ true))
      further (inl h) = inl h
      further (inr (z, at, e)) = inr (z, inr at, e)

      split : (Among x (take_out same y xs) → Among x (without same (take_out same y xs) ys)
          ⊎ ((z : X) × Among z ys × (same z x ≡ true)))
          → Among x (take_out same y xs) ⊎ (same y x ≡ true) → Among x
          (without same (take_out same y xs) ys) ⊎ ((z : X) × Among z (y ∷ ys) × (same z x ≡ true))
      split rest (inl left) = further (rest left)
      split rest (inr e) = inr (y, inl refl, e)

not_held : {X : Type 0} (range : X → Ends) (a : ℕ) (x : X) (xs : List X) → Among x xs
    → is_touched (map (λ z. ground_of (range z)) xs) a ≡ false → holds (range x) a ≡ false
not_held range a x [] is none = absurd is
not_held range a x (y ∷ ys) (inl here) none =
    subst (λ z. holds (range z) a ≡ false) here
    (sym (grounds_hold_the_same (range y) a) ∙ (or_parts (holds (ground_of (range y)) a)
    (is_touched (map (λ z. ground_of (range z)) ys) a) none).0)
not_held range a x (y ∷ ys) (inr later) none =
    not_held range a x ys later (or_parts (holds (ground_of (range y)) a)
    (is_touched (map (λ z. ground_of (range z)) ys) a) none).1

-- each member of a list that passes a test has one in another list that
-- passes it too and has the same key
abbrev pub Covers : {X K : Type 0} → (X → K) → (X → Bool) → List X → List X → Type 0
Covers {X} key p xs ys =
    (x : X) → Among x xs → p x ≡ true → (y : X) × Among y ys × (p y ≡ true) × (key x ≡ key y)

pub covers_itself : {X K : Type 0} (key : X → K) (p : X → Bool) (xs : List X) → Covers key p xs xs
covers_itself key p xs x is passes = (x, is, passes, refl)

pub among_left : {X : Type 0} (x : X) (xs ys : List X) → Among x xs → Among x (xs ++ ys)
among_left x [] ys is = absurd is
among_left x (z ∷ zs) ys (inl here) = inl here
among_left x (z ∷ zs) ys (inr later) = inr (among_left x zs ys later)

pub among_right : {X : Type 0} (x : X) (xs ys : List X) → Among x ys → Among x (xs ++ ys)
among_right x [] ys is = is
among_right x (z ∷ zs) ys is = inr (among_right x zs ys is)

pub among_parts : {X : Type 0} (x : X) (xs ys : List X)
    → Among x (xs ++ ys) → Among x xs ⊎ Among x ys
among_parts x [] ys is = inr is
among_parts x (z ∷ zs) ys (inl here) = inl (inl here)
among_parts x (z ∷ zs) ys (inr later) = deeper (among_parts x zs ys later)
  where
    deeper : Among x zs ⊎ Among x ys → Among x (z ∷ zs) ⊎ Among x ys
    deeper (inl h) = inl (inr h)
    deeper (inr h) = inr h

pub covers_append : {X K : Type 0} (key : X → K) (p : X → Bool) (xs ys us vs : List X)
    → Covers key p xs ys → Covers key p us vs → Covers key p (xs ++ us) (ys ++ vs)
covers_append {X} {K} key p xs ys us vs first then x is passes = by (among_parts x xs us is)
  where
    by : Among x xs ⊎ Among x us → (y : X) × Among y (ys ++ vs) × (p y ≡ true) × (key x ≡ key y)
    by (inl h) = let (y, at, q, e) = first x h passes in (y, among_left y ys vs at, q, e)
    by (inr h) = let (y, at, q, e) = then x h passes in (y, among_right y ys vs at, q, e)

-- where no member without a partner holds the address, those that hold it have partners
module _ {X K : Type 0} (same : X → X → Bool) (key : X → K) (range : X → Ends)
    (p : X → Bool) (a : ℕ)
    (is_same : (x y : X) → same x y ≡ true → key x ≡ key y) (by_key : (x y : X) → key x ≡ key y
    → p x ≡ p y) (held : (x : X) → p x ≡ true → holds (range x) a ≡ true) where
  covers_left : (xs ys : List X)
      → is_touched (map (λ x. ground_of (range x)) (without same xs ys)) a ≡ false
      → Covers key p xs ys
  covers_left xs ys none x is passes = by (among_without same x xs ys is)
    where
      by : Among x (without same xs ys) ⊎ ((y : X) × Among y ys × (same y x ≡ true))
          → (y : X) × Among y ys × (p y ≡ true) × (key x ≡ key y)
      by (inl left) =
          let no : holds (range x) a ≡ false = not_held range a x (without same xs ys) left none in
          absurd (let e : true ≡ false = sym (held x passes) ∙ no in cc)
      by (inr (y, at, e)) =
          let k : key x ≡ key y = sym (is_same y x e) in
          (y, at, sym (by_key x y k) ∙ passes, k)

  pub covers_both : (xs ys : List X)
      → is_touched (map (λ x. ground_of (range x)) (changed same xs ys)) a ≡ false
      → Covers key p xs ys × Covers key p ys xs
  covers_both xs ys none =
      let ground : X → Ends = λ x. ground_of (range x) in
      let parts = touched_parts (map ground (without same xs ys))
      (map ground (without same ys xs)) a (sym (ap (λ rs. is_touched rs a)
      (map-append ground (without same xs ys) (without same ys xs))) ∙ none) in
      (covers_left xs ys parts.0, covers_left ys xs parts.1)
