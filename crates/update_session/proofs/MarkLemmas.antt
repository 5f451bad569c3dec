-- Marks in the order of their names, and what holds of marks.
use Rattle.std.proofs.Common.{◌≡◌, ℕ, true, false, cond, Less, Equal, Greater, Ordering, List}
use Rattle.std.proofs.Common.{[], ◌∷◌, map, Option, None, Some, refl, sym, ap, ap₂, ◌∙◌, subst}
use Rattle.std.specs.Cmp.Lexicographic.{bytes_decides, texts_ties}
use Rattle.std.specs.List.{AllByRecursion, AllZip}
use Rattle.std.specs.Ordering.{is_eq, match_ordering, ordering_reverse}
use Rattle.std.proofs.lemmas.Cmp.{nat_list_cmp_total}
use Rattle.geo_terms.specs.PlaceForm.{same_text}
use Rattle.geo_terms.specs.Precedence.{text_cmp}
use Rattle.geo_terms.specs.SlotOrder.{placed}
use Rattle.source_changes.specs.Changes.{named}

-- a text is the same as itself
own_text : (t : List ℕ) → same_text t t ≡ true
own_text t = (bytes_decides t t).1 refl

-- a text that comes after another is not the same
other_text : (t u : List ℕ) → text_cmp t u ≡ Ordering.Greater → same_text u t ≡ false
other_text t u e =
    texts_ties u t ∙ ap is_eq (nat_list_cmp_total.antisymm u t ∙ ap ordering_reverse e)

module _ {X : Type 0} (name : X → List ℕ) where
  -- the one that came is found by its name
  pub named-placed : (x : X) (xs : List X) → named name (name x) (placed name x xs) ≡ Some x
  named-placed x [] = ap (λ b. cond b (Some x) None) (own_text (name x))
  named-placed x (y ∷ ys) =
      elim (text_cmp (name x) (name y)) as (λ o. text_cmp (name x) (name y) ≡ o
      → named name (name x) (match_ordering o (x ∷ y ∷ ys) (x ∷ ys) (y ∷ placed name x ys))
      ≡ Some x) [
        | Less ↦ λ e. ap (λ b. cond b (Some x) (named name (name x) (y ∷ ys))) (own_text (name x))
        | Equal ↦ λ e. ap (λ b. cond b (Some x) (named name (name x) ys)) (own_text (name x))
        | Greater ↦ λ e. ap (λ b. cond b (Some y) (named name (name x) (placed name x ys)))
            (other_text (name x) (name y) e) ∙ named-placed x ys
      ] refl

  -- what holds of each and of one more holds of each of the list with it
  pub all_placed : (P : X → Type 0) (x : X) (xs : List X) → P x → AllByRecursion P xs
      → AllByRecursion P (placed name x xs)
  all_placed P x [] one all = (one, tt)
  all_placed P x (y ∷ ys) one all =
      elim (text_cmp (name x) (name y))
      as (λ o. AllByRecursion P (match_ordering o (x ∷ y ∷ ys) (x ∷ ys) (y ∷ placed name x ys))) [
        | Less ↦ (one, all)
        | Equal ↦ (one, all.1)
        | Greater ↦ (all.0, all_placed P x ys one all.1)
      ]

-- what holds of each holds of the one of a name
pub all_named : {X : Type 0} (name : X → List ℕ) (P : X → Type 0) (n : List ℕ) (xs : List X) (x : X)
    → AllByRecursion P xs → named name n xs ≡ Some x → P x
all_named name P n [] x all is = absurd (let this : None ≡ Some x = is in cc)
all_named name P n (y ∷ ys) x all is =
    elim (same_text (name y) n) as (λ b. cond b (Some y) (named name n ys) ≡ Some x → P x) [
      | true ↦ λ e. let same : y ≡ x = cc in subst P same all.0
      | false ↦ λ e. all_named name P n ys x all.1 e
    ] is

-- two lists of the same names, one by one
module _ {X Y : Type 0} (name : X → List ℕ) (name' : Y → List ℕ) (R : X → Y → Type 0)
    (same : (x : X) (y : Y) → R x y → name' y ≡ name x) where
  pub zip_placed : (x : X) (y : Y) (xs : List X) (ys : List Y) → R x y → AllZip R xs ys
      → AllZip R (placed name x xs) (placed name' y ys)
  zip_placed x y [] [] one all = (one, tt)
  zip_placed x y [] (v ∷ vs) one all = absurd all
  zip_placed x y (u ∷ us) [] one all = absurd all
  zip_placed x y (u ∷ us) (v ∷ vs) one all =
      subst (λ o. AllZip R (match_ordering (text_cmp (name x) (name u))
      (x ∷ u ∷ us) (x ∷ us) (u ∷ placed name x us))
      (match_ordering o (y ∷ v ∷ vs) (y ∷ vs) (v ∷ placed name' y vs)))
      (sym (ap₂ text_cmp (same x y one) (same u v all.0)))
      (elim (text_cmp (name x) (name u)) as (λ o. AllZip R
      (match_ordering o (x ∷ u ∷ us) (x ∷ us) (u ∷ placed name x us))
      (match_ordering o (y ∷ v ∷ vs) (y ∷ vs) (v ∷ placed name' y vs))) [
        | Less ↦ (one, all)
        | Equal ↦ (one, all.1)
        | Greater ↦ (all.0, zip_placed x y us vs one all.1)
      ])

  -- the ones of a name are related, or there are none
  abbrev pub AreRelated : Option X → Option Y → Type 0
  AreRelated None None = Unit {0}
  AreRelated None (Some y) = ⊥
  AreRelated (Some x) None = ⊥
  AreRelated (Some x) (Some y) = R x y

  pub zip_named : (n : List ℕ) (xs : List X) (ys : List Y) → AllZip R xs ys
      → AreRelated (named name n xs) (named name' n ys)
  zip_named n [] [] all = tt
  zip_named n [] (v ∷ vs) all = absurd all
  zip_named n (u ∷ us) [] all = absurd all
  zip_named n (u ∷ us) (v ∷ vs) all =
      subst (λ b. AreRelated (cond (same_text (name u) n) (Some u) (named name n us))
      (cond b (Some v) (named name' n vs)))
      (sym (ap (λ (m : List ℕ). same_text m n) (same u v all.0)))
      (elim (same_text (name u) n) as (λ b. AreRelated (cond b (Some u) (named name n us))
      (cond b (Some v) (named name' n vs))) [
        | true ↦ all.0
        | false ↦ zip_named n us vs all.1
      ])

-- a relation that follows from another
pub zip_weaker : {X Y : Type 0} (R S : X → Y → Type 0) → ((x : X) (y : Y) → R x y → S x y)
    → (xs : List X) (ys : List Y) → AllZip R xs ys → AllZip S xs ys
zip_weaker R S more [] [] all = tt
zip_weaker R S more [] (v ∷ vs) all = absurd all
zip_weaker R S more (u ∷ us) [] all = absurd all
zip_weaker R S more (u ∷ us) (v ∷ vs) all = (more u v all.0, zip_weaker R S more us vs all.1)

-- two relations in a row
pub zip_joined : {X Y Z : Type 0} (R : X → Y → Type 0) (S : Y → Z → Type 0) (T : X → Z → Type 0)
    → ((x : X) (y : Y) (z : Z) → R x y → S y z → T x z)
    → (xs : List X) (ys : List Y) (zs : List Z) → AllZip R xs ys → AllZip S ys zs → AllZip T xs zs
zip_joined R S T join [] [] [] all all' = tt
zip_joined R S T join [] [] (w ∷ ws) all all' = absurd all'
zip_joined R S T join [] (v ∷ vs) zs all all' = absurd all
zip_joined R S T join (u ∷ us) [] zs all all' = absurd all
zip_joined R S T join (u ∷ us) (v ∷ vs) [] all all' = absurd all'
zip_joined R S T join (u ∷ us) (v ∷ vs) (w ∷ ws) all all' =
    (join u v w all.0 all'.0, zip_joined R S T join us vs ws all.1 all'.1)

-- a list, and what a function makes of its elements
pub zip_map : {X Y Z : Type 0} (R : Y → Z → Type 0) (f : X → Y) (xs : List X) (zs : List Z)
    → AllZip (λ x z. R (f x) z) xs zs → AllZip R (map f xs) zs
zip_map R f [] [] all = tt
zip_map R f [] (w ∷ ws) all = absurd all
zip_map R f (u ∷ us) [] all = absurd all
zip_map R f (u ∷ us) (w ∷ ws) all = (all.0, zip_map R f us ws all.1)
