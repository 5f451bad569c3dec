-- Several sources put among others at once, as one after another.
use Rattle.std.proofs.Common.{◌≡◌, ℕ, true, false, cond, List, [], ◌∷◌, None, Some}
use Rattle.std.proofs.Common.{Ordering, Less, Equal, Greater, refl, sym, ap, ◌∙◌}
use Rattle.std.specs.Ordering.{match_ordering, ordering_reverse}
use Rattle.std.proofs.lemmas.Cmp.{nat_list_cmp_total}
use Rattle.geo_terms.specs.PlaceForm.{same_text}
use Rattle.geo_terms.specs.Precedence.{text_cmp}
use Rattle.geo_terms.specs.SlotOrder.{AreInOrder, placed}
use Rattle.geo_terms.proofs.SlotLemmas.{placed_in_order}
use Rattle.source_changes.specs.Changes.{named}
use Rattle.source_changes.specs.Placing.{all_placed}
use Rattle.source_changes.proofs.Swaps.{placed_beside, placed_found}

module _ {X : Type 0} (name : X → List ℕ) where
  turned : (x y : X) (o : Ordering) → text_cmp (name x) (name y) ≡ o
      → text_cmp (name y) (name x) ≡ ordering_reverse o
  turned x y o e = nat_list_cmp_total.antisymm (name y) (name x) ∙ ap ordering_reverse e

  above : (x y z : X) → text_cmp (name x) (name y) ≡ Less → text_cmp (name y) (name z) ≡ Less
      → text_cmp (name x) (name z) ≡ Less
  above x y z e f = nat_list_cmp_total.trans (name x) (name y) (name z) e f

  -- a source that is put twice
  pub placed_twice : (x g : X) (ys : List X) → text_cmp (name x) (name g) ≡ Equal
      → placed name x (placed name g ys) ≡ placed name x ys
  placed_twice x g [] e = rw e refl
  placed_twice x g (y ∷ ys) e =
      let same : text_cmp (name x) (name y) ≡ text_cmp (name g) (name y) =
      nat_list_cmp_total.congr (name x) (name g) (name y) e in
      elim (text_cmp (name g) (name y)) as (λ o. text_cmp (name g) (name y) ≡ o
      → placed name x (match_ordering o (g ∷ y ∷ ys) (g ∷ ys) (y ∷ placed name g ys))
      ≡ placed name x (y ∷ ys)) [
        | Less ↦ λ k. rw (e, same ∙ k) refl
        | Equal ↦ λ k. rw (e, same ∙ k) refl
        | Greater ↦ λ k. rw (same ∙ k) (ap (λ zs. y ∷ zs) (placed_twice x g ys e))
      ] refl

  -- two sources are put in either order
  pub placed_swapped : (x g : X) (ys : List X) → text_cmp (name g) (name x) ≡ Less
      → placed name x (placed name g ys) ≡ placed name g (placed name x ys)
  placed_swapped x g [] e =
      let back : text_cmp (name x) (name g) ≡ Greater = turned g x Less e in rw (e, back) refl
  placed_swapped x g (y ∷ ys) e =
      let back : text_cmp (name x) (name g) ≡ Greater = turned g x Less e in
      elim (text_cmp (name g) (name y)) as (λ o. text_cmp (name g) (name y) ≡ o
      → placed name x (match_ordering o (g ∷ y ∷ ys) (g ∷ ys) (y ∷ placed name g ys))
      ≡ placed name g (placed name x (y ∷ ys))) [
        | Less ↦ λ k. rw back (
            elim (text_cmp (name x) (name y))
            as (λ o. g ∷ match_ordering o (x ∷ y ∷ ys) (x ∷ ys) (y ∷ placed name x ys)
            ≡ placed name g (match_ordering o (x ∷ y ∷ ys) (x ∷ ys) (y ∷ placed name x ys))) [
              | Less ↦ rw e refl
              | Equal ↦ rw e refl
              | Greater ↦ rw k refl
            ])
        | Equal ↦ λ k.
            let later : text_cmp (name x) (name y) ≡ Greater =
            turned y x Less (sym (nat_list_cmp_total.congr (name g) (name y) (name x) k) ∙ e) in
            rw (back, later, k) refl
        | Greater ↦ λ k.
            let later : text_cmp (name x) (name y) ≡ Greater =
            turned y x Less (above y g x (turned g y Greater k) e) in
            rw (later, k) (ap (λ zs. y ∷ zs) (placed_swapped x g ys e))
      ] refl

  -- one more of those that are put among the others
  pub one_more_placed : (x : X) (more ys : List X)
      → all_placed name (placed name x more) ys ≡ placed name x (all_placed name more ys)
  one_more_placed x [] ys = refl
  one_more_placed x (g ∷ gs) ys =
      elim (text_cmp (name x) (name g)) as (λ o. text_cmp (name x) (name g) ≡ o
      → all_placed name (match_ordering o (x ∷ g ∷ gs) (x ∷ gs) (g ∷ placed name x gs)) ys
      ≡ placed name x (placed name g (all_placed name gs ys))) [
        | Less ↦ λ k. refl
        | Equal ↦ λ k. sym (placed_twice x g (all_placed name gs ys) k)
        | Greater ↦ λ k.
            ap (placed name g) (one_more_placed x gs ys)
            ∙ sym (placed_swapped x g (all_placed name gs ys) (turned x g Greater k))
      ] refl

  pub all_placed_in_order : (more ys : List X) → AreInOrder name ys
      → AreInOrder name (all_placed name more ys)
  all_placed_in_order [] ys up = up
  all_placed_in_order (x ∷ more) ys up =
      placed_in_order name x (all_placed name more ys) (all_placed_in_order more ys up)

  -- what is found by its name afterwards
  pub found_new : (n : List ℕ) (new : X) (more ys : List X) → named name n more ≡ Some new
      → named name n (all_placed name more ys) ≡ Some new
  found_new n new [] ys is = absurd cc
  found_new n new (g ∷ gs) ys is =
      (elim (same_text (name g) n) as (λ b. same_text (name g) n ≡ b
      → cond b (Some g) (named name n gs) ≡ Some new
      → named name n (placed name g (all_placed name gs ys)) ≡ Some new) [
        | true ↦ λ e here. placed_found name g n (all_placed name gs ys) e ∙ here
        | false ↦ λ e later.
            placed_beside name g n (all_placed name gs ys) e ∙ found_new n new gs ys later
      ]) refl is

  pub found_old : (n : List ℕ) (more ys : List X) → named name n more ≡ None
      → named name n (all_placed name more ys) ≡ named name n ys
  found_old n [] ys is = refl
  found_old n (g ∷ gs) ys is =
      (elim (same_text (name g) n) as (λ b. same_text (name g) n ≡ b
      → cond b (Some g) (named name n gs) ≡ None
      → named name n (placed name g (all_placed name gs ys)) ≡ named name n ys) [
        | true ↦ λ e here. absurd cc
        | false ↦ λ e none.
            placed_beside name g n (all_placed name gs ys) e ∙ found_old n gs ys none
      ]) refl is
