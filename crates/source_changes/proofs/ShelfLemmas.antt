-- What a search by halving for a name tells of a shelf, and what is put in or taken out by it.
use Rattle.std.proofs.Common.{◌≡◌, ℕ, ◌<◌, ◌≤◌, true, false, cond, not, List, [], ◌∷◌}
use Rattle.std.proofs.Common.{length, set, Some, None, Ok}
use Rattle.std.proofs.Common.{Err, slice_get, refl, sym}
use Rattle.std.proofs.Common.{ap, ◌∙◌, subst, arith}
use Rattle.std.proofs.lemmas.Option.{slice_get-get_or}
use Rattle.std.specs.List.{find, insert, remove}
use Rattle.std.specs.List.Sorted.{IsBinarySearchResult}
use Rattle.std.specs.Prelude.{Result}
use Rattle.geo_terms.specs.PlaceForm.{same_text}
use Rattle.geo_terms.specs.Precedence.{text_cmp}
use Rattle.geo_terms.specs.SlotOrder.{AreInOrder, placed, removed}
use Rattle.geo_terms.proofs.SlotLemmas.{not_there, placed_in_order, put_between}
use Rattle.geo_terms.proofs.SlotLemmas.{put_over, removed_in_order, taken_out}

-- where none has the name, nothing is removed
none_removed : {X : Type 0} (name : X → List ℕ) (n : List ℕ) (ys : List X)
    → find (λ y. same_text (name y) n) ys ≡ None → removed name n ys ≡ ys
none_removed name n [] e = refl
none_removed name n (y ∷ ys) e =
    (elim (same_text (name y) n) as (λ b. cond b (Some y) (find (λ z. same_text (name z) n) ys)
    ≡ None → cond (not b) (y ∷ removed name n ys) (removed name n ys) ≡ y ∷ ys) [
      | true ↦ λ h. absurd cc
      | false ↦ λ h. ap (λ zs. y ∷ zs) (none_removed name n ys h)
    ]) e

-- a search for a name m that is n, in a list that is ys
module _ {X : Type 0} (name : X → List ℕ) (m n : List ℕ) (seen ys : List X) (same : seen ≡ ys)
    (called : m ≡ n) (up : AreInOrder name ys) where
  abbrev Is : Result ℕ ℕ → Type 0
  Is r = IsBinarySearchResult (λ y. text_cmp (name y) m) seen r

  here : (r : Result ℕ ℕ) → Is r → IsBinarySearchResult (λ y. text_cmp (name y) n) ys r
  here r found =
      subst (λ zs. IsBinarySearchResult (λ y. text_cmp (name y) n) zs r) same
      (subst (λ k. IsBinarySearchResult (λ y. text_cmp (name y) k) seen r) called found)

  pub found_within : (i : ℕ) → i < length seen → i < length ys
  found_within i below = subst (λ zs. i < length zs) same below

  pub missed_within : (i : ℕ) → i ≤ length seen → i ≤ length ys
  missed_within i below = subst (λ zs. i ≤ length zs) same below

  pub there : (i : ℕ) → i < length seen → Is (Ok i)
      → slice_get ys i ≡ find (λ y. same_text (name y) n) ys
  there i below found = at ys refl (found_within i below)
    where
      at : (zs : List X) → zs ≡ ys → i < length zs
          → slice_get ys i ≡ find (λ y. same_text (name y) n) ys
      at [] e lt = absurd (omega arith)
      at (z ∷ zs) e lt =
          slice_get-get_or ys i z (found_within i below)
          ∙ sym (taken_out name n ys i z up (found_within i below) (here (Ok i) found)).1

  pub not_found : (i : ℕ) → Is (Err i) → None ≡ find (λ y. same_text (name y) n) ys
  not_found i missed = sym (not_there name n ys i up (here (Err i) missed))

  pub nothing_removed : (i : ℕ) → Is (Err i) → ys ≡ removed name n ys
  nothing_removed i missed = sym (none_removed name n ys (sym (not_found i missed)))

  pub taken : (i : ℕ) (new : List X) → i < length seen → Is (Ok i) → new ≡ remove ys i
      → new ≡ removed name n ys
  taken i new below found is = is ∙ cut ys refl (found_within i below)
    where
      cut : (zs : List X) → zs ≡ ys → i < length zs → remove ys i ≡ removed name n ys
      cut [] e lt = absurd (omega arith)
      cut (z ∷ zs) e lt =
          (taken_out name n ys i z up (found_within i below) (here (Ok i) found)).0

  pub put_there : (x : X) (i : ℕ) (new : List X) → n ≡ name x → i < length seen → Is (Ok i)
      → new ≡ set ys i x → new ≡ placed name x ys
  put_there x i new own below found is =
      is ∙ put_over name x ys i up (found_within i below)
      (subst (λ k. IsBinarySearchResult (λ y. text_cmp (name y) k) ys (Ok i)) own
      (here (Ok i) found))

  pub put_here : (x : X) (i : ℕ) (new : List X) → n ≡ name x → i ≤ length seen → Is (Err i)
      → new ≡ insert ys i x → new ≡ placed name x ys
  put_here x i new own below missed is =
      is ∙ put_between name x ys i up (missed_within i below)
      (subst (λ k. IsBinarySearchResult (λ y. text_cmp (name y) k) ys (Err i)) own
      (here (Err i) missed))

-- names stay in order
pub placed_order : {X : Type 0} (name : X → List ℕ) (x : X) (ys new : List X) → AreInOrder name ys
    → new ≡ placed name x ys → AreInOrder name new
placed_order name x ys new up is =
    subst (AreInOrder name) (sym is) (placed_in_order name x ys up)

pub removed_order : {X : Type 0} (name : X → List ℕ) (n : List ℕ) (ys new : List X)
    → AreInOrder name ys → new ≡ removed name n ys → AreInOrder name new
removed_order name n ys new up is =
    subst (AreInOrder name) (sym is) (removed_in_order name n ys up)
