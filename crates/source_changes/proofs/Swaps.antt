-- One source set or dropped among others in the order of names: the others stay as they are.
use Rattle.std.proofs.Common.{◌≡◌, ℕ, true, false, cond, not, List, [], ◌∷◌, ◌++◌, Option, None}
use Rattle.std.proofs.Common.{Some, Ordering, Less, Equal, Greater, refl, sym, ap, ◌∙◌, subst}
use Rattle.std.proofs.Common.{is_eq}
use Rattle.std.specs.Cmp.Lexicographic.{bytes_decides, texts_ties}
use Rattle.std.specs.List.{AllByRecursion}
use Rattle.std.specs.Option.{option_to_list}
use Rattle.std.specs.Ordering.{match_ordering, ordering_reverse}
use Rattle.std.proofs.lemmas.Cmp.{nat_list_cmp_total}
use Rattle.geo_terms.specs.PlaceForm.{same_text}
use Rattle.geo_terms.specs.Precedence.{text_cmp}
use Rattle.geo_terms.specs.SlotOrder.{placed, removed}
use Rattle.geo_terms.proofs.SlotLemmas.{Ascend}
use Rattle.source_changes.specs.Changes.{named}

same_by : (m n : List ℕ) (o : Ordering) → text_cmp m n ≡ o → same_text m n ≡ is_eq o
same_by m n o e = texts_ties m n ∙ ap is_eq e

turned : (m n : List ℕ) (o : Ordering) → text_cmp m n ≡ o → text_cmp n m ≡ ordering_reverse o
turned m n o e = nat_list_cmp_total.antisymm n m ∙ ap ordering_reverse e

text_is : (m n : List ℕ) → same_text m n ≡ true → m ≡ n
text_is m n e = (bytes_decides m n).0 e

-- between the sources before and those behind it, one part of a list is another in a second list
pub record Swap {X : Type 0} (was is xs ys : List X) : Type 0 where
  pub front : List X
  pub back : List X
  pub before : xs ≡ front ++ (was ++ back)
  pub after : ys ≡ front ++ (is ++ back)

further : {X : Type 0} (was is xs ys : List X) (y : X) → Swap was is xs ys
    → Swap was is (y ∷ xs) (y ∷ ys)
further was is xs ys y s = record {
  front = y ∷ s.front;
  back = s.back;
  before = ap (λ zs. y ∷ zs) s.before;
  after = ap (λ zs. y ∷ zs) s.after;
}

module _ {X : Type 0} (name : X → List ℕ) where
  -- names above another one are not that one
  apart_above : (n : List ℕ) (zs : List X) → AllByRecursion (λ z. text_cmp n (name z) ≡ Less) zs
      → AllByRecursion (λ z. same_text (name z) n ≡ false) zs
  apart_above n [] h = tt
  apart_above n (z ∷ zs) h =
      (same_by (name z) n Greater (turned n (name z) Less h.0), apart_above n zs h.1)

  all_above : (n : List ℕ) (y : X) (zs : List X)
      → text_cmp n (name y) ≡ Less → AllByRecursion (λ z. text_cmp (name y) (name z) ≡ Less) zs
      → AllByRecursion (λ z. text_cmp n (name z) ≡ Less) zs
  all_above n y [] e h = tt
  all_above n y (z ∷ zs) e h =
      (nat_list_cmp_total.trans n (name y) (name z) e h.0, all_above n y zs e h.1)

  none_named : (n : List ℕ) (xs : List X) → AllByRecursion (λ z. same_text (name z) n ≡ false) xs
      → named name n xs ≡ None
  none_named n [] h = refl
  none_named n (x ∷ xs) h = ap (λ b. cond b (Some x) (named name n xs)) h.0 ∙ none_named n xs h.1

  all_stay : (n : List ℕ) (xs : List X) → AllByRecursion (λ z. same_text (name z) n ≡ false) xs
      → removed name n xs ≡ xs
  all_stay n [] h = refl
  all_stay n (x ∷ xs) h =
      ap (λ b. cond (not b) (x ∷ removed name n xs) (removed name n xs)) h.0
      ∙ ap (λ zs. x ∷ zs) (all_stay n xs h.1)

  pub swap_placed : (x : X) (xs : List X) → Ascend name xs
      → Swap (option_to_list (named name (name x) xs)) (x ∷ []) xs (placed name x xs)
  swap_placed x [] up = record { front = []; back = []; before = refl; after = refl }
  swap_placed x (y ∷ ys) up =
      elim (text_cmp (name x) (name y))
      as (λ o. text_cmp (name x) (name y) ≡ o → Swap (option_to_list (named name (name x) (y ∷ ys)))
      (x ∷ []) (y ∷ ys) (match_ordering o (x ∷ y ∷ ys) (x ∷ ys) (y ∷ placed name x ys))) [
        | Less ↦ λ e.
            let none : named name (name x) (y ∷ ys) ≡ None = none_named (name x) (y ∷ ys)
            (apart_above (name x) (y ∷ ys) (e, all_above (name x) y ys e up.0)) in
            subst (λ (o : Option X). Swap (option_to_list o) (x ∷ []) (y ∷ ys) (x ∷ y ∷ ys))
            (sym none) (record { front = []; back = y ∷ ys; before = refl; after = refl })
        | Equal ↦ λ e.
            let found : named name (name x) (y ∷ ys) ≡ Some y =
            ap (λ b. cond b (Some y) (named name (name x) ys))
            (same_by (name y) (name x) Equal (turned (name x) (name y) Equal e)) in
            subst (λ (o : Option X). Swap (option_to_list o) (x ∷ []) (y ∷ ys) (x ∷ ys)) (sym found)
            (record { front = []; back = ys; before = refl; after = refl })
        | Greater ↦ λ e.
            let later : named name (name x) (y ∷ ys) ≡ named name (name x) ys =
            ap (λ b. cond b (Some y) (named name (name x) ys))
            (same_by (name y) (name x) Less (turned (name x) (name y) Greater e)) in
            subst (λ (o : Option X). Swap (option_to_list o) (x ∷ []) (y ∷ ys)
            (y ∷ placed name x ys)) (sym later)
            (further (option_to_list (named name (name x) ys)) (x ∷ []) ys (placed name x ys) y
            (swap_placed x ys up.1))
      ] refl

  pub swap_removed : (n : List ℕ) (xs : List X) → Ascend name xs
      → Swap (option_to_list (named name n xs)) [] xs (removed name n xs)
  swap_removed n [] up = record { front = []; back = []; before = refl; after = refl }
  swap_removed n (y ∷ ys) up =
      elim (same_text (name y) n)
      as (λ b. same_text (name y) n ≡ b → Swap (option_to_list (cond b (Some y) (named name n ys)))
      [] (y ∷ ys) (cond (not b) (y ∷ removed name n ys) (removed name n ys))) [
        | true ↦ λ e.
            let above : AllByRecursion (λ z. text_cmp n (name z) ≡ Less) ys =
            subst (λ (m : List ℕ). AllByRecursion (λ z. text_cmp m (name z) ≡ Less) ys)
            (text_is (name y) n e) up.0 in
            record {
              front = [];
              back = ys;
              before = refl;
              after = all_stay n ys (apart_above n ys above);
            }
        | false ↦ λ e. further (option_to_list (named name n ys)) [] ys (removed name n ys) y
            (swap_removed n ys up.1)
      ] refl

  -- what is found by its name afterwards
  pub placed_found : (x : X) (n : List ℕ) (xs : List X) → same_text (name x) n ≡ true
      → named name n (placed name x xs) ≡ Some x
  placed_found x n [] e = ap (λ b. cond b (Some x) None) e
  placed_found x n (y ∷ ys) e =
      elim (text_cmp (name x) (name y)) as (λ o. text_cmp (name x) (name y) ≡ o
      → named name n (match_ordering o (x ∷ y ∷ ys) (x ∷ ys) (y ∷ placed name x ys)) ≡ Some x) [
        | Less ↦ λ k. ap (λ b. cond b (Some x) (named name n (y ∷ ys))) e
        | Equal ↦ λ k. ap (λ b. cond b (Some x) (named name n ys)) e
        | Greater ↦ λ k.
            let other : same_text (name y) n ≡ false =
            subst (λ (m : List ℕ). same_text (name y) m ≡ false) (text_is (name x) n e)
            (same_by (name y) (name x) Less (turned (name x) (name y) Greater k)) in
            ap (λ b. cond b (Some y) (named name n (placed name x ys))) other
            ∙ placed_found x n ys e
      ] refl

  pub placed_beside : (x : X) (n : List ℕ) (xs : List X) → same_text (name x) n ≡ false
      → named name n (placed name x xs) ≡ named name n xs
  placed_beside x n [] e = ap (λ b. cond b (Some x) None) e
  placed_beside x n (y ∷ ys) e =
      elim (text_cmp (name x) (name y)) as (λ o. text_cmp (name x) (name y) ≡ o → named name n
      (match_ordering o (x ∷ y ∷ ys) (x ∷ ys) (y ∷ placed name x ys)) ≡ named name n (y ∷ ys)) [
        | Less ↦ λ k. ap (λ b. cond b (Some x) (named name n (y ∷ ys))) e
        | Equal ↦ λ k.
            let other : same_text (name y) n ≡ false = subst (λ (m : List ℕ). same_text m n ≡ false)
            (text_is (name x) (name y) (same_by (name x) (name y) Equal k)) e in
            ap (λ b. cond b (Some x) (named name n ys)) e
            ∙ sym (ap (λ b. cond b (Some y) (named name n ys)) other)
        | Greater ↦ λ k. ap (λ o. cond (same_text (name y) n) (Some y) o) (placed_beside x n ys e)
      ] refl

  pub removed_gone : (m n : List ℕ) (xs : List X) → same_text m n ≡ true
      → named name n (removed name m xs) ≡ None
  removed_gone m n [] e = refl
  removed_gone m n (y ∷ ys) e =
      elim (same_text (name y) m) as (λ b. same_text (name y) m ≡ b
      → named name n (cond (not b) (y ∷ removed name m ys) (removed name m ys)) ≡ None) [
        | true ↦ λ k. removed_gone m n ys e
        | false ↦ λ k.
            let other : same_text (name y) n ≡ false =
            subst (λ (t : List ℕ). same_text (name y) t ≡ false) (text_is m n e) k in
            ap (λ b. cond b (Some y) (named name n (removed name m ys))) other
            ∙ removed_gone m n ys e
      ] refl

  pub removed_beside : (m n : List ℕ) (xs : List X) → same_text m n ≡ false
      → named name n (removed name m xs) ≡ named name n xs
  removed_beside m n [] e = refl
  removed_beside m n (y ∷ ys) e =
      elim (same_text (name y) m) as (λ b. same_text (name y) m ≡ b → named name n
      (cond (not b) (y ∷ removed name m ys) (removed name m ys)) ≡ named name n (y ∷ ys)) [
        | true ↦ λ k.
            let other : same_text (name y) n ≡ false =
            subst (λ (t : List ℕ). same_text t n ≡ false) (sym (text_is (name y) m k)) e in
            removed_beside m n ys e ∙ sym (ap (λ b. cond b (Some y) (named name n ys)) other)
        | false ↦ λ k. ap (λ o. cond (same_text (name y) n) (Some y) o) (removed_beside m n ys e)
      ] refl
