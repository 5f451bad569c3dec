-- Ranges that at most one line has, and those of a sorted list that stand more than once.
use Rattle.std.proofs.Common.{inl, inr, ◌≡◌, ℕ, ◌<◌, ◌⊎◌, ltb, Bool, true, false, not}
use Rattle.std.proofs.Common.{◌&&◌, List, length, map, get_or, refl, sym, ap, ◌∙◌}
use Rattle.std.proofs.Common.{arith}
use Rattle.std.specs.List.{list_any}
use Rattle.std.proofs.lemmas.Bool.{and_left, and_right, cases_order, false_from_ne_true}
use Rattle.std.proofs.lemmas.Bool.{le-ltb}
use Rattle.std.proofs.lemmas.List.{get_or-map, length-map}
use Rattle.std.proofs.lemmas.List.Folds.{list_any_none}
use Rattle.std.proofs.lemmas.Map.Keys.{apart_from_distinct}
use Rattle.geo_addr.specs.Ranges.{Ends}
use Rattle.geo_terms.specs.Report.{same_ends}
use Rattle.geo_terms.specs.declared.place.Said.{Said}
use Rattle.csv_lines.specs.Repeats.{fate, same_range, same_said}
use Rattle.csv_lines.specs.Doubled.{IsAlone}
use Rattle.csv_lines.specs.declared.fate.Fate.TheVariants.{Kept}
use Rattle.csv_lines.proofs.FateLemmas.{both, ends_itself, ends_same, get_or_same}
use Rattle.csv_lines.proofs.FateLemmas.{said_itself}

and_flip : (a b : Bool) → (a && b) ≡ (b && a)
and_flip true true = refl
and_flip true false = refl
and_flip false true = refl
and_flip false false = refl

module _ {X : Type 0} (line : X → ℕ) (range : X → Ends) (said : X → Said) where
  -- another line has another range
  other_range : (all : List X) (x : X) (i : ℕ) → i < length all → x ≡ get_or all i x
      → IsAlone (range x) (map range all) → (j : ℕ) (d : X) → j < length all → i < j ⊎ j < i
      → same_ends (range (get_or all j d)) (range x) ≡ false
  other_range all x i l is alone j d m apart = false_from_ne_true _ (λ h.
      let k = range x in
      let at_i : get_or (map range all) i k ≡ k =
      get_or-map range all i x k l ∙ ap range (sym is) in
      let at_j : get_or (map range all) j k ≡ range (get_or all j d) =
      get_or-map range all j d k m in
      let own : same_ends k (get_or (map range all) i k) ≡ true = rw at_i (ends_itself k) in
      let its : same_ends k (get_or (map range all) j k) ≡ true =
      rw (at_j, ends_same (range (get_or all j d)) k h) (ends_itself k) in
      let long : length (map range all) ≡ length all = length-map all range in
      let split : (same_ends k (get_or (map range all) i k)
      && same_ends k (get_or (map range all) j k)) ≡ false = elim apart [
        | inl less ↦ apart_from_distinct (λ x y. same_ends k x && same_ends k y) (map range all) i j
            k alone less (omega arith)
        | inr more ↦ and_flip (same_ends k (get_or (map range all) i k))
            (same_ends k (get_or (map range all) j k))
            ∙ apart_from_distinct (λ x y. same_ends k x && same_ends k y) (map range all) j i k
            alone more (omega arith)
      ] in
      let clash : true ≡ false = sym (both _ _ own its) ∙ split in cc)

  no_other : (all : List X) (x : X) (i : ℕ) → i < length all → x ≡ get_or all i x
      → IsAlone (range x) (map range all) → (q : X → Bool) → q x ≡ false
      → list_any (λ y. same_range line range said y x && q y) all ≡ false
  no_other all x i l is alone q fails = list_any_none _ all (λ j e m. elim (cases_order i j) [
    | inl same ↦ let at : get_or all j e ≡ x = rw (← same) (get_or_same all i e x l ∙ sym is) in
        rw at (and_right (same_range line range said x x) (q x) fails)
    | inr apart ↦ and_left (same_range line range said (get_or all j e) x) (q (get_or all j e))
        (other_range all x i l is alone j e m apart)
  ])

  -- a line that has its range alone is kept
  pub alone_kept : (all : List X) (x : X) (i : ℕ) → i < length all → x ≡ get_or all i x
      → IsAlone (range x) (map range all) → fate line range said all x ≡ Kept
  unfolding fate
  alone_kept all x i l is alone =
      let one = no_other all x i l is alone (λ y. not (same_said (said y) (said x)))
      (rw (said_itself (said x)) refl) in
      let two =
      no_other all x i l is alone (λ y. ltb (line y) (line x))
      (le-ltb (line x) (line x) (omega arith)) in
      rw (one, two) refl
