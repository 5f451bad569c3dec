-- The edges of ranges, gathered one range after another.
use Rattle.std.proofs.Common.{◌≡◌, ℕ, ◌+◌, ◌<◌, ◌≤◌, ◌↔◌, ◌⊎◌, inl, inr, List, [], ◌∷◌, ◌++◌}
use Rattle.std.proofs.Common.{length, get_or, take, arith, sym, ap, subst, ◌∙◌}
use Rattle.std.specs.Prelude.{Any, Contains, IsPermutation, IsSorted, nat_eq}
use Rattle.std.specs.Ordering.{nat_cmp}
use Rattle.std.specs.List.Retain.{IsFiltered, DiffersFromLast}
use Rattle.std.specs.List.Sorted.{IsStrictlyIncreasing}
use Rattle.std.proofs.lemmas.List.{take_more}
use Rattle.std.proofs.lemmas.List.Filters.{dedup_is}
use Rattle.std.proofs.lemmas.List.Kept.{Contains-dedup_nat, Contains-from_dedup}
use Rattle.std.proofs.lemmas.List.Sorted.{Contains-permutation, IsPermutation-sym}
use Rattle.std.proofs.lemmas.Map.Keys.{IsStrictlyIncreasing-dedup}
use Rattle.std.proofs.lemmas.List.Elements.{Contains-append_left, Contains-push}
use Rattle.std.proofs.lemmas.List.Elements.{Contains-push_cases}
use Rattle.geo_addr.specs.Ranges.{Ends, IsEdge, IsCut, IsWithin, AreCuts, ground_first}

module _ {X : Type 0} (P : X → Type 0) where
  Any-left : (xs : List X) (y : X) → Any P xs → Any P (xs ++ y ∷ [])
  Any-left xs y (k, x, inside, is, holds) =
      let there = Contains-append_left xs (y ∷ []) x (k, inside, is) in
      (there.0, x, there.1, there.2, holds)

  Any-last : (xs : List X) (y : X) → P y → Any P (xs ++ y ∷ [])
  Any-last xs y holds =
      let there = Contains-push xs y in
      (there.0, y, there.1, there.2, holds)

  Any-cases : (xs : List X) (y : X) → Any P (xs ++ y ∷ []) → Any P xs ⊎ P y
  Any-cases xs y (k, x, inside, is, holds) =
      elim (Contains-push_cases xs y x (k, inside, is)) [
        | inl there ↦ inl (there.0, x, there.1, there.2, holds)
        | inr same ↦ inr (subst P (sym same) holds)
      ]

-- a point that lies within a range, appended to what is there
pub push_lying : (old new : List ℕ) (within : Ends) (p : ℕ) → IsWithin within p
    → ((c : ℕ) → Contains new c ↔ (Contains old c ⊎ (c ≡ p)))
    → (c : ℕ) → Contains new c ↔ (Contains old c ⊎ ((c ≡ p) × IsWithin within c))
push_lying old new within p lies pushed c = (
  λ has.
      elim ((pushed c).0 has) [
        | inl there ↦ inl there
        | inr here ↦ inr (here, subst (IsWithin within) (sym here) lies)
      ],
  λ either.
      elim either [
        | inl there ↦ (pushed c).1 (inl there)
        | inr here ↦ (pushed c).1 (inr here.0)
      ],
)

-- both edges of a range
pub push_both : (old mid new : List ℕ) (r within : Ends) (p q : ℕ) → p ≡ ground_first r
    → q ≡ r.last + 1 → ((c : ℕ) → Contains mid c ↔ (Contains old c ⊎ ((c ≡ p) × IsWithin within c)))
    → ((c : ℕ) → Contains new c ↔ (Contains mid c ⊎ ((c ≡ q) × IsWithin within c))) → (c : ℕ)
    → Contains new c ↔ (Contains old c ⊎ (IsEdge c r × IsWithin within c))
push_both old mid new r within p q p_is q_is first past c = (
  λ has.
      elim ((past c).0 has) [
        | inl there ↦
            elim ((first c).0 there) [
              | inl before ↦ inl before
              | inr here ↦ inr (inl (here.0 ∙ p_is), here.1)
            ]
        | inr here ↦ inr (inr (here.0 ∙ q_is), here.1)
      ],
  λ either.
      elim either [
        | inl before ↦ (past c).1 (inl ((first c).1 (inl before)))
        | inr edge ↦
            elim edge.0 [
              | inl begin ↦ (past c).1 (inl ((first c).1 (inr (begin ∙ sym p_is, edge.1))))
              | inr end ↦ (past c).1 (inr (end ∙ sym q_is, edge.1))
            ]
      ],
)

-- the first edge of a range whose other edge lies outside
pub push_first : (old new : List ℕ) (r within : Ends) (p : ℕ)
    → p ≡ ground_first r → within.last ≤ r.last
    → ((c : ℕ) → Contains new c ↔ (Contains old c ⊎ ((c ≡ p) × IsWithin within c))) → (c : ℕ)
    → Contains new c ↔ (Contains old c ⊎ (IsEdge c r × IsWithin within c))
push_first old new r within p p_is outside first c = (
  λ has.
      elim ((first c).0 has) [
        | inl before ↦ inl before
        | inr here ↦ inr (inl (here.0 ∙ p_is), here.1)
      ],
  λ either.
      elim either [
        | inl before ↦ (first c).1 (inl before)
        | inr edge ↦
            elim edge.0 [
              | inl begin ↦ (first c).1 (inr (begin ∙ sym p_is, edge.1))
              | inr end ↦ absurd (omega (arith, end, edge.1.1))
            ]
      ],
)

-- the cut points of one range more
pub cuts_more : (ranges : List Ends) (i : ℕ) (r : Ends) (old new : List ℕ) (within : Ends)
    → i < length ranges → r ≡ get_or ranges i r → AreCuts (take i ranges) within old
    → ((c : ℕ) → Contains new c ↔ (Contains old c ⊎ (IsEdge c r × IsWithin within c)))
    → AreCuts (take (i + 1) ranges) within new
cuts_more ranges i r old new within inside r_is before step c =
    let P : List Ends → Type 0 = λ rs. IsCut rs c in
    let is : take (i + 1) ranges ≡ take i ranges ++ r ∷ [] =
    take_more ranges i r inside ∙ ap (λ (x : Ends). take i ranges ++ x ∷ []) (sym r_is) in (
      λ has.
          elim ((step c).0 has) [
            | inl there ↦ let cut = (before c).0 there in
                (subst P (sym is) (Any-left (IsEdge c) (take i ranges) r cut.0), cut.1)
            | inr here ↦ (subst P (sym is) (Any-last (IsEdge c) (take i ranges) r here.0), here.1)
          ],
      λ cut.
          elim (Any-cases (IsEdge c) (take i ranges) r (subst P is cut.0)) [
            | inl there ↦ (step c).1 (inl ((before c).1 (there, cut.1)))
            | inr edge ↦ (step c).1 (inr (edge, cut.1))
          ],
    )

-- sorting, and dropping repeats, change no point
pub points_stay : (points sorted kept : List ℕ) → IsPermutation points sorted
    → IsFiltered (DiffersFromLast nat_eq) [] sorted kept
    → (c : ℕ) → Contains kept c ↔ Contains points c
points_stay points sorted kept moved filtered c =
    let is = dedup_is nat_eq sorted kept filtered in
    let P : List ℕ → Type 0 = λ xs. Contains xs c in (
      λ has. Contains-permutation sorted points c (IsPermutation-sym points sorted moved)
          (Contains-from_dedup nat_eq sorted c (subst P is has)),
      λ there. subst P (sym is)
          (Contains-dedup_nat sorted c (Contains-permutation points sorted c moved there)),
    )

-- and they leave the points ascending
pub points_ascend : (sorted kept : List ℕ) → IsSorted nat_cmp sorted
    → IsFiltered (DiffersFromLast nat_eq) [] sorted kept → IsStrictlyIncreasing kept
points_ascend sorted kept is_sorted filtered =
    let is = dedup_is nat_eq sorted kept filtered in
    subst IsStrictlyIncreasing (sym is) (IsStrictlyIncreasing-dedup sorted is_sorted)

-- cut points that are put in order are cut points
pub cuts_stay : (ranges : List Ends) (within : Ends) (points kept : List ℕ)
    → ((c : ℕ) → Contains kept c ↔ Contains points c)
    → AreCuts ranges within points → AreCuts ranges within kept
cuts_stay ranges within points kept stay cuts c =
    (λ has. (cuts c).0 ((stay c).0 has), λ cut. (stay c).1 ((cuts c).1 cut))
