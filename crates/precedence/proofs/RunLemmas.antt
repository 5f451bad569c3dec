-- The points of runs.
use Rattle.std.proofs.Common.{◌≡◌, ℕ, ◌+◌, ◌↔◌, ◌⊎◌, ◌∙◌, List, [], ◌∷◌, ◌++◌, Contains, get_or}
use Rattle.std.proofs.Common.{length, sym, subst, inl, inr, arith, ap}
use Rattle.std.specs.Borrow.{Bor}
use Rattle.std.specs.List.{Any}
use Rattle.std.specs.List.Sorted.{IsPermutation}
use Rattle.std.proofs.lemmas.List.Concat.{length-flat_map}
use Rattle.std.proofs.lemmas.List.Elements.{Contains-append_cases, Contains-append_left}
use Rattle.std.proofs.lemmas.List.Elements.{Contains-append_right}
use Rattle.std.proofs.lemmas.List.{length-append}
use Rattle.std.proofs.lemmas.List.Sorted.{Contains-permutation, IsPermutation-sym}
use Rattle.std.proofs.lemmas.List.Sorted.{IsPermutation-to_front, sum_by-IsPermutation}
use Rattle.cut_segments.proofs.CutLemmas.{any_cases, any_left, any_one, any_right, one_any}
use Rattle.geo_addr.specs.Ranges.{Ends}
use Rattle.cut_segments.specs.CutPoints.{AreCutsInside}
use Rattle.precedence.specs.Runs.{points_of}

abbrev pub Run : Type 0
Run = Bor (List ℕ)

abbrev Has : ℕ → Run → Type 0
Has c r = Contains r.now c

-- a point of runs is one of some run, and the other way round
pub in_run : (runs : List Run) (c : ℕ) → Contains (points_of runs) c → Any (Has c) runs
in_run [] c has = absurd (omega (arith, has.1))
in_run (r ∷ rs) c has =
    elim (Contains-append_cases r.now (points_of rs) c has) [
      | inl here ↦ any_left (Has c) (r ∷ []) rs (any_one (Has c) r here)
      | inr later ↦ any_right (Has c) (r ∷ []) rs (in_run rs c later)
    ]

pub run_in : (runs : List Run) (c : ℕ) → Any (Has c) runs → Contains (points_of runs) c
run_in [] c (k, x, below, is, h) = absurd (omega (arith, below))
run_in (r ∷ rs) c any =
    elim (any_cases (Has c) (r ∷ []) rs any) [
      | inl here ↦ Contains-append_left r.now (points_of rs) c (one_any (Has c) r here)
      | inr later ↦ Contains-append_right r.now (points_of rs) c (run_in rs c later)
    ]

any_moved : (xs ys : List Run) (c : ℕ) → IsPermutation xs ys → Any (Has c) xs → Any (Has c) ys
any_moved xs ys c moved (k, x, below, is, h) =
    let there = Contains-permutation xs ys x moved (k, below, is) in
    (there.0, x, there.1, there.2, h)

-- runs in another order have the same points
pub moved_has : (xs ys : List Run) (c : ℕ) → IsPermutation xs ys → Contains (points_of xs) c
    → Contains (points_of ys) c
moved_has xs ys c moved has = run_in ys c (any_moved xs ys c moved (in_run xs c has))

-- and as many
pub moved_count : (xs ys : List Run) → IsPermutation xs ys
    → length (points_of ys) ≡ length (points_of xs)
moved_count xs ys moved =
    length-flat_map (λ (r : Run). r.now) ys
    ∙ sum_by-IsPermutation (λ (r : Run). length r.now) xs ys moved
    ∙ sym (length-flat_map (λ (r : Run). r.now) xs)

-- a run more behind the others
pub pushed : (old new : List Run) (r : Run) → new ≡ old ++ r ∷ [] → IsPermutation (r ∷ old) new
pushed old new r is =
    subst (λ (xs : List Run). IsPermutation (r ∷ old) xs) (sym is)
    (IsPermutation-sym (old ++ r ∷ []) (r ∷ old) (IsPermutation-to_front old r))

pub front_has : (r : Run) (rs new : List Run) (c : ℕ) → IsPermutation (r ∷ rs) new
    → Contains (points_of new) c ↔ (Contains (points_of rs) c ⊎ Contains r.now c)
front_has r rs new c moved = (
  λ has.
      elim (Contains-append_cases r.now (points_of rs) c
      (moved_has new (r ∷ rs) c (IsPermutation-sym (r ∷ rs) new moved) has)) [
        | inl here ↦ inr here
        | inr there ↦ inl there
      ],
  λ any.
      elim any [
        | inl there ↦ moved_has (r ∷ rs) new c moved
            (Contains-append_right r.now (points_of rs) c there)
        | inr here ↦ moved_has (r ∷ rs) new c moved
            (Contains-append_left r.now (points_of rs) c here)
      ],
)

pub front_count : (r : Run) (rs new : List Run) → IsPermutation (r ∷ rs) new
    → length (points_of new) ≡ length (points_of rs) + length r.now
front_count r rs new moved =
    let count : length (points_of new) ≡ length (r.now ++ points_of rs) =
    moved_count (r ∷ rs) new moved in
    omega (arith, count, length-append r.now (points_of rs))

-- the front of a run is taken, and the rest is put back
pub taken : (points : List ℕ) (left ys new : List Run) (run : Run) (front back all : List ℕ)
    → all ≡ points ++ front → IsPermutation left (run ∷ ys) → run.now ≡ front ++ back
    → ((c : ℕ) → Contains (points_of new) c ↔ (Contains (points_of ys) c ⊎ Contains back c))
    → (c : ℕ) → (Contains all c ⊎ Contains (points_of new) c)
    ↔ (Contains points c ⊎ Contains (points_of left) c)
taken points left ys new run front back all is moved parts kept c =
    let P : List ℕ → Type 0 = λ xs. Contains xs c in
    let of_left = front_has run ys left c (IsPermutation-sym left (run ∷ ys) moved) in (
      λ has.
          elim has [
            | inl there ↦ elim (Contains-append_cases points front c (subst P is there)) [
              | inl before ↦ inl before
              | inr here ↦ inr (of_left.1 (inr (subst P (sym parts)
                  (Contains-append_left front back c here))))
            ]
            | inr later ↦ elim ((kept c).0 later) [
              | inl other ↦ inr (of_left.1 (inl other))
              | inr behind ↦ inr (of_left.1 (inr (subst P (sym parts)
                  (Contains-append_right front back c behind))))
            ]
          ],
      λ has.
          elim has [
            | inl before ↦ inl (subst P (sym is) (Contains-append_left points front c before))
            | inr there ↦ elim (of_left.0 there) [
              | inl other ↦ inr ((kept c).1 (inl other))
              | inr of_run ↦ elim (Contains-append_cases front back c (subst P parts of_run)) [
                | inl here ↦ inl (subst P (sym is) (Contains-append_right points front c here))
                | inr behind ↦ inr ((kept c).1 (inr behind))
              ]
            ]
          ],
    )

-- points that are the same ones have the same cut points
pub same_cuts : (ranges bounds : List Ends) (points same : List ℕ)
    → ((c : ℕ) → Contains same c ↔ Contains points c) → AreCutsInside ranges bounds points
    → AreCutsInside ranges bounds same
same_cuts ranges bounds points same is cuts c =
    (λ has. (cuts c).0 ((is c).0 has), λ cut. (is c).1 ((cuts c).1 cut))

-- one bound is all of them
pub one_bound : (bounds : List Ends) (range : Ends) → length bounds ≡ 1
    → range ≡ get_or bounds 0 range → range ∷ [] ≡ bounds
one_bound [] range one is = absurd (omega (arith, one))
one_bound (r ∷ []) range one is = ap (λ (e : Ends). e ∷ []) is
one_bound (r ∷ s ∷ more) range one is = absurd (omega (arith, one))
