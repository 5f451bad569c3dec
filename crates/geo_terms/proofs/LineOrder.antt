-- What is kept of numbered lines, at most one thing a line, stands in line order and no line twice.
use Rattle.std.proofs.Common.{◌≡◌, ℕ, zero, suc, ◌+◌, ◌≤◌, List, [], ◌∷◌, map, All, Option, Some}
use Rattle.std.proofs.Common.{None, filter_map, refl, sym, subst, arith}
use Rattle.std.proofs.lemmas.List.Elements.{All-nil, All-cons}
use Rattle.std.specs.List.{cons_option, enumerate_from}
use Rattle.std.specs.List.Sorted.{IsStrictlyIncreasing}

-- the numbers rise, from low on
Rises : ℕ → List ℕ → Type 0
Rises low [] = Unit {0}
Rises low (x ∷ xs) = (low ≤ x) × Rises (x + 1) xs

rises_from_less : (low high : ℕ) (xs : List ℕ) → low ≤ high → Rises high xs → Rises low xs
unfolding Rises
rises_from_less low high [] le r = tt
rises_from_less low high (x ∷ xs) le r = (omega (arith, r.0), r.1)

increasing_from_rises : (low : ℕ) (xs : List ℕ) → Rises low xs → IsStrictlyIncreasing xs
unfolding Rises
increasing_from_rises low [] r k below = absurd (omega arith)
increasing_from_rises low (x ∷ []) r k below = absurd (omega arith)
increasing_from_rises low (x ∷ y ∷ ys) r zero below = omega (arith, r.1.0)
increasing_from_rises low (x ∷ y ∷ ys) r (suc k) below =
    let later = increasing_from_rises (x + 1) (y ∷ ys) r.1 k (omega arith) in
    let step : suc k + 1 ≡ suc (k + 1) = omega arith in
    rw step later

module _ {A B : Type 0} (kept : ℕ × A → Option B) (line : B → ℕ)
    (keeps : (p : ℕ × A) (b : B) → kept p ≡ Some b → line b ≡ p.0) where
  rises_one : (n : ℕ) (x : A) (more : List B) (r : Option B) → kept (n, x) ≡ r
      → Rises (n + 1) (map line more) → Rises n (map line (cons_option r more))
  unfolding Rises
  rises_one n x more None e h = rises_from_less n (n + 1) (map line more) (omega arith) h
  rises_one n x more (Some b) e h =
      let is : line b ≡ n = keeps (n, x) b e in
      (omega arith, subst (λ (m : ℕ). Rises (m + 1) (map line more)) (sym is) h)

  rises_kept : (n : ℕ) (xs : List A) → Rises n (map line (filter_map kept (enumerate_from n xs)))
  unfolding Rises
  rises_kept n [] = tt
  rises_kept n (x ∷ xs) =
      rises_one n x (filter_map kept (enumerate_from (n + 1) xs)) (kept (n, x)) refl
      (rises_kept (n + 1) xs)

  -- the lines of what is kept ascend
  pub lines_increase : (n : ℕ) (xs : List A)
      → IsStrictlyIncreasing (map line (filter_map kept (enumerate_from n xs)))
  lines_increase n xs = increasing_from_rises n _ (rises_kept n xs)

all_one : {A B : Type 0} (kept : A → Option B) (P : B → Type 0)
    → ((a : A) (b : B) → kept a ≡ Some b → P b) → (x : A) (more : List B) (r : Option B)
    → kept x ≡ r → All P more → All P (cons_option r more)
all_one kept P keeps x more None e h = h
all_one kept P keeps x more (Some b) e h = All-cons P b more (keeps x b e) h

-- what holds of all that is kept
pub All-filter_map : {A B : Type 0} (kept : A → Option B) (P : B → Type 0)
    → ((a : A) (b : B) → kept a ≡ Some b → P b) → (xs : List A) → All P (filter_map kept xs)
All-filter_map kept P keeps [] = All-nil P
All-filter_map kept P keeps (x ∷ xs) =
    all_one kept P keeps x (filter_map kept xs) (kept x) refl (All-filter_map kept P keeps xs)
