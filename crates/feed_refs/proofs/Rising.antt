-- Numbers that rise, and what is kept of them.
use Rattle.std.proofs.Common.{◌≡◌, ℕ, zero, suc, ◌+◌, ◌<◌, ◌≤◌, false, List, [], ◌∷◌, ◌++◌, ◌⊎◌}
use Rattle.std.proofs.Common.{inl, inr, refl, sym, subst, arith}
use Rattle.std.specs.Prelude.{nat_eq}
use Rattle.std.specs.List.{IsDistinct, AllByRecursion}
use Rattle.std.specs.List.Sorted.{IsStrictlyIncreasing}
use Rattle.std.proofs.lemmas.Bool.{ne_eqb}

-- numbers rise from low on
abbrev pub Rises : ℕ → List ℕ → Type 0
Rises low [] = Unit {0}
Rises low (x ∷ xs) = (low ≤ x) × Rises (x + 1) xs

-- the number past the last of them
abbrev pub past : ℕ → List ℕ → ℕ
past low [] = low
past low (x ∷ xs) = past (x + 1) xs

abbrev pub In : ℕ → List ℕ → Type 0
In x [] = ⊥
In x (y ∷ ys) = (x ≡ y) ⊎ In x ys

pub rises_from_less : (low high : ℕ) (xs : List ℕ) → low ≤ high → Rises high xs → Rises low xs
rises_from_less low high [] le r = tt
rises_from_less low high (x ∷ xs) le r = (omega (arith, r.0), r.1)

pub low-le-past : (low : ℕ) (xs : List ℕ) → Rises low xs → low ≤ past low xs
low-le-past low [] r = omega arith
low-le-past low (x ∷ xs) r =
    let h : x + 1 ≤ past (x + 1) xs = low-le-past (x + 1) xs r.1 in omega (arith, r.0)

pub low-le-in : (low : ℕ) (xs : List ℕ) (x : ℕ) → Rises low xs → In x xs → low ≤ x
low-le-in low [] x r i = absurd i
low-le-in low (y ∷ ys) x r i = elim i [
  | inl e ↦ omega (arith, r.0, e)
  | inr j ↦ let h : y + 1 ≤ x = low-le-in (y + 1) ys x r.1 j in omega (arith, r.0)
]

pub in-lt-past : (low : ℕ) (xs : List ℕ) (x : ℕ) → Rises low xs → In x xs → x < past low xs
in-lt-past low [] x r i = absurd i
in-lt-past low (y ∷ ys) x r i = elim i [
  | inl e ↦ let h : y + 1 ≤ past (y + 1) ys = low-le-past (y + 1) ys r.1 in omega (arith, e)
  | inr j ↦ in-lt-past (y + 1) ys x r.1 j
]

-- what rises below a number, and what rises from there on
pub rises-append : (low high : ℕ) (xs ys : List ℕ) → low ≤ high → Rises low xs
    → ((x : ℕ) → In x xs → x < high) → Rises high ys → Rises low (xs ++ ys)
rises-append low high [] ys le r below s = rises_from_less low high ys le s
rises-append low high (x ∷ xs) ys le r below s =
    let h : x < high = below x (inl refl) in
    (r.0, rises-append (x + 1) high xs ys (omega arith) r.1 (λ z i. below z (inr i)) s)

pub increasing_from_rises : (low : ℕ) (xs : List ℕ) → Rises low xs → IsStrictlyIncreasing xs
increasing_from_rises low [] r k below = absurd (omega arith)
increasing_from_rises low (x ∷ []) r k below = absurd (omega arith)
increasing_from_rises low (x ∷ y ∷ ys) r zero below = omega (arith, r.1.0)
increasing_from_rises low (x ∷ y ∷ ys) r (suc k) below =
    let later = increasing_from_rises (x + 1) (y ∷ ys) r.1 k (omega arith) in
    let step : suc k + 1 ≡ suc (k + 1) = omega arith in
    rw step later

-- a fact of each member
pub all_from_in : (P : ℕ → Type 0) (xs : List ℕ) → ((x : ℕ) → In x xs → P x) → AllByRecursion P xs
all_from_in P [] h = tt
all_from_in P (x ∷ xs) h = (h x (inl refl), all_from_in P xs (λ z i. h z (inr i)))

pub in_from_all : (P : ℕ → Type 0) (xs : List ℕ) → AllByRecursion P xs → (x : ℕ) → In x xs → P x
in_from_all P [] a x i = absurd i
in_from_all P (y ∷ ys) a x i =
    elim i [ inl e ↦ subst P (sym e) a.0 | inr j ↦ in_from_all P ys a.1 x j ]

pub in-append : (xs ys : List ℕ) (x : ℕ) → In x (xs ++ ys) → In x xs ⊎ In x ys
in-append [] ys x i = inr i
in-append (z ∷ xs) ys x i = elim i [
  | inl e ↦ inl (inl e)
  | inr j ↦ elim (in-append xs ys x j) [ inl k ↦ inl (inr k) | inr k ↦ inr k ]
]

-- numbers that rise are distinct
pub distinct_from_rises : (low : ℕ) (xs : List ℕ) → Rises low xs → IsDistinct nat_eq xs
unfolding IsDistinct
distinct_from_rises low [] r = tt
distinct_from_rises low (x ∷ xs) r = (
  all_from_in (λ y. nat_eq x y ≡ false) xs (λ y i. let h : x + 1 ≤ y =
      low-le-in (x + 1) xs y r.1 i in ne_eqb x y (λ e. omega (arith, e))),
  distinct_from_rises (x + 1) xs r.1,
)

-- two lists of distinct numbers that share none
pub distinct-append : (xs ys : List ℕ) → IsDistinct nat_eq xs → IsDistinct nat_eq ys
    → ((x y : ℕ) → In x xs → In y ys → x ≡ y → ⊥) → IsDistinct nat_eq (xs ++ ys)
unfolding IsDistinct
distinct-append [] ys d e apart = e
distinct-append (x ∷ xs) ys d e apart = (
  all_from_in (λ y. nat_eq x y ≡ false) (xs ++ ys) (λ y i. elim (in-append xs ys y i) [
    | inl j ↦ in_from_all (λ z. nat_eq x z ≡ false) xs d.0 y j
    | inr k ↦ ne_eqb x y (λ same. apart x y (inl refl) k same)
  ]),
  distinct-append xs ys d.1 e (λ z y i k. apart z y (inr i) k),
)
