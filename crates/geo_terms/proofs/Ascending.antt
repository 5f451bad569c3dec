-- Ascending numbers, by recursion; lists of them with the same members are equal.
use Rattle.std.proofs.Common.{◌≡◌, ℕ, suc, ◌+◌, ◌<◌, ◌≤◌, List, [], ◌∷◌, sym, ap, ◌∙◌, subst}
use Rattle.std.proofs.Common.{refl, inl, inr, arith}
use Rattle.std.specs.List.Sorted.{IsStrictlyIncreasing}
use Rattle.geo_terms.proofs.Members.{Among}

-- the numbers ascend, from this one on
abbrev pub Up : ℕ → List ℕ → Type 0
Up low [] = Unit {0}
Up low (k ∷ ks) = (low ≤ k) × Up (k + 1) ks

pub up_weaker : (low high : ℕ) (ks : List ℕ) → low ≤ high → Up high ks → Up low ks
up_weaker low high [] le up = tt
up_weaker low high (k ∷ ks) le up = (omega (arith, up.0), up.1)

up_behind : (x : ℕ) (xs : List ℕ) → IsStrictlyIncreasing (x ∷ xs) → Up (x + 1) xs
up_behind x [] h = tt
up_behind x (y ∷ ys) h =
    let lt : x < y = h 0 (omega arith) in (
      omega arith,
      up_behind y ys (λ k below. let e : suc k + 1 ≡ suc (k + 1) = omega arith in
          rw e at (h (suc k) (omega arith))),
    )

-- strictly increasing numbers, by recursion
pub up_from : (xs : List ℕ) → IsStrictlyIncreasing xs → Up 0 xs
up_from [] h = tt
up_from (x ∷ xs) h = (omega arith, up_behind x xs h)

pub up_above : (low c : ℕ) (xs : List ℕ) → Up low xs → Among c xs → low ≤ c
up_above low c [] up is = absurd is
up_above low c (x ∷ xs) up (inl e) = omega (arith, up.0)
up_above low c (x ∷ xs) up (inr later) = omega (arith, up.0, up_above (x + 1) c xs up.1 later)

-- ascending lists with the same members are equal
pub same_members : (low : ℕ) (xs ys : List ℕ) → Up low xs → Up low ys
    → ((c : ℕ) → Among c xs → Among c ys) → ((c : ℕ) → Among c ys → Among c xs) → xs ≡ ys
same_members low [] [] up vp there back = refl
same_members low [] (y ∷ ys) up vp there back = absurd (back y (inl refl))
same_members low (x ∷ xs) [] up vp there back = absurd (there x (inl refl))
same_members low (x ∷ xs) (y ∷ ys) up vp there back =
    let rest : xs ≡ ys =
    same_members (x + 1) xs ys up.1 (subst (λ n. Up (n + 1) ys) (sym same) vp.1)
    (λ c is. behind c is (there c (inr is))) (λ c is. ahead c is (back c (inr is))) in
    ap (λ n. n ∷ xs) same ∙ ap (λ zs. y ∷ zs) rest
  where
    not_less : Among x (y ∷ ys) → y ≤ x
    not_less (inl e) = omega arith
    not_less (inr later) = omega (arith, up_above (y + 1) x ys vp.1 later)

    not_more : Among y (x ∷ xs) → x ≤ y
    not_more (inl e) = omega arith
    not_more (inr later) = omega (arith, up_above (x + 1) y xs up.1 later)

    same : x ≡ y
    same =
        let le : y ≤ x = not_less (there x (inl refl)) in
        let ge : x ≤ y = not_more (back y (inl refl)) in omega arith

    behind : (c : ℕ) → Among c xs → Among c (y ∷ ys) → Among c ys
    behind c is (inl e) =
        absurd (let lt : x + 1 ≤ c = up_above (x + 1) c xs up.1 is in let s : x ≡ y = same in
        omega arith)
    behind c is (inr later) = later

    ahead : (c : ℕ) → Among c ys → Among c (x ∷ xs) → Among c xs
    ahead c is (inl e) =
        absurd (let lt : y + 1 ≤ c = up_above (y + 1) c ys vp.1 is in let s : x ≡ y = same in
        omega arith)
    ahead c is (inr later) = later
