-- The lowest number that passes a test, where the test does not change or passes lower down.
use Rattle.std.proofs.Common.{◌≡◌, ◌⊎◌, inl, inr, ℕ, zero, suc, ◌<◌, Bool, true, false, Option}
use Rattle.std.proofs.Common.{Some, None, refl, sym, ap, ◌∙◌, arith}
use Rattle.std.proofs.lemmas.Bool.{cases_eq}
use Rattle.check_census.specs.Verdicts.{or_else, some_if, lowest}

or_else-none : (x : Option ℕ) → or_else x None ≡ x
or_else-none None = refl
or_else-none (Some z) = refl

here : (x : Option ℕ) (t : Bool) (n : ℕ) → t ≡ true → (z : ℕ) × (or_else x (some_if t n) ≡ Some z)
here None true n e = (n, refl)
here None false n e = absurd cc
here (Some z) t n e = (z, refl)

lowest-some : (g : ℕ → Bool) (b n : ℕ) → b < n → g b ≡ true → (z : ℕ) × (lowest g n ≡ Some z)
unfolding lowest
lowest-some g b zero lt e = absurd (omega arith)
lowest-some g b (suc n) lt e =
    elim (cases_eq b n) [
      | inl is ↦ here (lowest g n) (g n) n (ap g (sym is) ∙ e)
      | inr ne ↦ let rest = lowest-some g b n (omega arith) e in
          (rest.0, ap (λ x. or_else x (some_if (g n) n)) rest.1)
    ]

same_again : (x : Option ℕ) (t u : Bool) (p q : ℕ) → u ≡ t
    → or_else (or_else x (some_if t p)) (some_if u q) ≡ or_else x (some_if t p)
same_again (Some z) t u p q e = refl
same_again None true u p q e = refl
same_again None false true p q e = absurd cc
same_again None false false p q e = refl

lower_down : (g : ℕ → Bool) (b p q : ℕ) → b < p → g q ≡ g b
    → or_else (or_else (lowest g p) (some_if (g p) p)) (some_if (g q) q) ≡ or_else (lowest g p)
    (some_if (g p) p)
lower_down g b p q lt same = by (g b) refl
  where
    by : (t : Bool) → g b ≡ t → or_else (or_else (lowest g p) (some_if (g p) p))
        (some_if (g q) q) ≡ or_else (lowest g p) (some_if (g p) p)
    by true e =
        let found = lowest-some g b p lt e in
        ap (λ x. or_else (or_else x (some_if (g p) p)) (some_if (g q) q)) found.1
        ∙ sym (ap (λ x. or_else x (some_if (g p) p)) found.1)
    by false e = ap (λ u. or_else (or_else (lowest g p) (some_if (g p) p)) (some_if u q)) (same ∙ e)
        ∙ or_else-none (or_else (lowest g p) (some_if (g p) p))

-- from p on up to q nothing passes that does not pass at p or below it
pub lowest-up_to : (g : ℕ → Bool) (p q : ℕ) → p < q
    → ((a : ℕ) → p < a → a < q → (g a ≡ g p) ⊎ ((b : ℕ) × (b < p) × (g a ≡ g b)))
    → lowest g q ≡ or_else (lowest g p) (some_if (g p) p)
unfolding lowest
lowest-up_to g p zero lt all = absurd (omega arith)
lowest-up_to g p (suc q) lt all =
    elim (cases_eq p q) [
      | inl e ↦ ap (λ k. or_else (lowest g k) (some_if (g k) k)) (sym e)
      | inr ne ↦
          let rest = lowest-up_to g p q (omega arith) (λ a low high. all a low (omega arith)) in
          ap (λ x. or_else x (some_if (g q) q)) rest
          ∙ elim (all q (omega arith) (omega arith)) [
            | inl same ↦ same_again (lowest g p) (g p) (g q) p q same
            | inr lower ↦ lower_down g lower.0 p q lower.1 lower.2
          ]
    ]
