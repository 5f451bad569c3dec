-- Lemmas on windows of slots: what stands there is found, and stays as more numbers come.
use Rattle.std.proofs.Common.{◌≡◌, ◌≢◌, ◌⊎◌, inl, inr, ℕ, zero, suc, ◌+◌, ◌<◌, List, [], ◌∷◌}
use Rattle.std.proofs.Common.{length, get_or, set, slice_get, Option, Some, refl, sym}
use Rattle.std.proofs.Common.{◌∙◌, ap, subst, arith}
use Rattle.std.proofs.lemmas.Option.{slice_get-get_or}
use Rattle.trie_core.specs.Pairs.{Stands, Keeps}
use Rattle.trie_core.specs.declared.others.Told.TheVariants.{Held, Missing, Unknown}

-- ---- what a slot tells is one of three things

pub missing_not_held : (k : ℕ) → Missing ≡ Held k → ⊥
missing_not_held k e = cc

pub missing_not_unknown : Missing ≡ Unknown → ⊥
missing_not_unknown e = cc

pub unknown_not_held : (k : ℕ) → Unknown ≡ Held k → ⊥
unknown_not_held k e = cc

pub unknown_not_missing : Unknown ≡ Missing → ⊥
unknown_not_missing e = cc

pub held_not_missing : (k : ℕ) → Held k ≡ Missing → ⊥
held_not_missing k e = cc

pub held_not_unknown : (k : ℕ) → Held k ≡ Unknown → ⊥
held_not_unknown k e = cc

-- ---- lists

pub set_here : {X : Type 0} (xs : List X) (n : ℕ) (y : X) → n < length xs
    → slice_get (set xs n y) n ≡ Some y
set_here [] n y within = absurd (omega arith)
set_here (x ∷ xs) zero y within = refl
set_here (x ∷ xs) (suc n) y within = set_here xs n y (omega arith)

pub set_other : {X : Type 0} (xs : List X) (n m : ℕ) (y : X) → m ≢ n
    → slice_get (set xs n y) m ≡ slice_get xs m
set_other [] n m y other = refl
set_other (x ∷ xs) zero zero y other = absurd (other refl)
set_other (x ∷ xs) zero (suc m) y other = refl
set_other (x ∷ xs) (suc n) zero y other = refl
set_other (x ∷ xs) (suc n) (suc m) y other = set_other xs n m y (λ same. other (ap suc same))

pub zero_or_suc : (k : ℕ) → Some 0 ≡ Some (suc k) → ⊥
zero_or_suc k is = let e : 0 ≡ suc k = cc in omega (arith, e)

same_or_not : (m n : ℕ) → (m ≡ n) ⊎ (m ≢ n)
same_or_not zero zero = inl refl
same_or_not zero (suc n) = inr (λ e. absurd (omega (arith, e)))
same_or_not (suc m) zero = inr (λ e. absurd (omega (arith, e)))
same_or_not (suc m) (suc n) = elim (same_or_not m n) [
  | inl e ↦ inl (ap suc e)
  | inr d ↦ inr (λ e. d (let f : m ≡ n = omega (arith, e) in f))
]

-- what stands at an index is a number, if it is not 0
pub number_at : (slots : List ℕ) (at : ℕ) → at < length slots → get_or slots at 0 ≢ 0
    → (m : ℕ) × (slice_get slots at ≡ Some (suc m))
number_at slots at within some =
    by (get_or slots at 0) (slice_get-get_or slots at 0 within) some
  where
    by : (v : ℕ) → slice_get slots at ≡ Some v → v ≢ 0
        → (m : ℕ) × (slice_get slots at ≡ Some (suc m))
    by zero is other = absurd (other refl)
    by (suc m) is other = (m, is)

-- ---- windows

-- what does not stand at a slot stands behind it
pub Stands-next : (slots : List ℕ) (at w v : ℕ) (rest : Option ℕ) (n : ℕ) → w ≡ suc v
    → slice_get slots at ≢ Some (suc n) → Stands slots at w rest n → Stands slots (at + 1) v rest n
unfolding Stands
Stands-next slots at w v rest n is other stands =
    elim (subst (λ k. Stands slots at k rest n) is stands) [
      | inl here ↦ absurd (other here)
      | inr on ↦
          subst (λ k. Stands slots k v rest n) (let e : suc at ≡ at + 1 = omega arith in e) on.1
    ]

-- nothing stands from a slot on that no number took
pub Stands-free : (slots : List ℕ) (at w v : ℕ) (rest : Option ℕ) (n : ℕ) → w ≡ suc v
    → ((m : ℕ) → slice_get slots at ≢ Some (suc m)) → Stands slots at w rest n → ⊥
unfolding Stands
Stands-free slots at w v rest n is free stands =
    elim (subst (λ k. Stands slots at k rest n) is stands) [
      | inl here ↦ free n here
      | inr on ↦ free on.0.0 on.0.1
    ]

-- what stands there stays as more numbers come
pub Stands-kept : (slots slots' : List ℕ) (at w : ℕ) (rest rest' : Option ℕ) (n : ℕ)
    → Keeps slots slots' → (rest ≡ Some n → rest' ≡ Some n) → Stands slots at w rest n
    → Stands slots' at w rest' n
unfolding Stands
Stands-kept slots slots' at zero rest rest' n kept on stands = on stands
Stands-kept slots slots' at (suc w) rest rest' n kept on stands = elim stands [
  | inl here ↦ inl (kept at n here)
  | inr next ↦ inr (
    (next.0.0, kept at next.0.0 next.0.1),
    Stands-kept slots slots' (suc at) w rest rest' n kept on next.1,
  )
]

pub Keeps-set : (slots : List ℕ) (at k : ℕ) → slice_get slots at ≡ Some 0
    → Keeps slots (set slots at (suc k))
Keeps-set slots at k free b v is = elim (same_or_not b at) [
  | inl same ↦ absurd (zero_or_suc v (sym free ∙ ap (slice_get slots) (sym same) ∙ is))
  | inr other ↦ set_other slots at b (suc k) other ∙ is
]

-- behind a slot that a number took
pub Stands-behind : (slots slots' : List ℕ) (at w v : ℕ) (rest : Option ℕ) (n : ℕ) → w ≡ suc v
    → at < length slots → get_or slots at 0 ≢ 0 → Keeps slots slots'
    → Stands slots' (at + 1) v rest n → Stands slots' at w rest n
unfolding Stands
Stands-behind slots slots' at w v rest n is within some kept stands =
    let number = number_at slots at within some in
    subst (λ k. Stands slots' at k rest n) (sym is) (inr (
      (number.0, kept at number.0 number.1),
      subst (λ k. Stands slots' k v rest n) (let e : at + 1 ≡ suc at = omega arith in e) stands,
    ))

-- at the slot that it came to
pub Stands-set : (slots : List ℕ) (at w v k : ℕ) (rest : Option ℕ) → w ≡ suc v → at < length slots
    → Stands (set slots at (suc k)) at w rest k
unfolding Stands
Stands-set slots at w v k rest is within =
    subst (λ l. Stands (set slots at (suc k)) at l rest k) (sym is)
    (inl (set_here slots at (suc k) within))

pub Stands-none : (slots : List ℕ) (at w : ℕ) (k : ℕ) → w ≡ 0 → Stands slots at w (Some k) k
unfolding Stands
Stands-none slots at w k is = subst (λ l. Stands slots at l (Some k) k) (sym is) refl

-- behind all slots only the rest tells it
pub Stands-rest : (slots : List ℕ) (at w : ℕ) (rest : Option ℕ) (n : ℕ) → w ≡ 0
    → Stands slots at w rest n → rest ≡ Some n
unfolding Stands
Stands-rest slots at w rest n is stands = subst (λ l. Stands slots at l rest n) is stands
