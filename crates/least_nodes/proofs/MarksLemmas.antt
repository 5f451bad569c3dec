-- Lemmas on a set of numbers as bits.
use Rattle.std.proofs.Common.{◌≡◌, ◌≢◌, ℕ, zero, suc, ◌*◌, ◌/◌, ◌%◌, ◌^◌, ◌<◌, not, true, List, []}
use Rattle.std.proofs.Common.{◌∷◌, ◌++◌, length, replicate, get_or, set, refl, sym, ◌∙◌, ap, inl}
use Rattle.std.proofs.Common.{inr, arith, nat_eq, eq-eqb, ne_eqb, get_or-set_same, get_or-set_other}
use Rattle.std.proofs.Common.{w64}
use Rattle.std.proofs.lemmas.Bool.{cases_eq}
use Rattle.std.proofs.lemmas.Nat.{one_shl, pow_pos}
use Rattle.std.proofs.lemmas.Nat.Bits.{and_pow, bit_at_set_same, bit_at_set_other}
use Rattle.std.specs.Prelude.{bit_and, bit_or}
use Rattle.std.specs.Int.{bit_at}
use Rattle.least_nodes.specs.Marks.{is_marked}

-- a bit is 1 where the word has something at it
pub marked_by_test : (word k : ℕ) → k < 64
    → not (nat_eq (bit_and word (1 * 2 ^ k % 2 ^ 64)) 0) ≡ nat_eq (bit_at word k) 1
marked_by_test word k low =
    let is : bit_and word (1 * 2 ^ k % 2 ^ 64) ≡ bit_at word k * 2 ^ k =
    ap (bit_and word) (one_shl k 64 low) ∙ and_pow word k in
    let b : ℕ = bit_at word k in
    let small : b < 2 = omega arith in
    elim (cases_eq b 1) [
      | inl one ↦
          let some : 0 < bit_and word (1 * 2 ^ k % 2 ^ 64) =
          rw (is, one) (omega (arith, pow_pos k)) in
          ap not (ne_eqb _ 0 (omega arith)) ∙ sym (eq-eqb b 1 one)
      | inr other ↦
          let none : b ≡ 0 = omega arith in
          ap not (eq-eqb _ 0 (rw (is, none) (omega arith))) ∙ sym (ne_eqb b 1 other)
    ]

-- zeros behind the words are no marks
pub get_or-zeros : (m n : ℕ) → get_or (replicate {A = ℕ} m 0) n 0 ≡ 0
get_or-zeros zero n = refl
get_or-zeros (suc m) zero = refl
get_or-zeros (suc m) (suc n) = get_or-zeros m n

pub get_or-longer : (xs : List ℕ) (m n : ℕ) → get_or (xs ++ replicate m 0) n 0 ≡ get_or xs n 0
get_or-longer [] m n = get_or-zeros m n
get_or-longer (x ∷ xs) m zero = refl
get_or-longer (x ∷ xs) m (suc n) = get_or-longer xs m n

pub marked_longer : (words longer : List ℕ) (m n : ℕ) → longer ≡ words ++ replicate m 0
    → is_marked longer n ≡ is_marked words n
marked_longer words longer m n is =
    ap (λ w. nat_eq (bit_at w (n % 64)) 1)
    (ap (λ ws. get_or ws (n / 64) 0) is ∙ get_or-longer words m (n / 64))

-- a number that is put is marked, and no other number changes
module _ (words : List ℕ) (n word : ℕ) (within : n / 64 < length words) where
  abbrev put : List ℕ
  put = set words (n / 64) (bit_or word (1 * 2 ^ (n % 64) % 2 ^ 64))

  pub marked_here : is_marked put n ≡ true
  marked_here =
      ap (λ w. nat_eq (bit_at w (n % 64)) 1) (get_or-set_same words (n / 64) _ 0 within)
      ∙ eq-eqb _ 1 (bit_at_set_same w64 word (n % 64) (omega arith))

  pub marked_elsewhere : word ≡ get_or words (n / 64) 0 → (m : ℕ) → m ≢ n
      → is_marked put m ≡ is_marked words m
  marked_elsewhere read m other =
      elim (cases_eq (m / 64) (n / 64)) as (λ _. is_marked put m ≡ is_marked words m) [
        | inl row ↦
            ap (λ x. nat_eq (bit_at (get_or put x 0) (m % 64)) 1) row
            ∙ ap (λ w. nat_eq (bit_at w (m % 64)) 1) (get_or-set_same words (n / 64) _ 0 within)
            ∙ ap (λ b. nat_eq b 1)
            (bit_at_set_other w64 word (n % 64) (omega arith) (m % 64) (omega arith))
            ∙ ap (λ w. nat_eq (bit_at w (m % 64)) 1) (read ∙ ap (λ x. get_or words x 0) (sym row))
        | inr apart ↦
            ap (λ w. nat_eq (bit_at w (m % 64)) 1)
            (get_or-set_other words (n / 64) (m / 64) _ 0 apart)
      ]
