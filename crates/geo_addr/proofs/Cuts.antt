-- Lemmas on cutting a text at a byte.
use Rattle.std.proofs.Common.{◌≡◌, ◌≢◌, ℕ, ◌+◌, ◌<◌, Bool, true, false, inl, inr, None}
use Rattle.std.proofs.Common.{List, [], ◌∷◌, ◌++◌, length, take, drop, get_or, arith, refl, subst}
use Rattle.std.proofs.Common.{sym, eqb, not}
use Rattle.std.specs.List.{position, position_or_len, slice_split}
use Rattle.std.proofs.lemmas.List.Sums.{position_or_len_is, prefix_len-le-length, split_at_first}
use Rattle.std.proofs.lemmas.List.Sums.{fails_before_first, passes_at_first}
use Rattle.std.proofs.lemmas.List.Splits.{slice_split_first, slice_split_none}
use Rattle.std.proofs.lemmas.Bool.{cases_lt, lt-ltb}
use Rattle.std.proofs.lemmas.Option.{none-some}
use Rattle.std.proofs.lemmas.Bool.Decides.{nat_tests}
use Rattle.memchr.specs.Find.{Nowhere, NoneBefore, Passes, is_byte}

-- where a byte stands first
abbrev offset_of : ℕ → List ℕ → ℕ
offset_of byte xs = position_or_len (λ b. eqb b byte) xs

-- before the first offset no byte is the one that was sought
pub free_before : (byte : ℕ) (xs : List ℕ) (k : ℕ) (d : ℕ) → k < offset_of byte xs
    → get_or xs k d ≢ byte
free_before byte xs k d before is =
    let test : eqb (get_or xs k d) byte ≡ false =
    fails_before_first (λ b. eqb b byte) xs k d before in
    grind (arith, nat_tests)

-- the first piece ends at the first offset of the byte, and the others
-- are the pieces of what follows
pub pieces_at_offset : (byte : ℕ) (xs : List ℕ) (i : ℕ) → i ≡ offset_of byte xs → i < length xs →
    slice_split (λ b. eqb b byte) xs ≡ take i xs ∷ slice_split (λ b. eqb b byte) (drop (i + 1) xs)
pieces_at_offset byte xs i at within =
    let there : offset_of byte xs < length xs = omega arith in
    subst (λ (n : ℕ). slice_split (λ b. eqb b byte) xs
    ≡ take n xs ∷ slice_split (λ b. eqb b byte) (drop (n + 1) xs)) (sym at)
    (slice_split_first (λ b. eqb b byte) xs 0 there)

-- a text without the byte is one piece
pub one_piece : (byte : ℕ) (xs : List ℕ) → length xs ≡ offset_of byte xs
    → slice_split (λ b. eqb b byte) xs ≡ xs ∷ []
one_piece byte xs at =
    slice_split_none (λ b. eqb b byte) xs
    (λ k d below. fails_before_first (λ b. eqb b byte) xs k d (omega arith))

-- the text is what stands before the byte, the byte, and what stands after it
pub joined_at_offset : (byte : ℕ) (xs : List ℕ) (i : ℕ) → i ≡ offset_of byte xs → i < length xs
    → xs ≡ take i xs ++ (byte ∷ drop (i + 1) xs)
joined_at_offset byte xs i at within =
    let there : offset_of byte xs < length xs = omega arith in
    let test : eqb (get_or xs (offset_of byte xs) 0) byte ≡ true =
    passes_at_first (λ b. eqb b byte) xs 0 there in
    let is : get_or xs (offset_of byte xs) 0 ≡ byte = grind (arith, nat_tests) in
    let cut : xs ≡ take (offset_of byte xs) xs ++ (byte ∷ drop (offset_of byte xs + 1) xs) =
    subst (λ (b : ℕ). xs ≡ take (offset_of byte xs) xs ++ (b ∷ drop (offset_of byte xs + 1) xs)) is
    (split_at_first (λ b. eqb b byte) xs 0 there) in
    subst (λ (n : ℕ). xs ≡ take n xs ++ (byte ∷ drop (n + 1) xs)) (sym at) cut

-- a byte that was not found stands past the end
pub not_found : (byte : ℕ) (xs : List ℕ) → None ≡ position (λ b. eqb b byte) xs →
    length xs ≡ offset_of byte xs
not_found byte xs none =
    elim (cases_lt (offset_of byte xs) (length xs)) [
      | inl inside ↦
          let at_none = lt-ltb (offset_of byte xs) (length xs) inside in
          absurd (none-some (offset_of byte xs) (rw at_none at none))
      | inr past ↦ omega (arith, past, prefix_len-le-length (λ b. not (eqb b byte)) xs)
    ]

false_from_not : (b : Bool) → (b ≡ true → ⊥) → b ≡ false
false_from_not true not_true = absurd (not_true refl)
false_from_not false not_true = refl

pub nowhere : (byte : ℕ) (xs : List ℕ)
    → Nowhere (Passes (is_byte byte) xs) 0 (length xs) → length xs ≡ offset_of byte xs
nowhere byte xs none =
    sym (position_or_len_is (λ b. eqb b byte) xs (length xs) 0 (omega arith)
    (λ k below. false_from_not _ (none k (omega arith) below)) (λ past. absurd (omega arith)))

pub first_at : (byte : ℕ) (xs : List ℕ) (i : ℕ)
    → NoneBefore (Passes (is_byte byte) xs) 0 (length xs) i → Passes (is_byte byte) xs i
    → i ≡ offset_of byte xs
first_at byte xs i earlier here =
    sym (position_or_len_is (λ b. eqb b byte) xs i 0 (omega (arith, earlier.high))
    (λ k below. false_from_not _ (earlier.before k (omega arith) below)) (λ within. here))

pub ruleset finding = (nowhere, first_at)
