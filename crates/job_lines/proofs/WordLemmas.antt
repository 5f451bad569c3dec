-- Lemmas on the words of a line.
use Rattle.std.proofs.Common.{◌≡◌, ℕ, ◌+◌, ◌<◌, true, false, List, [], ◌∷◌, length, take, drop}
use Rattle.std.proofs.Common.{get_or, arith, subst, sym}
use Rattle.std.specs.List.{position_or_len, slice_split}
use Rattle.std.proofs.lemmas.List.Sums.{position_or_len_is, fails_before_first}
use Rattle.std.proofs.lemmas.List.Splits.{slice_split_first, slice_split_none}
use Rattle.geo_addr.specs.Lines.{is_blank}

-- a blank behind bytes that are none is the first
pub blank_here : (text : List ℕ) (i : ℕ) → i < length text
    → ((k : ℕ) → k < i → is_blank (get_or text k 0) ≡ false) → is_blank (get_or text i 0) ≡ true
    → i ≡ position_or_len is_blank text
blank_here text i within none here =
    sym (position_or_len_is is_blank text i 0 (omega arith) none (λ _. here))

-- and where no byte is a blank, there is no first
pub no_blank : (text : List ℕ) (i : ℕ)
    → i ≡ length text → ((k : ℕ) → k < i → is_blank (get_or text k 0) ≡ false)
    → length text ≡ position_or_len is_blank text
no_blank text i all none =
    sym (position_or_len_is is_blank text (length text) 0 (omega arith)
    (λ k below. none k (omega arith)) (λ past. absurd (omega arith)))

pub ruleset first_blank = (blank_here, no_blank)

-- the first piece ends at the first blank, and the others are the pieces of what follows
pub pieces_at_blank : (text : List ℕ) (i : ℕ) → i ≡ position_or_len is_blank text
    → i < length text →
    slice_split is_blank text ≡ take i text ∷ slice_split is_blank (drop (i + 1) text)
pieces_at_blank text i at within =
    let there : position_or_len is_blank text < length text = omega arith in
    subst (λ (n : ℕ). slice_split is_blank text
    ≡ take n text ∷ slice_split is_blank (drop (n + 1) text)) (sym at)
    (slice_split_first is_blank text 0 there)

-- a text without blanks is one piece
pub one_piece : (text : List ℕ) → length text ≡ position_or_len is_blank text
    → slice_split is_blank text ≡ text ∷ []
one_piece text at =
    slice_split_none is_blank text (λ k d below. fails_before_first is_blank text k d (omega arith))

pub ruleset blank_cuts = (pieces_at_blank, one_piece)
