-- Pieces of a text, and the number that digits spell.
use Rattle.std.proofs.Common.{◌≡◌, ℕ, Bool, true, false, eqb, List, [], ◌∷◌, length, take, drop}
use Rattle.std.proofs.Common.{refl, sym, ap, ◌∙◌, length-drop, take_all, ◌-◌, subst, arith}
use Rattle.std.specs.List.{All, list_all, join_with_byte}
use Rattle.std.specs.Char.{is_ascii_digit}
use Rattle.std.proofs.lemmas.Bool.{and_parts, ne_eqb, false≢true}
use Rattle.std.proofs.lemmas.List.Splits.{slice_split_none, join_with_byte-slice_split}
use Rattle.std.proofs.lemmas.List.Elements.{All-nil, All-cons}
use Rattle.geo_addr.specs.Decimals.{has_digits}
use Rattle.geo_addr.specs.Lines.{pieces}

pub not_separator : (test : ℕ → Bool) (c : ℕ) (text : List ℕ) → test c ≡ false
    → list_all test text ≡ true → All (λ b. eqb b c ≡ false) text
not_separator test c [] other passes = All-nil (λ b. eqb b c ≡ false)
not_separator test c (b ∷ bs) other passes =
    let both = and_parts (test b) (list_all test bs) passes in
    All-cons (λ b. eqb b c ≡ false) b bs
    (ne_eqb b c (λ e. absurd (false≢true (sym other ∙ subst (λ x. test x ≡ true) e both.0))))
    (not_separator test c bs other both.1)

-- where the separator fails a test that each byte passes, the text is one piece
pub pieces_all : (test : ℕ → Bool) (c : ℕ) (text : List ℕ) → test c ≡ false
    → list_all test text ≡ true → pieces c text ≡ text ∷ []
pieces_all test c text other passes =
    slice_split_none (λ b. eqb b c) text (not_separator test c text other passes)

-- digits have no dot in them
pub pieces_digits : (least most : ℕ) (text : List ℕ) → has_digits least most text ≡ true
    → pieces 46 text ≡ text ∷ []
pieces_digits least most text h = pieces_all is_ascii_digit 46 text refl (and_parts _ _ h).1

-- a text that is one piece is that piece
pub whole_piece : (c : ℕ) (text part : List ℕ) → pieces c text ≡ part ∷ [] → part ≡ text
whole_piece c text part e = sym (ap (join_with_byte c) e) ∙ join_with_byte-slice_split c text

-- all that is behind an index
pub rest_whole : (text : List ℕ) (n : ℕ) → take (length text - n) (drop n text) ≡ drop n text
rest_whole text n = take_all (length text - n) (drop n text) (omega (arith, length-drop n text))
