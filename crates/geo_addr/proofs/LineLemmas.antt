-- Lemmas on the lines of a text.
use Rattle.std.proofs.Common.{◌≡◌, ℕ, ◌<◌, List, [], ◌∷◌, length, arith, refl, ap, ◌∙◌, eqb}
use Rattle.std.proofs.lemmas.List.Splits.{length-slice_split}
use Rattle.std.specs.Str.Lines.{strip_carriage_return}
use Rattle.geo_addr.specs.Lines.{lines_of, lines_of_pieces, pieces}

-- a first piece before another one is a line
first_of_two : (piece : List ℕ) (others : List (List ℕ)) → 0 < length others
    → lines_of_pieces (piece ∷ others) ≡ strip_carriage_return piece ∷ lines_of_pieces others
first_of_two piece [] some = absurd (omega arith)
first_of_two piece (next ∷ more) some = refl

-- there is always a piece
some_pieces : (text : List ℕ) → 0 < length (pieces 10 text)
some_pieces text = omega (arith, length-slice_split (λ b. eqb b 10) text)

-- the piece before a line feed is a line, and the others are the lines of what follows
pub line_before_feed : (text piece after : List ℕ) → pieces 10 text ≡ piece ∷ pieces 10 after
    → lines_of text ≡ strip_carriage_return piece ∷ lines_of after
line_before_feed text piece after cut =
    ap lines_of_pieces cut ∙ first_of_two piece (pieces 10 after) (some_pieces after)
