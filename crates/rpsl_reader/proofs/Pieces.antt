-- Pieces, one after the other, are one piece.
use Rattle.std.proofs.Common.{◌≡◌, ℕ, List, [], ◌∷◌, ◌++◌, refl, sym, ap, ◌∙◌, append_assoc}
use Rattle.std.proofs.lemmas.List.Elements.{filter_map-append}
use Rattle.rpsl_reader.specs.Laws.{PiecesJoin, WantedJoins}
use Rattle.rpsl_reader.specs.Reading.{State, after, given, gives, after_byte}
use Rattle.rpsl_reader.specs.Selections.{Wanted, wanted, wanted_of}
use Rattle.rpsl_reader.specs.declared.item.Item.{Item}

pub after-append : (s : State) (a b : List ℕ) → after s (a ++ b) ≡ after (after s a) b
unfolding after
after-append s [] b = refl
after-append s (x ∷ a) b = after-append (after_byte s x) a b

pub given-append : (s : State) (a b : List ℕ) → given s (a ++ b) ≡ given s a ++ given (after s a) b
unfolding given after
given-append s [] b = refl
given-append s (x ∷ a) b =
    ap (λ t. gives s x ++ t) (given-append (after_byte s x) a b)
    ∙ sym (append_assoc (gives s x) (given (after_byte s x) a) (given (after (after_byte s x) a) b))

pub wanted-append : (w : Wanted) (xs ys : List Item)
    → wanted w (xs ++ ys) ≡ wanted w xs ++ wanted w ys
unfolding wanted
wanted-append w xs ys = filter_map-append (wanted_of w) xs ys

pub pieces_join : PiecesJoin
pieces_join s a b = (after-append s a b, given-append s a b)

pub wanted_joins : WantedJoins
wanted_joins w xs ys = wanted-append w xs ys
