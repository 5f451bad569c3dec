-- That reading in pieces gives what the whole text says.
use Rattle.std.specs.Prelude.{◌≡◌, ℕ, ◌+◌, ◌≤◌, List, [], ◌∷◌, ◌++◌, length}
use Rattle.std.specs.List.{concat}
use Rattle.rpsl_reader.specs.declared.item.Item.{Item}
use Rattle.rpsl_reader.specs.Ended.{said_so_far}
use Rattle.rpsl_reader.specs.Objects.{longest, objects, size}
use Rattle.rpsl_reader.specs.Reading.{Group, State, after, given, last, most, over, start, within}
use Rattle.rpsl_reader.specs.Selections.{Wanted, wanted}

-- two pieces, one after the other, are one piece
abbrev pub PiecesJoin : Type 0
PiecesJoin =
    (s : State) (a b : List ℕ) → (after s (a ++ b) ≡ after (after s a) b)
    × (given s (a ++ b) ≡ given s a ++ given (after s a) b)

-- what is given on the way and at the end is what the text says
abbrev pub GivenIsWhole : Type 0
GivenIsWhole = (text : List ℕ) → given start text ++ last (after start text) ≡ objects text

-- what is wanted of items is wanted of each part of them
abbrev pub WantedJoins : Type 0
WantedJoins = (w : Wanted) (xs ys : List Item) → wanted w (xs ++ ys) ≡ wanted w xs ++ wanted w ys

-- an open group whose lines are kept is not too long
abbrev pub IsShort : Group → Type 0
IsShort (within ls) = size ls ≤ longest
IsShort (over n) = Unit {0}

-- what is kept of a text is bounded
pub record IsBounded (s : State) : Type 0 where
  pub pending : length s.pending ≤ most + 1
  pub group : IsShort s.group

abbrev pub StaysBounded : Type 0
StaysBounded = (text : List ℕ) → IsBounded (after start text)

-- what the pieces of a text give, and then its end
abbrev pub given_in_pieces : State → List (List ℕ) → List Item
given_in_pieces s [] = last s
given_in_pieces s (p ∷ ps) = given s p ++ given_in_pieces (after s p) ps

-- it is what the whole text says, however it is cut
abbrev pub AnyCutting : Type 0
AnyCutting = (ps : List (List ℕ)) → given_in_pieces start ps ≡ objects (concat ps)

-- what the pieces of a text have given while more may follow
abbrev pub given_by_pieces : State → List (List ℕ) → List Item
given_by_pieces s [] = []
given_by_pieces s (p ∷ ps) = given s p ++ given_by_pieces (after s p) ps

-- after each piece it is what the groups say that have ended, no sooner and no later
abbrev pub GivenSoFar : Type 0
GivenSoFar = (ps : List (List ℕ)) → given_by_pieces start ps ≡ said_so_far (concat ps)
