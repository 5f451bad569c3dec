-- What the readers above rest on: a dump that is refused stays so, its whole objects are those
-- that a blank line ends, and its notes are put in line order.
use Rattle.std.specs.Prelude.{◌≡◌, ℕ, List, ◌++◌, Err}
use Rattle.std.specs.List.Sorted.{IsNonDecreasingBy, IsPermutation}
use Rattle.geo_terms.specs.declared.note.LineNote.{LineNote}
use Rattle.geo_terms.specs.declared.source.SourceFault.{SourceFault}
use Rattle.rpsl_reader.specs.Ended.{said_so_far}
use Rattle.feed_refs.specs.Dumps.{dump, in_line_order, references, so_far, whole_references, within}

-- what is refused of a dump is refused whatever follows
abbrev pub FaultStays : Type 0
FaultStays = (slot text more : List ℕ) (fault : SourceFault) → so_far slot text ≡ Err fault
    → so_far slot (text ++ more) ≡ Err fault

-- and where nothing follows
abbrev pub EndFault : Type 0
EndFault = (slot text : List ℕ) (fault : SourceFault) → so_far slot text ≡ Err fault
    → dump slot text ≡ Err fault

-- the references that count while more may follow are those of the groups of lines that have
-- ended within the bytes that count
abbrev pub WholeByLines : Type 0
WholeByLines = (slot text : List ℕ)
    → whole_references slot text ≡ references slot (said_so_far (within text))

-- the same notes, each as often, on lines that do not fall
pub record AreInLineOrder (notes sorted : List LineNote) : Type 0 where
  pub same : IsPermutation notes sorted
  pub rising : IsNonDecreasingBy (λ n. n.line) sorted

abbrev pub NotesInOrder : Type 0
NotesInOrder = (notes : List LineNote) → AreInLineOrder notes (in_line_order notes)
