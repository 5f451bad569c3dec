-- What a registry dump says of feeds (RFC 9632), and the limits of a dump.
use Rattle.std.specs.Prelude.{ℕ, nat_eq, nat_lt, List, [], ◌∷◌, length, take, flat_map, Result}
use Rattle.std.specs.Prelude.{Ok, Err, if◌then◌else◌}
use Rattle.std.specs.List.{IsDistinct}
use Rattle.geo_terms.specs.SourceForm.{DumpParts, note_lines}
use Rattle.geo_terms.specs.declared.note.LineNote.{LineNote}
use Rattle.geo_terms.specs.declared.source.SourceFault.{SourceFault}
use Rattle.geo_terms.specs.declared.source.SourceFault.TheVariants.{TooLong, TooMany}
use Rattle.geo_terms.specs.declared.statement.Reference.{Reference}
use Rattle.rpsl_reader.specs.Objects.{objects}
use Rattle.rpsl_reader.specs.Reading.{given, start}
use Rattle.rpsl_reader.specs.declared.item.Item.{Item}
use Rattle.rpsl_reader.specs.declared.item.Item.TheVariants.{Whole, Passed}
use Rattle.feed_refs.specs.References.{found}
use Rattle.feed_refs.specs.declared.limits.TheConstants.{LONGEST_DUMP, MOST}
use Rattle.feed_refs.specs.declared.reference.What.{What}
use Rattle.feed_refs.specs.declared.reference.What.TheVariants.{NotInet, Nothing, One, Void}

-- the most bytes of a dump, and the most references in it
abbrev pub longest : ℕ
longest = LONGEST_DUMP

abbrev pub most : ℕ
most = MOST

-- the reference of an object, if it has one that counts
abbrev pub reference_in : What → List Reference
reference_in NotInet = []
reference_in Nothing = []
reference_in (One reference) = reference ∷ []
reference_in Void = []

abbrev pub references_of : List ℕ → Item → List Reference
references_of slot (Whole object) = reference_in (found slot object).what
references_of slot (Passed line rule) = []

-- the notes of an object, or the one on what was passed over
abbrev pub notes_of : List ℕ → Item → List LineNote
notes_of slot (Whole object) = (found slot object).notes
notes_of slot (Passed line rule) = record { line = line; rule = rule } ∷ []

-- the references that items make, in line order
unfoldable pub references : List ℕ → List Item → List Reference
references slot items = flat_map (references_of slot) items

-- a note put in among notes in line order
abbrev pub put_in : LineNote → List LineNote → List LineNote
put_in n [] = n ∷ []
put_in n (m ∷ ms) = if nat_lt m.line n.line then m ∷ put_in n ms else n ∷ m ∷ ms

-- notes in line order
unfoldable pub in_line_order : List LineNote → List LineNote
in_line_order [] = []
in_line_order (n ∷ ns) = put_in n (in_line_order ns)

unfoldable pub noted : List ℕ → List Item → List LineNote
noted slot items = flat_map (notes_of slot) items

-- the notes that items make, in line order: a line that was passed over may stand before an
-- attribute of its object
abbrev pub notes : List ℕ → List Item → List LineNote
notes slot items = in_line_order (noted slot items)

-- the bytes of a text that count
unfoldable pub within : List ℕ → List ℕ
within text = take longest text

-- the references of the objects that are whole while more may follow:
-- those that end within the bytes that count
abbrev pub whole_references : List ℕ → List ℕ → List Reference
whole_references slot text = references slot (given start (within text))

-- a dump that is too long is so whatever follows, and one with too many references too
abbrev pub judged : {T : Type 0} → List Reference → List ℕ → T → Result T SourceFault
judged found text x =
    if nat_lt most (length found) then Err TooMany
    else (if nat_lt longest (length text) then Err TooLong else Ok x)

-- what is said of the text of a dump while more may follow
unfoldable pub so_far : (slot text : List ℕ) → Result (Unit {0}) SourceFault
so_far slot text = judged (whole_references slot text) text tt

-- what a dump says, if it is not too long
abbrev pub dump_parts : (slot text : List ℕ) → DumpParts
dump_parts slot text =
    record { slot = slot; refs = references slot (objects text); notes = notes slot (objects text) }

-- the end of a text ends its last object, where all of it counts
abbrev pub last_references : List ℕ → List ℕ → List Reference
last_references slot text =
    if nat_lt longest (length text) then whole_references slot text
    else references slot (objects text)

-- the dump that a text is
unfoldable pub dump : (slot text : List ℕ) → Result DumpParts SourceFault
dump slot text = judged (last_references slot text) text (dump_parts slot text)

-- no two notes stand on one line
abbrev pub AreApart : List LineNote → Type 0
AreApart notes = IsDistinct nat_eq (note_lines notes)
