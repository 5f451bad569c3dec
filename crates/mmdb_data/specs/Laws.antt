-- The laws of a packed data section.
use Rattle.std.specs.Prelude.{◌≡◌, ◌+◌, ◌^◌, ◌<◌, ℕ, true, List, [], ◌∷◌, ◌++◌, length, slice_index}
use Rattle.std.specs.Prelude.{slice_index_or, Some, None, Ok, All}
use Rattle.std.specs.Str.{IsUtf8}
use Rattle.mmdb_data.specs.ValueTree.{ValueTree, text, CanBePacked, CanBeReadBack, IsWithinLimits}
use Rattle.mmdb_data.specs.Spelling.{spelling}
use Rattle.mmdb_data.specs.Reading.{Fault, Budget, reads, value_from, byte_from, pointer_from}
use Rattle.mmdb_data.specs.Reading.{is_pointer}
use Rattle.mmdb_data.specs.Packing.{Packed, pointer, offset_of, in_full, packed, packed_offsets}

-- reading where a value was appended gives that value, whatever is appended later
abbrev pub PackedReadsBack : Type 0
PackedReadsBack =
    (before : List ValueTree) (value : ValueTree) (later : List ℕ) → All CanBePacked before
    → CanBePacked value → IsWithinLimits value
    → reads (packed (before ++ value ∷ []) ++ later) (length (packed before)) ≡ Ok value

-- the same of each value of a section
abbrev pub PackedReadsEach : Type 0
PackedReadsEach =
    (values : List ValueTree) (default : ValueTree) (later : List ℕ) → All CanBeReadBack values
    → (k : ℕ)
    → k < length values
    → reads (packed values ++ later) (slice_index (packed_offsets values) k) ≡ Ok
    (slice_index_or values k default)

-- a value that stands nowhere in full yet is noted where it begins
abbrev pub NewValueIsNoted : Type 0
NewValueIsNoted =
    (value : ValueTree) (section : Packed) → offset_of (spelling value) section ≡ None
    → offset_of (spelling value) (in_full value section) ≡ Some (length section.bytes)

-- what is noted stays, so it is the least offset
abbrev pub NotesStay : Type 0
NotesStay =
    (spelled : List ℕ) (value : ValueTree) (section : Packed) (at : ℕ)
    → offset_of spelled section ≡ Some at → offset_of spelled (in_full value section) ≡ Some at

-- values are equal where their spellings are
abbrev pub SpellingsTellApart : Type 0
SpellingsTellApart = (a b : ValueTree) → CanBePacked a → CanBePacked b → spelling a ≡ spelling b → a
    ≡ b

-- at an offset of a section stands a pointer: its first byte says so, and it leads to an offset
pub record PointsTo (section : List ℕ) (at to : ℕ) : Type 0 where
  pub control : ℕ
  pub first : (fault : Fault) → byte_from section at fault ≡ Ok control
  pub is_one : is_pointer control ≡ true
  pub read : pointer_from section at control ≡ Ok (to, at + length (pointer to))

-- a pointer that is written, of 11, 19, 27 or 32 bits, is read as one to the same offset, whatever
-- stands around it
abbrev pub PointersReadBack : Type 0
PointersReadBack = (to : ℕ) (before after : List ℕ) → to < 2 ^ 32
    → PointsTo (before ++ (pointer to ++ after)) (length before) to

-- what is read as a key is a text, also behind a pointer, whatever is left of the budget
abbrev pub KeysAreTexts : Type 0
KeysAreTexts =
    (section : List ℕ) (levels at : ℕ) (left : Budget) (found : ValueTree × ℕ × Budget)
    → value_from section levels true at left ≡ Ok found
    → (content : List ℕ) × (found.0 ≡ text content) × IsUtf8 content
