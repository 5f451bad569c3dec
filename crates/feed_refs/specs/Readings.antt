-- What a reader of a dump holds once it was fed a text.
use Rattle.std.specs.Prelude.{◌≡◌, ℕ, List, [], ◌∷◌, length, codes, Option, None, Some, Result, Ok}
use Rattle.std.specs.Prelude.{Err, false}
use Rattle.geo_terms.specs.declared.note.LineNote.{LineNote}
use Rattle.geo_terms.specs.declared.source.SourceFault.{SourceFault}
use Rattle.geo_terms.specs.declared.statement.Reference.{Reference}
use Rattle.rpsl_reader.specs.Reading.{Fed, after, given, start}
use Rattle.rpsl_reader.specs.Selections.{Wanted}
use Rattle.feed_refs.specs.Dumps.{noted, references, so_far}

-- the reader of its objects, and what these say so far, the notes as they come
pub record Kept : Type 0 where
  pub reader : Fed
  pub refs : List Reference
  pub notes : List LineNote

-- nothing is kept behind a fault but the fault
pub record Reading : Type 0 where
  pub slot : List ℕ
  pub kept : Result Kept SourceFault

abbrev pub kept_if : {T : Type 0} → Result T SourceFault → Kept → Result Kept SourceFault
kept_if (Ok fine) kept = Ok kept
kept_if (Err fault) kept = Err fault

-- what a text leaves
unfoldable pub kept_of : (slot text : List ℕ) → Kept
kept_of slot text = record {
  reader = record { fed = length text; state = after start text };
  refs = references slot (given start text);
  notes = noted slot (given start text);
}

-- the reader of a slot that was fed a text
abbrev pub reading : (slot text : List ℕ) → Reading
reading slot text = record { slot = slot; kept = kept_if (so_far slot text) (kept_of slot text) }

-- there is a text that a reader was fed
abbrev pub WasFed : Reading → Type 0
WasFed r = (text : List ℕ) × (r ≡ reading r.slot text)

-- the objects and the attributes that a dump is read for
abbrev pub ours : Wanted
ours = record {
  everything = false;
  classes = codes "inetnum" ∷ codes "inet6num" ∷ [];
  names = codes "geofeed" ∷ codes "remarks" ∷ codes "last-modified" ∷ [];
}

abbrev pub kept_by : Option SourceFault → Kept → Result Kept SourceFault
kept_by None kept = Ok kept
kept_by (Some fault) kept = Err fault

-- what a reader keeps in its fields
pub record IsHeld (slot : List ℕ) (selection : Wanted) (count : ℕ) (fault : Option SourceFault)
    (kept : Kept) : Type 0 where
  pub asked : selection ≡ ours
  pub counted : count ≡ kept.reader.fed
  pub fed : WasFed (record { slot = slot; kept = kept_by fault kept })
