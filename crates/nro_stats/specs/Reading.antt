-- What a reader of a statistics file holds once it was fed a text.
use Rattle.std.specs.Prelude.{◌≡◌, ℕ, ◌+◌, ◌≤◌, List, ◌++◌, filter_map, length}
use Rattle.geo_addr.specs.Lines.{numbered_lines}
use Rattle.geo_terms.specs.DelegationForm.{DelegationParts}
use Rattle.geo_terms.specs.declared.note.LineNote.{LineNote}
use Rattle.line_parts.specs.Parts.{behind}
use Rattle.nro_stats.specs.File.{longest, note_of, row_of}

-- how many bytes it was fed, how many lines of them were read, what these say, and the bytes that
-- are left
pub record Kept : Type 0 where
  pub slot : List ℕ
  pub fed : ℕ
  pub before : ℕ
  pub rows : List DelegationParts
  pub notes : List LineNote
  pub left : List ℕ

-- of a slot, and fed this text: some lines were read, and the others are those of the bytes that
-- are left, whatever follows
pub record WasFed (slot text : List ℕ) (kept : Kept) : Type 0 where
  pub its : kept.slot ≡ slot
  pub counted : kept.fed ≡ length text
  pub read : List (ℕ × List ℕ)
  pub rows : kept.rows ≡ filter_map (row_of slot) read
  pub notes : kept.notes ≡ filter_map note_of read
  pub lines : (more : List ℕ) → read ++ behind kept.before (numbered_lines (kept.left ++ more))
      ≡ numbered_lines (text ++ more)

-- what a reader keeps in its fields: it was fed a text that is not too long, and has no more lines
-- than bytes
pub record IsHeld (kept : Kept) : Type 0 where
  pub text : List ℕ
  pub was : WasFed kept.slot text kept
  pub few : kept.fed ≤ longest
  pub within : kept.before + length kept.left ≤ kept.fed
