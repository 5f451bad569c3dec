use Rattle.std.proofs.Common.{rules}
use Rattle.geo_terms.specs.NoteText.{note_line}
use Rattle.geo_terms.proofs.note.note_text.Goals as goal

pub returns : goal.returns
unfolding note_line
returns c = search rules steps 4000000
