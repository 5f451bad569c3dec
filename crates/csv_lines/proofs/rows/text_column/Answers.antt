-- A field of a line is UTF-8.
use Rattle.std.proofs.Common.{subst, sym}
use Rattle.std.specs.Prelude.{IsUtf8}
use Rattle.csv_lines.proofs.rows.text_column.Goals as goal

pub from_utf8_unchecked-requires : goal.from_utf8_unchecked-requires
from_utf8_unchecked-requires g c =
    subst IsUtf8 (sym c.column.ensures) (c.requires.utf8 c.args.index)
