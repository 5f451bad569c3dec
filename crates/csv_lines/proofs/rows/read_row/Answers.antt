-- One read of a reader that stands before a text with values.
use Rattle.std.proofs.Common.{Bor, List, ℕ, Some}
use Rattle.csv.specs.Records.{fields_of}
use Rattle.csv_lines.proofs.RestLemmas.{read_gives}
use Rattle.csv_lines.proofs.rows.read_row.Goals as goal
use Rattle.csv_lines.proofs.rows.read_row.Goals.{in-Ok, in-Err}

pub returns : goal.returns
returns c text left values some is stands =
    elim c.match-read_byte_record.branch [
      | in-Ok w ↦
          let read = rw w.in-Ok.is at c.read_byte_record.ensures.reads in
          let first = rw w.in-Ok.is at c.read_byte_record.ensures.ready in
          rw w.result-is (
          read_gives (λ (s : Bor (List ℕ)). Some s.now) c.args.reader.now
          c.read_byte_record.new.self w.in-Ok.field-0 (fields_of c.read_byte_record.new.row)
          text left values some is stands (read stands.trim stands.ready) (first stands.trim))
      | in-Err w ↦ rw w.result-is tt
    ]
