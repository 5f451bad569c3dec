-- A new reader stands behind the line feed in front.
use Rattle.std.proofs.Common.{◌∙◌, ◌∷◌, inr, ap, Some}
use Rattle.csv.specs.Reading.{strip_bom}
use Rattle.csv_lines.proofs.CsvLemmas.{after_feed, strip_feed}
use Rattle.csv_lines.proofs.rows.new_reader.Goals as goal

pub returns : goal.returns
returns c left is =
    let new = c.from_reader.ensures in
    let flexible = c.flexible.ensures in
    let headers = c.has_headers.ensures in
    record {
      ready = inr (inr (rw (flexible, headers) at new.has_headers, new.headers));
      trim = rw (flexible, headers) at new.trim ∙ c.new.ensures.trim;
      config = rw (flexible, headers) at new.config ∙ c.new.ensures.config;
      state = new.state;
      bytes = 10 ∷ left;
      held = new.source ∙ ap (λ x. Some (strip_bom x)) is ∙ ap Some (strip_feed left);
      reads = after_feed left;
    }
