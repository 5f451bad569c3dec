-- The text of the block was read back, and the texts of the place were looked at.
use Rattle.std.proofs.Common.{◌∙◌, ap, sym}
use Rattle.geo_addr.specs.Prefixes.{block_in}
use Rattle.published.proofs.file.push_line.Goals as goal

pub returns-clause-form : goal.returns-clause-form
returns-clause-form c = record {
  spelt = ap block_in (sym c.in_ok-prefix.ensures.text) ∙ c.in_ok-prefix.ensures.reads_back;
  texts = c.in_ok-push_place.ensures.form;
}
