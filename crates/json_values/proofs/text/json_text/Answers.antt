use Rattle.std.proofs.Common.{◌∙◌, string_bytes}
use Rattle.serde_json.specs.View.{view as data_view}
use Rattle.mmdb_data.specs.View.{value_tree}
use Rattle.json_values.proofs.JsonTexts.{written}
use Rattle.json_values.proofs.text.json_text.Goals as goal

pub returns : goal.returns
returns c =
    c.in_ok-text.ensures ∙ written (data_view c.in_ok-made.made) (value_tree c.args.value.now)
    (string_bytes c.in_ok-line.line) c.in_ok-made.ensures c.in_ok-line.ensures.text
