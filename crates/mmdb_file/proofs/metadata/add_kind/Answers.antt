use Rattle.std.proofs.Common.{◌∙◌}
use Rattle.mmdb_file.proofs.WritingLemmas.{added_three, added_value}
use Rattle.mmdb_file.proofs.metadata.add_kind.Goals as goal

pub returns : goal.returns
returns c =
    c.in_ok-add_name.ensures ∙ added_three _ _ _ _ _ _ _ _
    (added_value _ _ _ _ _ c.in_ok-add.ensures c.number16.ensures)
    (added_value _ _ _ _ _ c.in_ok-add-2.ensures c.number16-2.ensures)
    (added_value _ _ _ _ _ c.in_ok-add-3.ensures c.number64.ensures)
