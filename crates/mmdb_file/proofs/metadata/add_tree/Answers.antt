use Rattle.std.proofs.Common.{◌∙◌, ap}
use Rattle.mmdb_data.specs.ValueTree.{ValueTree, list, item, no_items, u16}
use Rattle.mmdb_file.proofs.WritingLemmas.{added_four, added_value}
use Rattle.mmdb_file.proofs.metadata.add_tree.Goals as goal

pub returns : goal.returns
returns c =
    added_four _ _ _ _ _ _ _ _ _
    (added_value _ _ _ _ _ c.in_ok-add.ensures c.number16.ensures)
    (added_value _ _ _ _ _ c.in_ok-add-2.ensures (c.in_ok-languages.ensures
    ∙ ap (λ (t : ValueTree). list (item t no_items)) c.in_ok-text.ensures))
    (added_value _ _ _ _ _ c.in_ok-add-3.ensures c.number32.ensures)
    (added_value _ _ _ _ _ c.in_ok-add-4.ensures
    (c.number16-size.ensures ∙ ap u16 (c.from.ensures ∙ c.size.ensures)))
