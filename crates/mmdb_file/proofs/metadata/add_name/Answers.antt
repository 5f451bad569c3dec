use Rattle.std.proofs.Common.{◌∙◌, ap, codes}
use Rattle.mmdb_data.specs.ValueTree.{ValueTree}
use Rattle.mmdb_file.specs.Metadata.{english}
use Rattle.mmdb_file.specs.PlaceValue.{one}
use Rattle.mmdb_file.proofs.WritingLemmas.{added_two, added_value}
use Rattle.mmdb_file.proofs.metadata.add_name.Goals as goal

pub returns : goal.returns
unfolding english
returns c =
    added_two _ _ _ _ _
    (added_value _ _ _ _ _ c.in_ok-add.ensures c.in_ok-kind.ensures)
    (added_value _ _ _ _ _ c.in_ok-add-2.ensures
    (c.in_ok-english.ensures ∙ ap (λ (t : ValueTree). one (codes "en") t) c.in_ok-text.ensures))
