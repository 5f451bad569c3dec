use Rattle.std.proofs.Common.{◌≡◌, drop}
use Rattle.mmdb_data.specs.ValueTree.{members_fit as are_members_fit}
use Rattle.mmdb_data.specs.ValueTree.{items_fit as are_items_fit}
use Rattle.mmdb_data.specs.View.{items_view, members_view}
use Rattle.mmdb_data.proofs.sizes.+sizes.Given as goal

abbrev pub invariant-items_fit-loop-value : goal.invariant-items_fit-loop-value
invariant-items_fit-loop-value l =
    are_items_fit (items_view (drop l.value-index l.values)) l.levels ≡ are_items_fit
    (items_view l.values) l.levels

abbrev pub invariant-members_fit-loop-key : goal.invariant-members_fit-loop-key
invariant-members_fit-loop-key l =
    are_members_fit (members_view (drop l.key-index l.pairs)) l.levels ≡ are_members_fit
    (members_view l.pairs) l.levels
