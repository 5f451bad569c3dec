use Rattle.std.proofs.Common.{◌≡◌, ◌≤◌, ◌+◌, ◌*◌, drop}
use Rattle.mmdb_data.specs.ValueTree.{count, members_count, items_count, MembersAreNarrow}
use Rattle.mmdb_data.specs.ValueTree.{ItemsAreNarrow}
use Rattle.mmdb_data.specs.View.{value_tree, items_view, members_view}
use Rattle.mmdb_data.specs.Packing.{members_in, items_in, IsKept}
use Rattle.mmdb_data.specs.Section.{packed_of}
use Rattle.mmdb_data.proofs.packing.+packing.Given as goal

abbrev pub decreases-append_part : goal.decreases-append_part
decreases-append_part l = 4 * count (value_tree l.value.now) + 2

abbrev pub decreases-append_full : goal.decreases-append_full
decreases-append_full l = 4 * count (value_tree l.value.now) + 1

abbrev pub decreases-append_content : goal.decreases-append_content
decreases-append_content l = 4 * count (value_tree l.value.now)

abbrev pub decreases-append_members : goal.decreases-append_members
decreases-append_members l = 4 * members_count (members_view l.pairs.now) + 3

abbrev pub decreases-append_items : goal.decreases-append_items
decreases-append_items l = 4 * items_count (items_view l.values.now) + 3

abbrev pub invariant-append_items-loop-value : goal.invariant-append_items-loop-value
invariant-append_items-loop-value l = record {
  appended : items_in (items_view (drop l.value-index l.values)) (packed_of l.section) ≡ items_in
      (items_view l.values) (packed_of l.initial.section);
  narrow : ItemsAreNarrow (items_view (drop l.value-index l.values));
  kept : IsKept (packed_of l.initial.section) (packed_of l.section);
  fewer : items_count (items_view (drop l.value-index l.values)) ≤ items_count
      (items_view l.values);
}

abbrev pub invariant-append_members-loop-key : goal.invariant-append_members-loop-key
invariant-append_members-loop-key l = record {
  appended : members_in (members_view (drop l.key-index l.pairs)) (packed_of l.section) ≡ members_in
      (members_view l.pairs) (packed_of l.initial.section);
  narrow : MembersAreNarrow (members_view (drop l.key-index l.pairs));
  kept : IsKept (packed_of l.initial.section) (packed_of l.section);
  fewer : members_count (members_view (drop l.key-index l.pairs)) ≤ members_count
      (members_view l.pairs);
}
