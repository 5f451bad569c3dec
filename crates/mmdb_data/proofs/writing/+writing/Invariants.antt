use Rattle.std.proofs.Common.{◌≡◌, ◌++◌, drop}
use Rattle.mmdb_data.specs.ValueTree.{MembersAreNarrow, ItemsAreNarrow, MembersAreTyped}
use Rattle.mmdb_data.specs.ValueTree.{ItemsAreTyped}
use Rattle.mmdb_data.specs.Spelling.{members_spelling, items_spelling}
use Rattle.mmdb_data.specs.View.{items_view, members_view}
use Rattle.mmdb_data.proofs.writing.+writing.Given as goal

abbrev pub invariant-put_items-loop-value : goal.invariant-put_items-loop-value
invariant-put_items-loop-value l = record {
  spelled : l.out.items ++ items_spelling
      (items_view (drop l.value-index l.values)) ≡ l.initial.out.items
      ++ items_spelling (items_view l.values);
  narrow : ItemsAreNarrow (items_view (drop l.value-index l.values));
  typed : ItemsAreTyped (items_view (drop l.value-index l.values))
      → ItemsAreTyped (items_view l.values);
}

abbrev pub invariant-put_members-loop-key : goal.invariant-put_members-loop-key
invariant-put_members-loop-key l = record {
  spelled : l.out.items ++ members_spelling
      (members_view (drop l.key-index l.pairs)) ≡ l.initial.out.items
      ++ members_spelling (members_view l.pairs);
  narrow : MembersAreNarrow (members_view (drop l.key-index l.pairs));
  typed : MembersAreTyped (members_view (drop l.key-index l.pairs))
      → MembersAreTyped (members_view l.pairs);
}
