use Rattle.std.proofs.Common.{◌≡◌, drop}
use Rattle.mmdb_data.specs.ValueTree.{MembersAreNarrow}
use Rattle.mmdb_data.specs.Spelling.{members_spelling}
use Rattle.mmdb_data.specs.Packing.{members_in, IsKept}
use Rattle.mmdb_data.specs.Section.{packed_of}
use Rattle.mmdb_data.specs.Member.{member_list}
use Rattle.mmdb_data.proofs.packing_members.append_member_list.Given as goal

abbrev pub invariant-loop-member : goal.invariant-loop-member
invariant-loop-member l = record {
  appended : members_in (member_list (drop l.member-index l.members)) (packed_of l.section)
      ≡ members_in (member_list l.members) (packed_of l.initial.section);
  narrow : MembersAreNarrow (member_list (drop l.member-index l.members));
  spelled : l.rest ≡ members_spelling (member_list (drop l.member-index l.members));
  kept : IsKept (packed_of l.initial.section) (packed_of l.section);
}
