use Rattle.std.proofs.Common.{◌≡◌, ◌++◌, drop}
use Rattle.mmdb_data.specs.ValueTree.{MembersAreNarrow}
use Rattle.mmdb_data.specs.Spelling.{members_spelling}
use Rattle.mmdb_data.specs.Member.{member_list}
use Rattle.mmdb_data.proofs.packing_members.put_member_list.Given as goal

abbrev pub invariant-loop-member : goal.invariant-loop-member
invariant-loop-member l = record {
  spelled : l.out.items ++ members_spelling (member_list (drop l.member-index l.members))
      ≡ l.initial.out.items ++ members_spelling (member_list l.members);
  narrow : MembersAreNarrow (member_list (drop l.member-index l.members));
}
