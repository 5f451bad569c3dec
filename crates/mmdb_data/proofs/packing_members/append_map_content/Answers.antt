use Rattle.std.proofs.Common.{length, sym, ◌∙◌, arith}
use Rattle.mmdb_data.specs.Member.{member_list}
use Rattle.mmdb_data.specs.Section.{packed_of}
use Rattle.mmdb_data.proofs.Appending.{map_packed}
use Rattle.mmdb_data.proofs.Nested.{len-member_list, behind_head}
use Rattle.mmdb_data.proofs.packing_members.append_map_content.Goals as goal

pub append_head-requires : goal.append_head-requires
append_head-requires c = omega (arith, c.requires.narrow.0, len-member_list c.args.members.now)

pub split_at-requires : goal.split_at-requires
split_at-requires c =
    (behind_head c.args.members.now c.args.spelled.now c.head_len.result c.requires.spelled
    c.head_len.ensures.value).0

pub append_member_list-requires-clause-spelled : goal.append_member_list-requires-clause-spelled
append_member_list-requires-clause-spelled c =
    c.split_at.ensures.back
    ∙ (behind_head c.args.members.now c.args.spelled.now c.head_len.result c.requires.spelled
    c.head_len.ensures.value).1

pub returns-clause-appended : goal.returns-clause-appended
returns-clause-appended c =
    map_packed c.append_member_list.result _ (packed_of c.append_head.new.self) _
    (length c.args.members.now) (member_list c.args.members.now)
    (sym (len-member_list c.args.members.now)) c.in_ok-append_head.ensures.appended
    c.append_member_list.ensures.appended
